-- How the halves of the seats' lists stand to each other and to the history.
use Rattle.std.specs.Prelude.{◌≡◌, ℕ, ◌+◌, All, List, [], ◌∷◌, Bool, true, false, Some, length, slice_get}
use Rattle.desk.specs.declared.history.Entry.{Entry}
use Rattle.desk.specs.declared.row.SeatRow.{SeatRow}
use Rattle.desk.specs.declared.row.UnnamedSeat.{UnnamedSeat}
use Rattle.desk.specs.History.{part_of}
use Rattle.desk.specs.Seats.{IsSeat}

-- there is a row for each name, in order; the row of a seat has the seat's part of the history; and
-- the history has calls of these seats alone
abbrev pub AreTied : {E R : Type 0} → List ℕ → List (SeatRow E R) → List (Entry E R) → Type 0
AreTied {E} {R} names rows history =
    (length rows ≡ length names)
    × ((k : ℕ) (x : SeatRow E R) → slice_get rows k ≡ Some x
    → (slice_get names k ≡ Some x.account.name) × (x.account.calls ≡ part_of (k + 1) history))
    × All (λ x. IsSeat names x.seat) history

-- 1 for a seat that has not left
abbrev pub place_of : Bool → ℕ
place_of true = 0
place_of false = 1

-- how many seats have not left
abbrev pub staying : {E R : Type 0} → List (SeatRow E R) → ℕ
staying [] = 0
staying (x ∷ xs) = place_of x.left + staying xs

-- the names of the rows
abbrev pub names_of : {E R : Type 0} → List (SeatRow E R) → List ℕ
names_of [] = []
names_of (x ∷ xs) = x.account.name ∷ names_of xs

-- these seats in order, with these names and no call
abbrev pub AreNamed : {E R : Type 0} → List ℕ → List (UnnamedSeat E R) → Type 0
AreNamed {E} {R} names seats =
    (k : ℕ) (x : UnnamedSeat E R) → slice_get seats k ≡ Some x
    → (x.number ≡ k + 1) × (slice_get names k ≡ Some x.receipt.name) × (x.receipt.left ≡ false)
    × (x.receipt.calls ≡ [])

-- no row has a call, and the seats' own halves are those of the rows, in order
abbrev pub AreSeated : {E R : Type 0} → List (SeatRow E R) → List (UnnamedSeat E R) → Type 0
AreSeated {E} {R} rows seats =
    (length seats ≡ length rows)
    × ((k : ℕ) (x : SeatRow E R) → slice_get rows k ≡ Some x → x.account.calls ≡ [])
    × AreNamed (names_of rows) seats
