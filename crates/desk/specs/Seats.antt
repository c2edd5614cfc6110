-- Seats by their numbers.
use Rattle.std.specs.List.{list_any}
use Rattle.std.specs.Prelude.{◌≡◌, ℕ, ◌+◌, ◌<◌, ◌≤◌, List, [], Bool, false, true, ◌==◌, Some, length, slice_get}
use Rattle.desk.specs.Views.{SeatView}

-- the number of one of these seats, which are numbered from 1 on
abbrev pub IsSeat : List ℕ → ℕ → Type 0
IsSeat names n = (0 < n) × (n ≤ length names)

-- whether a seat of this number is among these
abbrev pub has_seat : {E R : Type 0} → ℕ → List (SeatView E R) → Bool
has_seat n seats = list_any (λ x. x.number == n) seats

-- the seats from 1 up to this number are among these
abbrev pub HasSeatsTo : {E R : Type 0} → ℕ → List (SeatView E R) → Type 0
HasSeatsTo n seats = (k : ℕ) → 0 < k → k ≤ n → has_seat k seats ≡ true

-- the least number of a seat that is not among these
abbrev pub IsLeastMissing : {E R : Type 0} → List (SeatView E R) → ℕ → Type 0
IsLeastMissing seats n = (has_seat n seats ≡ false)
    × ((k : ℕ) → 0 < k → k < n → has_seat k seats ≡ true)

-- seats from 1 on, in order, with no call
abbrev pub AreFresh : {E R : Type 0} → List (SeatView E R) → Type 0
AreFresh {E} {R} seats = (k : ℕ) (x : SeatView E R) → slice_get seats k ≡ Some x
    → (x.number ≡ k + 1) × (x.calls ≡ [])

-- the numbers of these are 1, 2 and so on
abbrev pub AreNumbered : {X : Type 0} → (X → ℕ) → List X → Type 0
AreNumbered {X} number xs = (k : ℕ) (x : X) → slice_get xs k ≡ Some x → number x ≡ k + 1
