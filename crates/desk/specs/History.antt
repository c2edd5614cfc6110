-- Legal histories of a machine.
use Rattle.std.specs.Prelude.{◌≡◌, ℕ, ◌==◌, List, [], ◌∷◌, ◌++◌, ⊤, Option, Some, None, if◌then◌else◌}
use Rattle.desk.specs.declared.history.Entry.{Entry}

-- a step by its parts
abbrev pub entry : {E R : Type 0} → ℕ → E → R → Entry E R
entry seat event reply = record { seat = seat; event = event; reply = reply }

-- the last state of a history
abbrev pub replay : {S E R : Type 0} → (S → ℕ → E → S) → S → List (Entry E R) → S
replay next s [] = s
replay next s (x ∷ xs) = replay next (next s x.seat x.event) xs

-- each reply is the one that the machine gives at that point
abbrev pub IsLegal : {S E R : Type 0} → (S → ℕ → E → S) → (S → ℕ → E → R) → S → List (Entry E R)
    → Type 0
IsLegal next reply s [] = ⊤
IsLegal next reply s (x ∷ xs) = (x.reply ≡ reply s x.seat x.event)
    × IsLegal next reply (next s x.seat x.event) xs

-- a seat's part of a history: its events with their replies, in order
abbrev pub part_of : {E R : Type 0} → ℕ → List (Entry E R) → List (E × R)
part_of seat [] = []
part_of seat (x ∷ xs) = if x.seat == seat then
    (x.event, x.reply) ∷ part_of seat xs else part_of seat xs

-- the opening state that a list of one call stands for
abbrev pub opening_of : {S C : Type 0} → List (S × C) → Option S
opening_of [] = None
opening_of (x ∷ xs) = Some x.0

-- the history is legal from the opening state, and leads to this state
abbrev pub IsReached : {S E R : Type 0} → (S → ℕ → E → S) → (S → ℕ → E → R) → Option S
    → List (Entry E R) → S → Type 0
IsReached {S} next reply opening history now = (first : S) × (opening ≡ Some first)
    × IsLegal next reply first history × (now ≡ replay next first history)

-- The machine took this event of the seat and gave this answer, in a state that a legal history
-- reaches and that is allowed.
-- The history that ends with the call is legal too, and its part of the seat is this list.
pub record IsEntered {S E R : Type 0} (next : S → ℕ → E → S) (reply : S → ℕ → E → R)
    (Allowed : S → Type 0) (seat : ℕ) (event : E) (answer : R) (calls : List (E × R)) : Type 0 where
  pub opening : Option S
  pub before : List (Entry E R)
  pub state : S
  pub allowed : Allowed state
  pub reached : IsReached next reply opening before state
  pub legal : IsReached next reply opening (before ++ entry seat event answer ∷ [])
      (next state seat event)
  pub part : part_of seat (before ++ entry seat event answer ∷ []) ≡ calls
