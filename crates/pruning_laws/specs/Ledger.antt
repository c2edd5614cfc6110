-- Ledgers of kept sides, each with what refutes the other side.
use Rattle.std.specs.Prelude.{◌≡◌, ℕ, ◌==◌, ◌&&◌, List, [], ◌∷◌, Bool, true, false, Some, slice_get}
use Rattle.std.specs.List.{list_any}
use Rattle.serializability.specs.Polygraph.{Choice, Polygraph}
use Rattle.pruning_laws.specs.declared.side.Side.{Side}
use Rattle.pruning_laws.specs.declared.side.Side.TheVariants.{One, Two}
use Rattle.pruning_laws.specs.Forced.{edges_of, other, Sides, edges_with, IsRefuted}

abbrev pub same_side : Side → Side → Bool
same_side One One = true
same_side One Two = false
same_side Two One = false
same_side Two Two = true

-- a choice and the side kept of it
abbrev pub Entry : Type 0
Entry = ℕ × Side

abbrev pub sides_in : List Entry → Sides
sides_in entries c s = list_any (λ e. (e.0 == c) && same_side e.1 s) entries

-- the newest entry is the first: its other side is refuted by what the earlier ones keep
abbrev pub IsLedger : Polygraph → List Entry → Type 0
IsLedger p [] = Unit {0}
IsLedger p (e ∷ earlier) =
    ((h : Choice) × ((slice_get p.choices e.0 ≡ Some h)
    × IsRefuted (edges_with p (sides_in earlier)) (edges_of h (other e.1))))
    × IsLedger p earlier
