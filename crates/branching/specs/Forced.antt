-- What the pick of a forced choice means.
use Rattle.std.specs.Prelude.{◌≡◌, ◌⊎◌, ℕ, ◌<◌, true}
use Rattle.pruning_laws.specs.declared.side.Side.{Side}
use Rattle.pruning_laws.specs.Forced.{IsRefuted}
use Rattle.prune_ledger.specs.Ledger.{side_of}
use Rattle.branching.specs.View.{View, is_open_in, edges_in}
use Rattle.branching.specs.Meant.{HasMost}

-- an edge of the side goes against a walk of the known edges and those of the decided sides
abbrev pub IsRefutedSide : View → ℕ → Side → Type 0
IsRefutedSide v c side = IsRefuted (edges_in v) (side_of v.polygraph.choices c side)

-- a side of the choice is refuted
abbrev pub IsForcedChoice : View → ℕ → Type 0
IsForcedChoice v c = (side : Side) × IsRefutedSide v c side

-- the choice is open, a side of it is refuted, and no open one of lesser number has such a side
pub record HasForced (v : View) (c : ℕ) : Type 0 where
  pub free : is_open_in v c ≡ true
  pub forced : IsForcedChoice v c
  pub first : (d : ℕ) → is_open_in v d ≡ true → d < c → IsForcedChoice v d → ⊥

-- no open choice has a refuted side, and this is the open one with the most edges
pub record HasNoneForced (v : View) (c : ℕ) : Type 0 where
  pub none : (d : ℕ) → is_open_in v d ≡ true → IsForcedChoice v d → ⊥
  pub most : HasMost v c

-- the first open choice of which a side is refuted, else the one with the most edges
abbrev pub HasForcedOrMost : View → ℕ → Type 0
HasForcedOrMost v c = HasForced v c ⊎ HasNoneForced v c
