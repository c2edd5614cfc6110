-- The open choices, as a list and as bits.
use Rattle.std.specs.Prelude.{◌≡◌, ℕ, ◌≤◌, List, Bool, false, Option, is_none, length, slice_get, drop}
use Rattle.std.specs.Option.{option_map_or}
use Rattle.pruning_laws.specs.declared.side.Side.{Side}
use Rattle.known_graph.specs.Bits.{bit_of, row_len}
use Rattle.branching.specs.Picks.{open_from}
use Rattle.polygraph.specs.declared.index.TheConstants.{MAX_CHOICES}

-- whether there is such a choice and it is open
abbrev pub is_open_at : List (Option Side) → ℕ → Bool
is_open_at sides c = option_map_or is_none (slice_get sides c) false

-- the numbers of the open choices from this one on, ascending
abbrev pub open_past : List (Option Side) → ℕ → List ℕ
open_past sides from = open_from from (drop from sides)

-- a bit for each choice, set where it is open
pub record AreBits (sides : List (Option Side)) (words : List ℕ) : Type 0 where
  pub few : length sides ≤ MAX_CHOICES
  pub bits : (c : ℕ) → bit_of words c ≡ is_open_at sides c
  pub len : length words ≡ row_len (length sides)
