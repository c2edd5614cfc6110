-- Sides that the edges of a cube refute, and the pick of a choice that has one.
use Rattle.std.specs.Prelude.{◌≡◌, ◌<◌, ◌≤◌, true, false, ℕ, zero, suc, ◌+◌, ◌&&◌, ◌||◌, List, Bool, Option, slice_get, if◌then◌else◌}
use Rattle.std.specs.Option.{option_or}
use Rattle.std.specs.List.{filter, list_any}
use Rattle.serializability.specs.Polygraph.{Edge}
use Rattle.pruning_laws.specs.declared.side.Side.{Side}
use Rattle.pruning_laws.specs.declared.side.Side.TheVariants.{One, Two}
use Rattle.known_graph.specs.Tests.{has_edge}
use Rattle.prune_ledger.specs.Ledger.{side_of}
use Rattle.branching.specs.View.{View, is_open_in, edges_in}
use Rattle.branching.specs.Picks.{open_choices, most_edges}

-- whether a walk leads from u to w by inner nodes below k alone: one below k + 1 passes node k not
-- at all, or goes there and on (Warshall, JACM 1962)
unfoldable pub reaches_below : List Edge → ℕ → ℕ → ℕ → Bool
reaches_below edges zero u w = has_edge edges (u, w)
reaches_below edges (suc k) u w = reaches_below edges k u w ||
    (reaches_below edges k u k && reaches_below edges k k w)

-- whether a node reaches another by the known edges and those of the decided sides
unfoldable pub reaches_in : View → ℕ → ℕ → Bool
reaches_in v u w = reaches_below (edges_in v) (v.polygraph.nodes + 1) u w

-- whether a side of a choice is refuted by these edges: it has an edge from u to w such that w
-- reaches u
unfoldable pub is_refuted_in : View → ℕ → Side → Bool
is_refuted_in v c side = list_any (λ e. reaches_in v e.1 e.0) (side_of v.polygraph.choices c side)

-- whether a side of a choice is refuted, so that the other one is forced
unfoldable pub is_forced_in : View → ℕ → Bool
is_forced_in v c = is_refuted_in v c One || is_refuted_in v c Two

-- of the open choices from one number on and below another none has such a side
pub record AreUnforced (v : View) (from to : ℕ) : Type 0 where
  pub each : (c : ℕ) → from ≤ c → c < to → is_open_in v c ≡ true → is_forced_in v c ≡ false

-- the open choice of least number of which a side is refuted
abbrev pub first_forced : View → Option ℕ
first_forced v = slice_get (filter (is_forced_in v) (open_choices v)) 0

-- that choice, and where there is none the open one with the most edges
abbrev pub forced_or_most : View → Option ℕ
forced_or_most v = option_or (first_forced v) (most_edges v)

-- side two where side one is refuted, else side one
abbrev pub side_left : View → ℕ → Side
side_left v c = if is_refuted_in v c One then Two else One
