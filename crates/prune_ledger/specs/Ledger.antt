-- Ledgers: posts, each with a walk that refutes its side by what was known when it came.
use Rattle.std.specs.Prelude.{ℕ, List, [], ◌∷◌, slice_get}
use Rattle.std.specs.Option.{option_map_or}
use Rattle.std.specs.List.{Contains}
use Rattle.serializability.specs.Polygraph.{Edge, Choice, Polygraph}
use Rattle.reach_laws.specs.Reach.{IsWalk}
use Rattle.pruning_laws.specs.declared.side.Side.{Side}
use Rattle.pruning_laws.specs.Forced.{edges_of, other, edges_with}
use Rattle.pruning_laws.specs.Ledger.{Entry, sides_in}
use Rattle.prune_ledger.specs.Posted.{Posted}

-- the edges of a side of a choice; there are none where there is no such choice
abbrev pub side_of : List Choice → ℕ → Side → List Edge
side_of choices c side = option_map_or (λ h. edges_of h side) (slice_get choices c) []

-- the side that a post keeps
abbrev pub kept_side : Posted → Entry
kept_side q = (q.choice, other q.side)

-- the sides that are kept once these posts have come after earlier ones, the newest first
abbrev pub kept_after : List Entry → List Posted → List Entry
kept_after earlier [] = earlier
kept_after earlier (q ∷ qs) = kept_after (kept_side q ∷ earlier) qs

-- the known edges and those of the kept sides
abbrev pub edges_after : Polygraph → List Entry → List Edge
edges_after p kept = edges_with p (sides_in kept)

-- the edge is in the refused side, and the walk leads against it over the known edges and the sides
-- kept before
pub record IsShown (p : Polygraph) (kept : List Entry) (q : Posted) : Type 0 where
  pub within : Contains (side_of p.choices q.choice q.side) q.edge
  pub walk : IsWalk (edges_after p kept) q.edge.1 q.edge.0 q.walk

-- each of these posts is shown by the sides kept before the first one and those that earlier posts
-- keep
abbrev pub AreShown : Polygraph → List Entry → List Posted → Type 0
AreShown p kept [] = Unit {0}
AreShown p kept (q ∷ qs) = IsShown p kept q × AreShown p (kept_side q ∷ kept) qs
