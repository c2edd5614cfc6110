-- The edges of all sides by their targets.
use Rattle.std.specs.Prelude.{◌≡◌, ℕ, ◌==◌, ◌&&◌, ◌||◌, Bool, List, [], slice_get, Vec}
use Rattle.std.specs.Option.{option_map_or}
use Rattle.std.specs.List.{list_any}
use Rattle.std.specs.declared.alloc.Global.{Global}
use Rattle.serializability.specs.Polygraph.{Edge, Choice}
use Rattle.pruning_laws.specs.declared.side.Side.{Side}
use Rattle.pruning_laws.specs.Forced.{Sides, kept_from}
use Rattle.known_graph.specs.Tests.{has_edge}
use Rattle.side_edges.specs.declared.SideEdge.{SideEdge}

-- the list of a node; there is none past the last one
abbrev pub list_of : List (Vec SideEdge Global) → ℕ → List SideEdge
list_of lists t = option_map_or (λ l. l.items) (slice_get lists t) []

-- whether an edge is listed of one of these sides
abbrev pub is_listed : Sides → List (Vec SideEdge Global) → Edge → Bool
is_listed sides lists e = list_any (λ x. (x.source == e.0) && sides x.choice x.side)
    (list_of lists e.1)

pub record AreEmpty (lists : List (Vec SideEdge Global)) : Type 0 where
  pub each : (t : ℕ) → list_of lists t ≡ []

-- the list of a node has an entry more
pub record AddsEntry (t : ℕ) (x : SideEdge) (old new : List (Vec SideEdge Global)) : Type 0 where
  pub each : (sides : Sides) (e : Edge) → is_listed sides new e
      ≡ (is_listed sides old e || ((t == e.1) && ((x.source == e.0) && sides x.choice x.side)))

-- these edges of a side of a choice are listed
pub record AddsSide (c : ℕ) (side : Side) (edges : List Edge)
    (old new : List (Vec SideEdge Global)) : Type 0 where
  pub each : (sides : Sides) (e : Edge) → is_listed sides new e
      ≡ (is_listed sides old e || (sides c side && has_edge edges e))

-- the edges of all sides are listed, and no others
pub record HasSides (choices : List Choice) (lists : List (Vec SideEdge Global)) : Type 0 where
  pub each : (sides : Sides) (e : Edge) → is_listed sides lists e ≡ has_edge
      (kept_from sides 0 choices) e
