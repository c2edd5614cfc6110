-- Tests of edges and of cycles, by what is listed and flagged.
use Rattle.std.specs.Prelude.{ℕ, ◌==◌, ◌&&◌, ◌||◌, nat_lt, Bool, List, [], ◌∷◌, length, drop, slice_index, Vec}
use Rattle.std.specs.declared.alloc.Global.{Global}
use Rattle.serializability.specs.Polygraph.{Edge}
use Rattle.known_graph.specs.Tests.{has_edge}
use Rattle.side_edges.specs.Listed.{is_listed}
use Rattle.side_edges.specs.declared.SideEdge.{SideEdge}
use Rattle.cube_machine.specs.Flags.{flag_at}
use Rattle.cube_machine.specs.declared.decided.SideFlags.{SideFlags}

-- whether an edge is known, or listed of a flagged side
abbrev pub is_among : List Edge → List (Vec SideEdge Global) → List SideFlags → Edge → Bool
is_among known lists flags e = has_edge known e || is_listed (flag_at flags) lists e

-- from u each step to these nodes passes, and the last node is v
abbrev pub leads_by : (Edge → Bool) → ℕ → List ℕ → ℕ → Bool
leads_by t u [] v = u == v
leads_by t u (w ∷ ws) v = t (u, w) && leads_by t w ws v

-- whether these are the nodes of a walk of at least one step that ends where it begins, each step
-- of which passes
abbrev pub is_cycle_by : (Edge → Bool) → List ℕ → Bool
is_cycle_by t line = nat_lt 1 (length line) && leads_by t (slice_index line 0) (drop 1 line)
    (slice_index line 0)
