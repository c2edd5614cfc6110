-- Tests of edges and walks.
use Rattle.std.specs.Prelude.{ℕ, ◌==◌, ◌&&◌, nat_lt, List, [], ◌∷◌, Bool, length, drop, slice_index}
use Rattle.std.specs.List.{list_any}
use Rattle.serializability.specs.Polygraph.{Edge}

abbrev pub has_edge : List Edge → Edge → Bool
has_edge edges e = list_any (λ x. (x.0 == e.0) && (x.1 == e.1)) edges

-- from u each step to these nodes is an edge, and the last node is v
abbrev pub leads : List Edge → ℕ → List ℕ → ℕ → Bool
leads edges u [] v = u == v
leads edges u (w ∷ ws) v = has_edge edges (u, w) && leads edges w ws v

-- whether these are the nodes of a walk from u to v, both included: at least two, and each step is
-- an edge
abbrev pub is_line : List Edge → ℕ → List ℕ → ℕ → Bool
is_line edges u line v = nat_lt 1 (length line) &&
    ((slice_index line 0 == u) && leads edges u (drop 1 line) v)
