-- Tests of a ledger, which copy no graph: an edge is held where it is known, or of a side that an
-- entry keeps.
use Rattle.std.specs.Prelude.{ℕ, ◌==◌, ◌&&◌, ◌||◌, nat_lt, List, [], ◌∷◌, ◌++◌, Bool, true, length, drop, slice_index}
use Rattle.std.specs.List.{list_any}
use Rattle.serializability.specs.Polygraph.{Edge, Polygraph}
use Rattle.pruning_laws.specs.Forced.{other}
use Rattle.prune_ledger.specs.Posted.{Posted}
use Rattle.known_graph.specs.Tests.{has_edge}
use Rattle.prune_ledger.specs.Ledger.{side_of}
use Rattle.prune_ledger.specs.declared.ledger.LedgerEntry.{LedgerEntry}

-- whether the edge is of the side that the post keeps
abbrev pub is_of : Polygraph → Edge → Posted → Bool
is_of p e q = has_edge (side_of p.choices q.choice (other q.side)) e

abbrev pub is_held : Polygraph → List LedgerEntry → Edge → Bool
is_held p entries e = has_edge p.known e || list_any (λ x. is_of p e x.post) entries

-- from u each step to these nodes is held, and the last node is v
abbrev pub leads_by : Polygraph → List LedgerEntry → ℕ → List ℕ → ℕ → Bool
leads_by p entries u [] v = u == v
leads_by p entries u (w ∷ ws) v = is_held p entries (u, w) && leads_by p entries w ws v

abbrev pub is_line_by : Polygraph → List LedgerEntry → ℕ → List ℕ → ℕ → Bool
is_line_by p entries u line v = nat_lt 1 (length line) &&
    ((slice_index line 0 == u) && leads_by p entries u (drop 1 line) v)

-- the edge is in the refused side, and the walk leads against it by what these entries hold
abbrev pub is_shown_by : Polygraph → List LedgerEntry → Posted → Bool
is_shown_by p entries q = has_edge (side_of p.choices q.choice q.side) q.edge && is_line_by p
    entries q.edge.1 q.walk q.edge.0

-- each of these entries is shown by those before it
abbrev pub are_shown_by : Polygraph → List LedgerEntry → List LedgerEntry → Bool
are_shown_by p earlier [] = true
are_shown_by p earlier (x ∷ xs) = is_shown_by p earlier x.post && are_shown_by p
    (earlier ++ x ∷ []) xs

abbrev pub is_cycle_by : Polygraph → List LedgerEntry → List ℕ → Bool
is_cycle_by p entries line = is_line_by p entries (slice_index line 0) line (slice_index line 0)
