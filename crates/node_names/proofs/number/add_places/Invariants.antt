use Rattle.node_names.proofs.Prelude.{◌≡◌, ◌++◌, ℕ, map, view_txn, Committed, nodes_from}
use Rattle.node_names.proofs.number.add_places.Given as goal

abbrev pub invariant-loop-i : goal.invariant-loop-i
invariant-loop-i l = (number : ℕ) →
    l.places.items ++ map (λ (c : Committed). (l.of, c.place)) (nodes_from number l.i (map view_txn l.txns))
    ≡ l.fn.places.items ++ map (λ (c : Committed). (l.of, c.place)) (nodes_from number 0 (map view_txn l.txns))
