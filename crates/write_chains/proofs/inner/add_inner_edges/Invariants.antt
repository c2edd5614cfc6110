use Rattle.write_chains.proofs.Prelude.{◌≡◌, ℕ, ◌+◌, ◌++◌, List, Option, flat_map, range_with_len, AreLists, IsTable, edges_before}
use Rattle.write_chains.proofs.inner.add_inner_edges.Given as goal

abbrev pub invariant-loop-node : goal.invariant-loop-node
invariant-loop-node l = (n : ℕ) (f : ℕ → Option ℕ) (g : ℕ → List ℕ) → IsTable n f l.links.next.items → AreLists (n + 1) g l.links.readers.items
    → l.edges.items ≡ l.initial.edges.items ++ flat_map (λ w. edges_before (g w) (f w)) (range_with_len 0 l.node)
