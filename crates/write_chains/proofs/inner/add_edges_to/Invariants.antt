use Rattle.write_chains.proofs.Prelude.{◌≡◌, ◌++◌, Some, take, edges_before}
use Rattle.write_chains.proofs.inner.add_edges_to.Given as goal

abbrev pub invariant-loop-reader : goal.invariant-loop-reader
invariant-loop-reader l = l.edges.items ≡ l.initial.edges.items ++ edges_before (take l.reader-index l.readers) (Some l.writer)
