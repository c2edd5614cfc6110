use Rattle.write_chains.proofs.Prelude.{take, AllByRecursion, log_of, IsOpen, AreOpen}
use Rattle.write_chains.proofs.closed.closed_chain_of.Given as goal

abbrev pub invariant-loop-writer : goal.invariant-loop-writer
invariant-loop-writer l = record {
  marks : AreOpen (log_of l.history) l.key l.marks;
  writers : AllByRecursion (IsOpen (log_of l.history) l.key) (take l.writer-index l.writer-items);
}
