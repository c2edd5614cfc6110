use Rattle.write_chains.proofs.Prelude.{ℕ, All, Log, IsOpen, AreOpen}
use Rattle.write_chains.proofs.closed.mark.Given as goal

abbrev pub invariant-loop-node : goal.invariant-loop-node
invariant-loop-node l = (log : Log) (x : ℕ) → AreOpen log x l.initial.marks → All (IsOpen log x) l.nodes → AreOpen log x l.marks
