use Rattle.write_chains.proofs.Prelude.{take, log_of}
use Rattle.write_chains.proofs.Nexts.{NextAmong}
use Rattle.write_chains.proofs.links.next_of.Given as goal

abbrev pub invariant-loop-writer : goal.invariant-loop-writer
invariant-loop-writer l = NextAmong (log_of l.history) l.key (take l.writer-index l.writer-items) l.table.items
