use Rattle.write_chains.proofs.Prelude.{◌+◌, ◌-◌, length, log_of}
use Rattle.write_chains.proofs.Backwards.{WalkedBack}
use Rattle.write_chains.proofs.closed.walk_back.Given as goal

abbrev pub invariant-loop-source : goal.invariant-loop-source
invariant-loop-source l = WalkedBack (log_of l.history) l.key l.writer l.first l.line.items

abbrev pub decreases-loop-source : goal.decreases-loop-source
decreases-loop-source l = (log_of l.history).nodes + 2 - length l.line.items
