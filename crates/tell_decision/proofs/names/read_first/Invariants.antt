use Rattle.std.proofs.Common.{◌≡◌, drop}
use Rattle.serializability.specs.Reads.{external_read}
use Rattle.tell_decision.proofs.names.read_first.Given as goal

abbrev pub invariant-loop-i : goal.invariant-loop-i
invariant-loop-i l = external_read l.key (drop l.i l.events) ≡ external_read l.key l.events
