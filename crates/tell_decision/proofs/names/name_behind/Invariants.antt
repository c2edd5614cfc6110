use Rattle.std.proofs.Common.{◌≡◌, drop}
use Rattle.tell_reasons.specs.declared.names.TheConstants.{NO_EDGES}
use Rattle.tell_decision.specs.Names.{mildest_after}
use Rattle.tell_decision.proofs.names.name_behind.Given as goal

abbrev pub invariant-loop-i : goal.invariant-loop-i
invariant-loop-i l = mildest_after l.history l.circle (drop l.i l.items) ≡ mildest_after l.history NO_EDGES l.items
