use Rattle.std.proofs.Common.{◌≡◌, drop}
use Rattle.tell_reasons.specs.declared.names.TheConstants.{NO_EDGES}
use Rattle.tell_decision.specs.Names.{shape_after}
use Rattle.tell_decision.proofs.names.shape_of.Given as goal

abbrev pub invariant-loop-i : goal.invariant-loop-i
invariant-loop-i l = shape_after l.history l.line (drop l.i l.items) ≡ shape_after l.history NO_EDGES l.items
