use Rattle.splitting.proofs.Prelude.{drop, AreSides}
use Rattle.splitting.proofs.bare.Sides.of.Given as goal

abbrev pub invariant-loop-op : goal.invariant-loop-op
invariant-loop-op l = AreSides l.ops l.sides (drop l.op-index l.ops)
