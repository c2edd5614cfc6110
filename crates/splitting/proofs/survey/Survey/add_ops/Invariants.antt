use Rattle.splitting.proofs.Prelude.{take, Finds}
use Rattle.splitting.proofs.survey.Survey.add_ops.Given as goal

abbrev pub invariant-loop-op : goal.invariant-loop-op
invariant-loop-op l = Finds l.fn.self (take l.op-index l.ops) l.self
