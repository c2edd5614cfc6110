use Rattle.census.proofs.Prelude.{◌≡◌, false, take, list_any, loses_among}
use Rattle.census.proofs.lost.is_any_lost.Given as goal

abbrev pub invariant-loop-op : goal.invariant-loop-op
invariant-loop-op l = list_any (loses_among l.updates l.states) (take l.op-index l.ops) ≡ false
