use Rattle.std.proofs.Common.{◌≡◌, drop}
use Rattle.std.specs.List.{list_any}
use Rattle.session_log.specs.Text.{is_write}
use Rattle.point_orders.proofs.halves.has_write.Given as goal

abbrev pub invariant-loop-op : goal.invariant-loop-op
invariant-loop-op l = list_any is_write (drop l.op-index l.ops) ≡ list_any is_write l.ops
