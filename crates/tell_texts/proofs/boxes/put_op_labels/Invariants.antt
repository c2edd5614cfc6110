use Rattle.std.proofs.Common.{◌≡◌, ◌++◌}
use Rattle.tell_texts.specs.Graphs.{op_labels}
use Rattle.tell_texts.proofs.boxes.put_op_labels.Given as goal

abbrev pub invariant-loop-op : goal.invariant-loop-op
invariant-loop-op l = l.out.items ≡ l.initial.out.items ++ op_labels l.look l.log l.items l.node l.op
