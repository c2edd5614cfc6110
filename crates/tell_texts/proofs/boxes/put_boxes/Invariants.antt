use Rattle.std.proofs.Common.{◌≡◌, ◌++◌}
use Rattle.tell_texts.specs.Graphs.{boxes}
use Rattle.tell_texts.proofs.boxes.put_boxes.Given as goal

abbrev pub invariant-loop-before : goal.invariant-loop-before
invariant-loop-before l = l.out.items ≡ l.initial.out.items ++ boxes l.look l.log l.items l.before
