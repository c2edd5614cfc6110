use Rattle.std.proofs.Common.{◌≡◌, ◌++◌}
use Rattle.tell_texts.specs.Texts.{indent}
use Rattle.tell_texts.proofs.text.put_indent.Given as goal

abbrev pub invariant-loop : goal.invariant-loop
invariant-loop l = l.out.items ≡ l.initial.out.items ++ indent l.counter
