use Rattle.audit_command.proofs.Prelude.{◌≡◌, ◌++◌, AreLines}
use Rattle.audit_command.proofs.printed.only_lines.Given as goal

abbrev pub invariant-loop-text : goal.invariant-loop-text
invariant-loop-text l = record {
  whole : l.yielded ++ l.text-iterator.rest.items ≡ l.fn.texts.items;
  lines : AreLines l.lines.items;
  same : AreLines l.yielded → l.lines.items ≡ l.yielded;
}
