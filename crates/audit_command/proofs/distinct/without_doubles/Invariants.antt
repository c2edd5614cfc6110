use Rattle.audit_command.proofs.Prelude.{◌≡◌, ℕ, ◌≤◌, ◌<◌, ◌++◌, List, length, ClientSession, AuditOptions, AreToldParts, AreDistinct, AreLeastFirst}
use Rattle.audit_command.proofs.distinct.without_doubles.Given as goal

abbrev pub invariant-loop-part : goal.invariant-loop-part
invariant-loop-part l = record {
  whole : l.yielded ++ l.part-iterator.rest.items ≡ l.fn.parts.items;
  told : (o : AuditOptions) (n : ℕ) (ss : List ClientSession) → AreToldParts o n ss l.fn.parts.items
      → AreToldParts o n ss l.part-iterator.rest.items × AreToldParts o n ss l.kept.items;
  least : AreLeastFirst l.fn.parts.items → AreLeastFirst (l.kept.items ++ l.part-iterator.rest.items);
  distinct : AreDistinct l.kept.items;
  some : 0 < length l.yielded → 0 < length l.kept.items;
  at_most : length l.kept.items ≤ length l.yielded;
}
