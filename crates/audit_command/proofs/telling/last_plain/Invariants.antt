use Rattle.audit_command.proofs.Prelude.{map, List, AllByRecursion, ClientSession, view, IsToldPart, IsPartOf}
use Rattle.audit_command.proofs.telling.last_plain.Given as goal

abbrev pub invariant-parts : goal.invariant-parts
invariant-parts g l = record {
  told : (ss : List ClientSession) → AllByRecursion (IsToldPart l.options.means.level ss) l.fn.parts.items
      → AllByRecursion (IsToldPart l.options.means.level ss) l.left.items;
  parts : AllByRecursion (IsPartOf (map view l._log.sessions.now)) l.left.items;
}
