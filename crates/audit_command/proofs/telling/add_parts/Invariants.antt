use Rattle.audit_command.proofs.Prelude.{◌≡◌, ◌+◌, ◌≤◌, List, map, length, AllByRecursion, ClientSession, view, first_line, resolved, IsToldPart, AreToldParts, IsPartOf}
use Rattle.audit_command.proofs.telling.add_parts.Given as goal

abbrev pub invariant-parts : goal.invariant-parts
invariant-parts g l = record {
  told : (ss : List ClientSession) → map view l.log.sessions.now ≡ resolved ss
      → AllByRecursion (IsToldPart l.options.means.level ss) l.fn.parts.items
      → AreToldParts l.options (first_line l.log.version) ss l.fn.told.items
      → AllByRecursion (IsToldPart l.options.means.level ss) l.left.items × AreToldParts l.options (first_line l.log.version) ss l.told.items;
  parts : AllByRecursion (IsPartOf (map view l.log.sessions.now)) l.left.items;
  at_most : length l.told.items + length l.left.items ≤ length l.fn.told.items + length l.fn.parts.items;
  more : length l.fn.told.items ≤ length l.told.items;
}
