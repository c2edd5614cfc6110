use Rattle.judging.proofs.Prelude.{◌≤◌, map, length, AllByRecursion, view, IsToldPart}
use Rattle.judging.proofs.more.more_of_known.Given as goal

abbrev pub invariant-loop : goal.invariant-loop
invariant-loop g l = AllByRecursion (IsToldPart l.means.level (map view l.sessions)) l.parts.items
    × (length l.parts.items ≤ l.counter)
