use Rattle.part_reasons.proofs.Prelude.{◌≡◌, ◌++◌, length, lines, forbidden_in}
use Rattle.part_reasons.proofs.snapshots.put_forbidden.Given as goal

abbrev pub invariant-loop-rest : goal.invariant-loop-rest
invariant-loop-rest l = l.out.items ++ forbidden_in (lines l.rest) ≡ l.initial.out.items ++ forbidden_in (lines l.text)

abbrev pub decreases-loop-rest : goal.decreases-loop-rest
decreases-loop-rest l = length l.rest
