use Rattle.part_reasons.proofs.Prelude.{◌≡◌, drop, is_allowed}
use Rattle.part_reasons.proofs.snapshots.is_allowed.Given as goal

abbrev pub invariant-loop-i : goal.invariant-loop-i
invariant-loop-i l = is_allowed (drop l.i l.line) ≡ is_allowed l.line
