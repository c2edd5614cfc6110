use Rattle.reach_rows.proofs.Prelude.{AreReachRows}
use Rattle.reach_rows.proofs.parts.part_rows.Given as goal

abbrev pub invariant-loop-source : goal.invariant-loop-source
invariant-loop-source g l = AreReachRows l.known l.first l.source l.words.items
