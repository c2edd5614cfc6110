use Rattle.proof_checks.proofs.Prelude.{◌≡◌, take, distinct, IsMarking}
use Rattle.proof_checks.proofs.distinct.Marks.keep.Given as goal

abbrev pub invariant-loop-literal : goal.invariant-loop-literal
invariant-loop-literal l = record {
  kept : l.kept.items ≡ distinct (take l.literal-index l.literals);
  marks : IsMarking l.self l.kept.items;
}
