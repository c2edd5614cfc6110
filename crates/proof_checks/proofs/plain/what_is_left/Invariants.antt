use Rattle.proof_checks.proofs.Prelude.{List, take, Literal, IsMarking, IsLeft}
use Rattle.proof_checks.proofs.plain.what_is_left.Given as goal

abbrev pub invariant-loop-literal : goal.invariant-loop-literal
invariant-loop-literal l = (marked : List Literal) → IsMarking l.marks marked → IsLeft marked (take l.literal-index l.clause) l.left
