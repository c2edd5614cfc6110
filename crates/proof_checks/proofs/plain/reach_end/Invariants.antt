use Rattle.proof_checks.proofs.Prelude.{List, length, Literal, IsMarking, AreFalse, Covers}
use Rattle.proof_checks.proofs.plain.reach_end.Given as goal

abbrev pub invariant-loop-kept : goal.invariant-loop-kept
invariant-loop-kept l = record {
  marking : IsMarking l.marks l.made_false.items;
  are_false : (d : List Literal) → AreFalse l.checker.clauses d l.fn.made_false.items → AreFalse l.checker.clauses d l.made_false.items;
  covers : (d : List Literal) → AreFalse l.checker.clauses d l.fn.made_false.items → Covers l.checker.clauses l.fn.made_false.items l.fn.left.items → Covers l.checker.clauses l.made_false.items l.left.items;
}

abbrev pub decreases-loop-kept : goal.decreases-loop-kept
decreases-loop-kept l = length l.left.items
