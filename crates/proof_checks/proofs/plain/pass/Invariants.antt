use Rattle.proof_checks.proofs.Prelude.{List, take, Literal, IsMarking, AreFalse, Passes}
use Rattle.proof_checks.proofs.plain.pass.Given as goal

abbrev pub invariant-loop-number : goal.invariant-loop-number
invariant-loop-number l = record {
  marking : IsMarking l.marks l.made_false.items;
  passes : (d : List Literal) → AreFalse l.checker.clauses d l.fn.made_false.items → Passes l.checker.clauses d l.fn.made_false.items l.made_false.items (take l.number-index l.numbers) l.kept.items;
}
