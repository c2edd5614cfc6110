use Rattle.proof_checks.proofs.Prelude.{List, Option, Literal, Entails, Holds}
use Rattle.proof_checks.proofs.search.Search.settle.Given as goal

abbrev pub invariant-loop-index : goal.invariant-loop-index
invariant-loop-index l = record {
  follows : Entails l.fn.checker.clauses l.checker.clauses;
  holds : (cs : List (Option (List Literal))) → Holds cs l.fn.checker.clauses → Holds cs l.checker.clauses;
}
