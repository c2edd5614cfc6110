use Rattle.branching.proofs.Prelude.{Keeps}
use Rattle.branching.proofs.Marked.{MarksBelow}
use Rattle.branching.proofs.marks.mark_refuted.Given as goal

abbrev pub invariant-loop-number : goal.invariant-loop-number
invariant-loop-number l = record {
  keeps : Keeps l.fn.marks l.marks;
  marked : MarksBelow l.rows.edges l.u l.v l.incoming l.number l.marks;
}
