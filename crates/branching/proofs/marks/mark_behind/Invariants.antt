use Rattle.branching.proofs.Prelude.{take, Keeps, MarksBehind}
use Rattle.branching.proofs.marks.mark_behind.Given as goal

abbrev pub invariant-loop-entry : goal.invariant-loop-entry
invariant-loop-entry l = record {
  keeps : Keeps l.fn.marks l.marks;
  marked : MarksBehind l.rows.edges l.v (take l.entry-index l.list) l.marks;
}
