use Rattle.dimacs.proofs.Prelude.{◌+◌, ◌≤◌, length, lines_of}
use Rattle.dimacs.proofs.Takings.{IsMidway}
use Rattle.dimacs.proofs.read.read_answer.Given as goal

abbrev pub invariant-loop-body : goal.invariant-loop-body
invariant-loop-body l = record {
  midway : IsMidway l.fn.vars l.text (l.line + 1) (lines_of l.body-iterator.0.now) l.reading;
  room : l.line + length (lines_of l.body-iterator.0.now) ≤ length (lines_of l.text);
}
