use Rattle.reasons.proofs.Prelude.{log_of, NoneBefore, IsBeginning, ArePlain}
use Rattle.reasons.proofs.initial.begins_behind_initial.Given as goal

abbrev pub invariant-loop-place : goal.invariant-loop-place
invariant-loop-place l = record {
  none : NoneBefore (IsBeginning (log_of l.history) l.a l.b) ((log_of l.history).ops l.b) l.place;
  plain : ArePlain (log_of l.history) l.a l.b l.plain;
}
