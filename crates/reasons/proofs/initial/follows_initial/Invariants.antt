use Rattle.reasons.proofs.Prelude.{log_of}
use Rattle.reasons.proofs.Initials.{Walked}
use Rattle.reasons.proofs.initial.follows_initial.Given as goal

abbrev pub invariant-loop-step : goal.invariant-loop-step
invariant-loop-step l = Walked (log_of l.history) l.key l.fn.node l.first l.step
