use Rattle.judging.proofs.Prelude.{◌≡◌, map, view, session_without, changed}
use Rattle.judging.proofs.moments.leave_out_of_each.Given as goal

abbrev pub invariant-loop-session : goal.invariant-loop-session
invariant-loop-session l = map view l.sessions ≡ changed session_without l.session-index (map view l.initial.sessions)
