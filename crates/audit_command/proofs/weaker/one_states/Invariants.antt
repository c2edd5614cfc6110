use Rattle.audit_command.proofs.Prelude.{◌≡◌, map, drop, view, one_states}
use Rattle.audit_command.proofs.weaker.one_states.Given as goal

abbrev pub invariant-loop-session : goal.invariant-loop-session
invariant-loop-session l = one_states l.side (map view l.sessions) ≡ one_states l.side (map view (drop l.session-index l.sessions))
