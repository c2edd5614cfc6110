use Rattle.audit_command.proofs.Prelude.{◌≡◌, map, take, view, nodes_in}
use Rattle.audit_command.proofs.totals.nodes_in.Given as goal

abbrev pub invariant-loop-session : goal.invariant-loop-session
invariant-loop-session l = l.nodes ≡ nodes_in (map view (take l.session-index l.sessions))
