use Rattle.long_reading.proofs.Prelude.{take, flat_map, view, session_lines, Takes}
use Rattle.long_reading.proofs.stated.Statements.of.Given as goal

abbrev pub invariant-loop-session : goal.invariant-loop-session
invariant-loop-session l = Takes l.initial.all l.all (flat_map (λ session. session_lines (view session)) (take l.session-index l.sessions))
