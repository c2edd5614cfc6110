use Rattle.splitting.proofs.Prelude.{take, map, view, ops_in, Finds}
use Rattle.splitting.proofs.survey.Survey.of.Given as goal

abbrev pub invariant-loop-session : goal.invariant-loop-session
invariant-loop-session l = Finds (record { marks = 1; longest = 0; largest = 0; writes = 0 }) (ops_in (map view (take l.session-index l.sessions))) l.survey
