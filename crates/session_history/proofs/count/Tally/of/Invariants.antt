use Rattle.session_history.proofs.Prelude.{map, take, view, txns_in, IsTally}
use Rattle.session_history.proofs.count.Tally.of.Given as goal

abbrev pub invariant-loop-session : goal.invariant-loop-session
invariant-loop-session l = IsTally (txns_in (map view (take l.session-index l.sessions))) l.tally
