use Rattle.splitting.proofs.Prelude.{[], take, map, key_of, view, ops_in, first_seen, AreNumbers}
use Rattle.splitting.proofs.numbers.KeyNumbers.of.Given as goal

abbrev pub invariant-loop-session : goal.invariant-loop-session
invariant-loop-session l = AreNumbers (first_seen [] (map key_of (ops_in (map view (take l.session-index l.sessions))))) l.numbers
