use Rattle.census.proofs.Prelude.{◌≡◌, map, take, view, txns_in, view_ref}
use Rattle.census.proofs.counting.txns_of.Given as goal

abbrev pub invariant-loop-session : goal.invariant-loop-session
invariant-loop-session l = map view_ref l.all.items ≡ txns_in (map view (take l.session-index l.sessions))
