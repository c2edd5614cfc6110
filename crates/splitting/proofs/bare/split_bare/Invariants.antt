use Rattle.splitting.proofs.Prelude.{◌≡◌, ◌++◌, map, drop, view, split_writers, no_locks}
use Rattle.splitting.proofs.bare.split_bare.Given as goal

abbrev pub invariant-loop-session : goal.invariant-loop-session
invariant-loop-session l = map view l.split.items ++ split_writers no_locks (map view (drop l.session-index l.sessions)) ≡ split_writers no_locks (map view l.sessions)
