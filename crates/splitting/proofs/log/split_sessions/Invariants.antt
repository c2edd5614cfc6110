use Rattle.splitting.proofs.Prelude.{◌≡◌, ◌++◌, map, drop, view, ops_in, Locks, split_writers, Fit, AreNamed}
use Rattle.splitting.proofs.log.split_sessions.Given as goal

abbrev pub invariant-loop-session : goal.invariant-loop-session
invariant-loop-session l =
    let all = map view l.sessions in
    let left = map view (drop l.session-index l.sessions) in
    Fit l.names l.last (ops_in left)
    × ((locks : Locks) → AreNamed locks l.names l.fn.last (ops_in all) →
    AreNamed locks l.names l.last (ops_in left) × (map view l.split.items ++ split_writers locks left ≡ split_writers locks all))
