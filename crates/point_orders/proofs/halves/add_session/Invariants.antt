use Rattle.std.proofs.Common.{◌≡◌, ◌+◌, ◌++◌, map, drop}
use Rattle.session_log.specs.Text.{view, view_txn}
use Rattle.point_orders.specs.Halves.{halves_from}
use Rattle.point_orders.proofs.halves.add_session.Given as goal

abbrev pub invariant-loop-i : goal.invariant-loop-i
invariant-loop-i l = l.halves.items ++ halves_from l.session.number (l.i + 1) (map view_txn (drop l.i l.session.txns.items)) ≡ l.initial.halves.items ++ halves_from l.session.number 1 (view l.session).txns
