use Rattle.std.proofs.Common.{◌≡◌, ◌++◌, map, drop}
use Rattle.session_log.specs.Text.{view}
use Rattle.point_orders.specs.Halves.{halves_in}
use Rattle.point_orders.proofs.halves.halves_in.Given as goal

abbrev pub invariant-loop-session : goal.invariant-loop-session
invariant-loop-session l = l.halves.items ++ halves_in (map view (drop l.session-index l.sessions)) ≡ halves_in (map view l.sessions)
