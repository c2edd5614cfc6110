use Rattle.std.proofs.Common.{◌≡◌, ◌++◌, take, map}
use Rattle.session_log.specs.Text.{view}
use Rattle.log_lines.specs.Rows.{rows_of}
use Rattle.part_graphs.specs.Points.{way_arrows}
use Rattle.part_graphs.proofs.points.put_way.Given as goal

abbrev pub invariant-loop-edge : goal.invariant-loop-edge
invariant-loop-edge l = l.out.items ≡ l.initial.out.items ++ way_arrows (rows_of l.log.places.now) (map view l.log.sessions.now) (take l.edge-index l.edges)
