use Rattle.std.proofs.Common.{◌≡◌, ◌++◌, take, map}
use Rattle.session_log.specs.Text.{view}
use Rattle.log_lines.specs.Rows.{rows_of}
use Rattle.std.specs.List.{flat_map}
use Rattle.part_graphs.specs.Points.{step_arrows}
use Rattle.part_graphs.proofs.points.put_steps.Given as goal

abbrev pub invariant-loop-step : goal.invariant-loop-step
invariant-loop-step l = l.out.items ≡ l.initial.out.items ++ flat_map (step_arrows (rows_of l.log.places.now) (map view l.log.sessions.now)) (take l.step-index l.steps)
