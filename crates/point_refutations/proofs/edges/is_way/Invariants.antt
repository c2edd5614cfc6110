use Rattle.std.proofs.Common.{◌≡◌, map}
use Rattle.std.specs.Prelude.{drop}
use Rattle.session_log.specs.Text.{view}
use Rattle.point_refutations.specs.Edges.{is_way}
use Rattle.point_refutations.proofs.edges.is_way.Given as goal

abbrev pub invariant-loop-edge : goal.invariant-loop-edge
invariant-loop-edge l = is_way (map view l.sessions) l.steps l.at (drop l.edge-index l.edges) l.to ≡ is_way (map view l.fn.sessions) l.fn.steps l.fn.from l.fn.edges l.fn.to
