use Rattle.std.proofs.Common.{◌≡◌}
use Rattle.std.specs.Prelude.{drop}
use Rattle.point_refutations.specs.Edges.{is_simple}
use Rattle.point_refutations.proofs.edges.is_simple.Given as goal

abbrev pub invariant-loop-i : goal.invariant-loop-i
invariant-loop-i l = is_simple (drop l.i l.edges) ≡ is_simple l.edges
