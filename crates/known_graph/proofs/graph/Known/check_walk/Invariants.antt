use Rattle.known_graph.proofs.Prelude.{ℕ, suc, ◌<◌, get_or, Contains}
use Rattle.known_graph.proofs.graph.Known.check_walk.Given as goal

abbrev pub invariant-loop-i : goal.invariant-loop-i
invariant-loop-i l = (k : ℕ) → suc k < l.i → Contains l.self.edges (get_or l.line k 0, get_or l.line (suc k) 0)
