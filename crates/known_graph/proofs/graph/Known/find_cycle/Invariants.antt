use Rattle.known_graph.proofs.Prelude.{ℕ, ◌<◌, Reaches}
use Rattle.known_graph.proofs.graph.Known.find_cycle.Given as goal

abbrev pub invariant-loop-number : goal.invariant-loop-number
invariant-loop-number l = (w : ℕ) → w < l.number → Reaches l.self.edges w w → ⊥
