use Rattle.prune_ledger.proofs.Prelude.{take, AllByRecursion, Contains, Edge}
use Rattle.prune_ledger.proofs.judging.refuting_edge.Given as goal

abbrev pub invariant-loop-edge : goal.invariant-loop-edge
invariant-loop-edge l = AllByRecursion (λ (e : Edge). Contains l.rows.edges (e.1, e.0) → ⊥) (take l.edge-index l.side)
