use Rattle.reach_rows.proofs.Prelude.{ℕ, ◌<◌, Contains}
use Rattle.reach_rows.proofs.bit_rows.Rows.has_cycle.Given as goal

abbrev pub invariant-loop-number : goal.invariant-loop-number
invariant-loop-number l = (v : ℕ) → v < l.number → Contains l.self.edges (v, v) → ⊥
