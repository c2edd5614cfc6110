use Rattle.part_reasons.proofs.Prelude.{ℕ, Bool, List, length, Contains, lines}
use Rattle.part_reasons.proofs.explaining.name_in.Given as goal

abbrev pub invariant-loop-rest : goal.invariant-loop-rest
invariant-loop-rest l = (x : List ℕ × Bool) → Contains (lines l.rest) x → Contains (lines l.text) x

abbrev pub decreases-loop-rest : goal.decreases-loop-rest
decreases-loop-rest l = length l.rest
