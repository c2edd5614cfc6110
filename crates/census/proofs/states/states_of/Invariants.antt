use Rattle.census.proofs.Prelude.{◌≡◌, ℕ, List, take, state_of, state_in}
use Rattle.census.proofs.states.states_of.Given as goal

abbrev pub invariant-loop-op : goal.invariant-loop-op
invariant-loop-op l = (k : List ℕ) → state_of l.states k ≡ state_in k (take l.op-index l.ops)
