-- What a worker's decision has to do with the machine.
use Rattle.std.specs.Prelude.{◌≡◌, ℕ, Option, Some, false}
use Rattle.reach_laws.specs.Reach.{IsCyclic}
use Rattle.pruning_laws.specs.declared.side.Side.{Side}
use Rattle.pruning_laws.specs.Ledger.{sides_in}
use Rattle.cube_laws.specs.State.{State}
use Rattle.cube_laws.specs.Steps.{is_finished, node_held, cube_at, reply_of}
use Rattle.cube_laws.specs.Runs.{TakesOn}
use Rattle.cube_laws.specs.declared.messages.CubeEvent.{CubeEvent}
use Rattle.cube_laws.specs.declared.messages.CubeEvent.TheVariants.{Split, Refute, Solve}
use Rattle.branching.specs.View.{View, is_open_in, chosen, edges_in}

-- the search goes on over this polygraph, and the seat holds a node whose cube decides what the
-- view decides
pub record IsTurnOf (s : State) (seat : ℕ) (v : View) : Type 0 where
  pub polygraph : s.polygraph ≡ v.polygraph
  pub unfinished : is_finished s ≡ false
  pub node : ℕ
  pub held : node_held s seat ≡ Some node
  pub cube : (c : ℕ) (side : Side) → sides_in (cube_at s node) c side ≡ chosen v c side

-- whenever it is the seat's turn, the event splits, refutes or solves the node that it holds
abbrev pub IsAnswered : View → CubeEvent → Type 0
IsAnswered v e = (s : State) (seat : ℕ) → IsTurnOf s seat v → TakesOn (reply_of s seat e)

-- the cube is refuted where its edges have a cycle, else solved where no choice is open, else split
-- by this pick
abbrev pub IsDecision : View → Option ℕ → CubeEvent → Type 0
IsDecision v pick (Split c) = (IsCyclic (edges_in v) → ⊥) × (pick ≡ Some c)
IsDecision v pick (Refute line) = IsCyclic (edges_in v)
IsDecision v pick (Solve order) = (IsCyclic (edges_in v) → ⊥) × ((c : ℕ) → is_open_in v c ≡ false)
IsDecision v pick _ = ⊥
