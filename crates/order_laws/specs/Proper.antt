-- Polygraphs that have a reduced formula.
use Rattle.std.specs.Prelude.{ℕ, ◌<◌, ◌≤◌}
use Rattle.std.specs.List.{Contains, AllByRecursion}
use Rattle.serializability.specs.Polygraph.{Edge, Polygraph}
use Rattle.reach_laws.specs.Reach.{IsCyclic}
use Rattle.pruning_laws.specs.declared.side.Side.{Side}
use Rattle.pruning_laws.specs.Forced.{edges_of, IsRefuted}
use Rattle.polygraph.specs.Polygraphs.{JoinsBoth}

-- Node 0 is known to be the first; known edges join nodes 0 to n, and edges of choices two
-- different ones of them; the known edges have no cycle, and refute no side of a choice.
pub record IsProper (p : Polygraph) : Type 0 where
  pub initial : (v : ℕ) → 0 < v → v ≤ p.nodes → Contains p.known (0, v)
  pub joined : (e : Edge) → Contains p.known e → (e.0 ≤ p.nodes) × (e.1 ≤ p.nodes)
  pub sides : AllByRecursion (JoinsBoth p.nodes) p.choices
  pub acyclic : IsCyclic p.known → ⊥
  pub unrefuted : AllByRecursion (λ h. (side : Side) → IsRefuted p.known (edges_of h side) → ⊥)
      p.choices
