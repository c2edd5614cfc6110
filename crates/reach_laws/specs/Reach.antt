-- Walks in a set of edges, and what reaches what.
use Rattle.std.specs.Prelude.{◌≡◌, ℕ, List, [], ◌∷◌, ◌++◌}
use Rattle.std.specs.List.{Contains}
use Rattle.serializability.specs.Polygraph.{Edge}

-- nodes 0 to `nodes`, and edges between them
pub record Graph : Type 0 where
  pub nodes : ℕ
  pub edges : List Edge

-- from u through these nodes to v each step is an edge
abbrev pub Walk : List Edge → ℕ → List ℕ → ℕ → Type 0
Walk edges u [] v = Contains edges (u, v)
Walk edges u (w ∷ ws) v = Contains edges (u, w) × Walk edges w ws v

-- a walk of at least one edge leads from u to v
abbrev pub Reaches : List Edge → ℕ → ℕ → Type 0
Reaches edges u v = (ws : List ℕ) × Walk edges u ws v

-- some node reaches itself
abbrev pub IsCyclic : List Edge → Type 0
IsCyclic edges = (v : ℕ) × Reaches edges v v

-- these are the nodes of a walk from u to v, both included: at least two, and each step is an edge
pub record IsWalk (edges : List Edge) (u v : ℕ) (line : List ℕ) : Type 0 where
  pub inner : List ℕ
  pub shape : line ≡ u ∷ (inner ++ v ∷ [])
  pub steps : Walk edges u inner v

-- a walk that ends where it begins
abbrev pub IsCycle : List Edge → List ℕ → Type 0
IsCycle edges line = (v : ℕ) × IsWalk edges v v line
