-- What is known of each polygraph.
use Rattle.std.specs.Prelude.{◌≢◌, ℕ, ◌≤◌, length}
use Rattle.std.specs.List.{AllByRecursion}
use Rattle.serializability.specs.Polygraph.{Edge, Choice, Polygraph}
use Rattle.polygraph.specs.declared.index.TheConstants.{MAX_CHOICES}

-- the edge joins two different ones of nodes 0 to n
pub record Joins (n : ℕ) (e : Edge) : Type 0 where
  pub from : e.0 ≤ n
  pub to : e.1 ≤ n
  pub apart : e.0 ≢ e.1

-- each edge of the choice does
pub record JoinsBoth (n : ℕ) (c : Choice) : Type 0 where
  pub first : AllByRecursion (Joins n) c.one
  pub second : AllByRecursion (Joins n) c.two

-- there are at most 100,000 choices, and each of their edges joins two different nodes
pub record IsPolygraph (p : Polygraph) : Type 0 where
  pub few : length p.choices ≤ MAX_CHOICES
  pub joined : AllByRecursion (JoinsBoth p.nodes) p.choices
