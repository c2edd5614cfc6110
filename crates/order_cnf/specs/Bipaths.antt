-- Polygraphs that have a plain formula.
use Rattle.std.specs.Prelude.{◌≡◌, ℕ, ◌≤◌, List, [], ◌∷◌, length}
use Rattle.std.specs.List.{AllByRecursion}
use Rattle.serializability.specs.Polygraph.{Edge, Choice, Polygraph}
use Rattle.serializability.specs.Decoded.{IsFormula}
use Rattle.serializability.specs.Plain.{plain_of}
use Rattle.polygraph.specs.Polygraphs.{Joins}
use Rattle.serializability.specs.declared.literal.TheConstants.{MAX_CLAUSES}
use Rattle.serializability.specs.declared.node.TheConstants.{MAX_NODES}

-- a side that is one edge, between two different ones of nodes 0 to n
pub record IsSingle (n : ℕ) (side : List Edge) : Type 0 where
  pub edge : Edge
  pub alone : side ≡ edge ∷ []
  pub joins : Joins n edge

-- each side of the choice is
pub record IsBipath (n : ℕ) (c : Choice) : Type 0 where
  pub first : IsSingle n c.one
  pub second : IsSingle n c.two

-- Each known edge joins two different nodes, each side of a choice is one such edge, and the
-- clauses, where they are few enough, are a formula.
pub record HasPlain (p : Polygraph) : Type 0 where
  pub few : p.nodes ≤ MAX_NODES
  pub joined : AllByRecursion (Joins p.nodes) p.known
  pub bipaths : AllByRecursion (IsBipath p.nodes) p.choices
  pub sound : length (plain_of p).clauses ≤ MAX_CLAUSES → IsFormula (plain_of p)
