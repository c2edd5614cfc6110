-- What a formula is made of.
use Rattle.std.specs.Prelude.{ℕ, ◌+◌, ◌≤◌, List, ◌++◌, length}
use Rattle.std.specs.List.{AllByRecursion}
use Rattle.serializability.specs.declared.literal.Literal.{Literal}
use Rattle.serializability.specs.Polygraph.{Edge, Choice}
use Rattle.order_cnf.specs.Tables.{Relation}
use Rattle.order_cnf.specs.Streams.{of_three, up_to, units_of, bipaths_of, sides_after, last_variable, IsFreeBipath, IsUnturned}

-- units, then bipaths, then the triples of nodes from `start` on, then the choices whose sides have
-- these edges, so many each
unfoldable pub clauses_in : Relation → ℕ → List Literal → List Choice → List Edge → List ℕ
    → List (List Literal)
clauses_in r start units bipaths edges counts =
    units_of units ++ (bipaths_of r bipaths ++
    (of_three r (up_to start (r.nodes + 1)) ++ sides_after r (last_variable r) edges counts))

-- the parts fit together
pub record IsLayout (r : Relation) (from : ℕ) (paired : List Choice) (sided : List Edge)
    (counts : List ℕ) : Type 0 where
  pub start : from ≤ r.nodes + 1
  pub bipaths : AllByRecursion (IsFreeBipath r) paired
  pub edges : AllByRecursion (IsUnturned r) sided
  pub few : length counts ≤ 200000
