-- A formula's relation of nodes, and its clauses.
use Rattle.std.specs.Prelude.{ℕ, List}
use Rattle.serializability.specs.declared.literal.Literal.{Literal}
use Rattle.serializability.specs.Formula.{Cnf}
use Rattle.order_cnf.specs.Data.{FormulaData, is_listed}
use Rattle.order_cnf.specs.Tables.{Relation}

pub record Shape : Type 0 where
  pub relation : Relation
  pub clauses : List (List Literal)

-- with so many variables
abbrev pub cnf_with : Shape → ℕ → Cnf
cnf_with s variables = record {
  nodes = s.relation.nodes;
  known = is_listed s.relation.known;
  variables = variables;
  clauses = s.clauses;
}

-- made of so many choices
abbrev pub data_with : Shape → ℕ → ℕ → FormulaData
data_with s variables choices = record {
  nodes = s.relation.nodes;
  known = s.relation.known;
  variables = variables;
  clauses = s.clauses;
  choices = choices;
}
