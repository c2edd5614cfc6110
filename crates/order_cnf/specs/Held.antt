-- A formula that makes its clauses when they are asked for.
use Rattle.std.specs.Prelude.{◌≡◌, ◌≤◌, length}
use Rattle.serializability.specs.Decoded.{IsFormula}
use Rattle.order_cnf.specs.Data.{FormulaData}
use Rattle.order_cnf.specs.Tables.{pairs_in}
use Rattle.order_cnf.specs.Shapes.{data_with, cnf_with}
use Rattle.order_cnf.specs.declared.formula.Formula.TheInside.{Inside}

abbrev pub data_of : Inside → FormulaData
data_of f = data_with f.layout f.variables f.choices

pub record IsHeld (f : Inside) : Type 0 where
  pub formula : IsFormula (cnf_with f.layout f.variables)
  pub numbered : length (pairs_in f.layout.relation) ≤ f.variables
  pub few_variables : f.variables ≤ 600500
  pub counted : f.count ≡ length f.layout.clauses
