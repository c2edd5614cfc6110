-- What is found of sessions by their formula.
use Rattle.std.specs.Prelude.{ℕ, Bool, List}
use Rattle.session_log.specs.Text.{ClientSession}
use Rattle.serializability.specs.Formula.{Cnf}
use Rattle.log_definitions.specs.Serial.{IsSerialOrder, IsSomeOrder}
use Rattle.cobra_formulas.specs.Formulas.{IsFormulaOf}
use Rattle.formula_search.specs.Searched.{IsUnsatisfiable}
use Rattle.solving.specs.declared.solution.Solution.{Solution}
use Rattle.solving.specs.declared.solution.Solution.TheVariants.{Serial, Refuted, Spent}

-- The formula that belongs to the sessions cannot be satisfied, and so no list of the committed
-- transactions and of some of the unknown ones is an order that explains them.
pub record IsRefutedFor (plain : Bool) (ss : List ClientSession) : Type 0 where
  pub formula : Cnf
  pub belongs : IsFormulaOf plain ss formula
  pub unsatisfiable : IsUnsatisfiable formula
  pub none : (order : List ℕ) → IsSomeOrder ss order → ⊥

-- what is found holds of the sessions; a spent budget says nothing of them
abbrev pub Solves : Bool → List ClientSession → Solution → Type 0
Solves plain ss (Serial order) = IsSerialOrder ss order
Solves plain ss Refuted = IsRefutedFor plain ss
Solves plain ss Spent = Unit {0}
