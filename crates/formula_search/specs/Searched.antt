-- What is found of a formula.
use Rattle.std.specs.Prelude.{List, Bool}
use Rattle.serializability.specs.Formula.{Cnf, Satisfies}
use Rattle.clause_search.specs.declared.found.Found.{Found}
use Rattle.clause_search.specs.declared.found.Found.TheVariants.{Refuted, Satisfied, Spent}

-- no assignment satisfies the formula
abbrev pub IsUnsatisfiable : Cnf → Type 0
IsUnsatisfiable f = (values : List Bool) → Satisfies values f → ⊥

-- no assignment satisfies the formula, or this one does; a spent budget says nothing of it
abbrev pub IsFoundOf : Cnf → Found → Type 0
IsFoundOf f Refuted = IsUnsatisfiable f
IsFoundOf f (Satisfied values) = Satisfies values.items f
IsFoundOf f Spent = Unit {0}
