-- What is found of the clauses of a formula is found of the formula.
use Rattle.std.proofs.Common.{◌≡◌, ℕ, Bool, true, List, [], ◌∷◌, Option, Some, map, subst, sym, ◌∙◌}
use Rattle.std.specs.List.{AllByRecursion}
use Rattle.serializability.specs.Formula.{Cnf, clause_true}
use Rattle.serializability.specs.declared.literal.Literal.{Literal}
use Rattle.refutation.specs.Follows.{SatisfiesAll, IsRefuted}
use Rattle.refutation.proofs.Units.{satisfied_given}
use Rattle.clause_search.specs.Founds.{IsFound}
use Rattle.clause_search.specs.declared.found.Found.{Found}
use Rattle.clause_search.specs.declared.found.Found.TheVariants.{Refuted, Satisfied, Spent}
use Rattle.formula_search.specs.Searched.{IsUnsatisfiable, IsFoundOf}

given_satisfied : (values : List Bool) (cs : List (List Literal)) → SatisfiesAll values (map Some cs) → AllByRecursion (λ c. clause_true values c ≡ true) cs
given_satisfied values [] s = tt
given_satisfied values (c ∷ cs) s = (s.0, given_satisfied values cs s.1)

-- no assignment satisfies a formula whose clauses are refuted
pub unsatisfiable : (f : Cnf) (clauses : List (Option (List Literal))) → clauses ≡ map Some f.clauses → IsRefuted clauses → IsUnsatisfiable f
unsatisfiable f clauses e r = λ values s. r.none values (subst (SatisfiesAll values) (sym e) (satisfied_given values f.clauses s.each_clause))

pub found_of : (f : Cnf) (variables : ℕ) (clauses : List (Option (List Literal))) (found : Found) → clauses ≡ map Some f.clauses → variables ≡ f.variables → IsFound variables clauses found → IsFoundOf f found
found_of f variables clauses Refuted e n h = unsatisfiable f clauses e h
found_of f variables clauses (Satisfied values) e n h = record {
  each_variable = h.each_variable ∙ n;
  each_clause = given_satisfied values.items f.clauses (subst (SatisfiesAll values.items) e h.each_clause);
}
found_of f variables clauses Spent e n h = tt
