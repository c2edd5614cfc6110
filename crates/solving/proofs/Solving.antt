-- An assignment that satisfies a formula makes no clause false; and what is found of a formula solves the sessions that it belongs to.
use Rattle.std.proofs.Common.{◌≡◌, ◌≢◌, ℕ, zero, suc, ◌<◌, ◌-◌, Bool, true, false, List, [], ◌∷◌, length, slice_index_or, arith}
use Rattle.std.specs.List.{AllByRecursion}
use Rattle.session_log.specs.Text.{ClientSession}
use Rattle.serializability.specs.Formula.{Cnf, Satisfies, clause_true}
use Rattle.serializability.specs.declared.literal.Literal.{Literal}
use Rattle.order_cnf.specs.Data.{IsFirstFalse}
use Rattle.cobra_formulas.specs.Formulas.{IsFaithful, IsFormulaOf}
pub use Rattle.cobra_formulas.proofs.Made.{belongs_so, serial_of}
use Rattle.formula_search.specs.Searched.{IsUnsatisfiable}
use Rattle.solving.specs.Solved.{IsRefutedFor}

true_at : (values : List Bool) (cs : List (List Literal)) (k : ℕ) → k < length cs → AllByRecursion (λ c. clause_true values c ≡ true) cs → clause_true values (slice_index_or cs k []) ≡ true
true_at values [] k less all = absurd (omega (arith, less))
true_at values (c ∷ cs) zero less all = all.0
true_at values (c ∷ cs) (suc k) less all = true_at values cs k (omega (arith, less)) all.1

differ : true ≡ false → ⊥
differ e = cc

pub none_false : (values : List Bool) (f : Cnf) (k : ℕ) → Satisfies values f → IsFirstFalse values f.clauses k → ⊥
none_false values f k s h =
    let t = true_at values f.clauses (k - 1) (omega (arith, h.counted.0, h.counted.1)) s.each_clause in
    let e : true ≡ false = cc (t, h.here) in
    absurd (differ e)

pub none_missing : (values : List Bool) (f : Cnf) → Satisfies values f → length values ≢ f.variables → ⊥
none_missing values f s h = h s.each_variable

pub refuted_for : (plain : Bool) (ss : List ClientSession) (f : Cnf) → IsFormulaOf plain ss f → IsFaithful ss f → IsUnsatisfiable f → IsRefutedFor plain ss
refuted_for plain ss f belongs faithful none = record {
  formula = f;
  belongs = belongs;
  unsatisfiable = none;
  none = λ order s. (let d = faithful.headline.satisfied_where_some order s in none d.0 d.1);
}
