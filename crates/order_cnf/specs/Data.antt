-- Formulas as data: the pairs of which it is known which comes first are a list.
use Rattle.std.specs.Prelude.{◌≡◌, ℕ, ◌-◌, ◌<◌, ◌≤◌, ◌==◌, ◌&&◌, Bool, true, false, List, [], length, take, slice_index_or}
use Rattle.std.specs.List.{list_any, AllByRecursion}
use Rattle.serializability.specs.declared.literal.Literal.{Literal}
use Rattle.serializability.specs.Pairs.{Known}
use Rattle.serializability.specs.Formula.{Cnf, clause_true}

-- `known` lists the pairs (u, v) of which it is known that u stands before v, and `choices` counts
-- the choices that the formula is made of
pub record FormulaData : Type 0 where
  pub nodes : ℕ
  pub known : List (ℕ × ℕ)
  pub variables : ℕ
  pub clauses : List (List Literal)
  pub choices : ℕ

abbrev pub is_listed : List (ℕ × ℕ) → Known
is_listed pairs u v = list_any (λ p. (p.0 == u) && (p.1 == v)) pairs

-- the formula that the data stand for
abbrev pub cnf_of : FormulaData → Cnf
cnf_of f = record {
  nodes = f.nodes;
  known = is_listed f.known;
  variables = f.variables;
  clauses
      = f.clauses;
}

-- clause k, counted from 1, is false, and the clauses before it are true
pub record IsFirstFalse (values : List Bool) (clauses : List (List Literal)) (k : ℕ) : Type 0 where
  pub counted : (0 < k) × (k ≤ length clauses)
  pub earlier : AllByRecursion (λ c. clause_true values c ≡ true) (take (k - 1) clauses)
  pub here : clause_true values (slice_index_or clauses (k - 1) []) ≡ false
