use Rattle.refutation.proofs.Prelude.{◌≡◌, refl, ◌∙◌, ◌≤◌, ap, sym, subst, [], Some, length, Contains, arith, nil_from_length, IsRefuted, clause_at, Standing}
use Rattle.refutation.proofs.Units.{refuted_at, has_empty, has_no_empty}
use Rattle.refutation.proofs.checker.Checker.is_refuted.Goals as goal

pub returns-in-Some-empty-clause-empty : goal.returns-in-Some-empty-clause-empty
returns-in-Some-empty-clause-empty c =
    let empty : clause_at c.self.inside.clauses c.loop-number.number ≡ Some [] = c.in-Some-empty.ensures ∙ ap Some (nil_from_length c.in-Some-empty.field-0.now (omega (arith, c.in-Some-empty.len_below))) in
    ((λ _. subst (λ (s : Standing). Contains s.clauses (Some [])) c.self.view_is (has_empty c.self.inside.clauses c.loop-number.number empty)), λ _. refl)

pub returns-in-Some-empty-clause-refuted : goal.returns-in-Some-empty-clause-refuted
returns-in-Some-empty-clause-refuted c = λ _.
    let empty : clause_at c.self.inside.clauses c.loop-number.number ≡ Some [] = c.in-Some-empty.ensures ∙ ap Some (nil_from_length c.in-Some-empty.field-0.now (omega (arith, c.in-Some-empty.len_below))) in
    subst (λ (s : Standing). IsRefuted s.clauses) c.self.view_is (refuted_at c.self.inside.clauses c.loop-number.number empty)

pub returns-clause-empty : goal.returns-clause-empty
returns-clause-empty c =
    let passed : length c.self.inside.clauses ≤ c.loop-number.number = omega (arith, c.len-number-end.ensures) in
    ((λ h. cc), λ p. absurd (has_no_empty c.self.inside.clauses c.loop-number.number c.loop-number.invariant passed (subst (λ (s : Standing). Contains s.clauses (Some [])) (sym c.self.view_is) p)))
