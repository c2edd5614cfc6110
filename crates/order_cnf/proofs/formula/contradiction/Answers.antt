use Rattle.order_cnf.proofs.Prelude.{◌≡◌, sym, ap, ◌∙◌, subst, IfOk-weaker, IfErr-weaker, IsFormula, cnf_of, size_fault}
use Rattle.serializability.specs.Plain as spec
use Rattle.order_cnf.proofs.Wholes.{contradiction_is, contradiction_is_formula, no_fault}
use Rattle.order_cnf.proofs.formula.contradiction.Goals as goal

pub of-requires-clause-sound : goal.of-requires-clause-sound
of-requires-clause-sound c = λ few.
    subst IsFormula (sym (contradiction_is c.new-layout.result _ _ _ _ _ c.in_ok-unknown.ensures.relation c.in_ok-units.ensures.items c.new.ensures.items c.new-2.ensures.items c.new-3.ensures.items c.new-layout.ensures.value)) contradiction_is_formula

pub returns-clause-formula : goal.returns-clause-formula
returns-clause-formula c =
    let whole = contradiction_is c.new-layout.result _ _ _ _ _ c.in_ok-unknown.ensures.relation c.in_ok-units.ensures.items c.new.ensures.items c.new-2.ensures.items c.new-3.ensures.items c.new-layout.ensures.value in
    IfOk-weaker c.of.result _ (λ f. cnf_of f ≡ spec.contradiction) (λ f e. ap cnf_of e ∙ whole) c.of.ensures.formula

pub returns-clause-fault : goal.returns-clause-fault
returns-clause-fault c =
    let whole = contradiction_is c.new-layout.result _ _ _ _ _ c.in_ok-unknown.ensures.relation c.in_ok-units.ensures.items c.new.ensures.items c.new-2.ensures.items c.new-3.ensures.items c.new-layout.ensures.value in
    IfErr-weaker c.of.result _ _ (λ e h. absurd (no_fault e (sym (ap size_fault whole) ∙ h))) c.of.ensures.fault
