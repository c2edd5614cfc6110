use Rattle.std.proofs.Common.{sym, subst}
use Rattle.serializability.specs.Formula.{Satisfies}
use Rattle.order_cnf.specs.Data.{cnf_of}
use Rattle.formula_search.specs.Searched.{IsFoundOf}
use Rattle.solving.proofs.Solving.{serial_of, refuted_for}
use Rattle.solving.proofs.history.solve_formula.Goals as goal

pub returns-in-Refuted : goal.returns-in-Refuted
returns-in-Refuted c =
    let f = cnf_of c.args.formula.now in
    record { solves = refuted_for c.args._plain c.args._history.now f c.requires.belongs c.requires.faithful (subst (IsFoundOf f) c.in-Refuted.is c.in_ok-search_formula.ensures.found) }

pub returns-in_ok-order_of-in-Satisfied : goal.returns-in_ok-order_of-in-Satisfied
returns-in_ok-order_of-in-Satisfied c =
    let f = cnf_of c.args.formula.now in
    let found = subst (IsFoundOf f) c.in-Satisfied.is c.in_ok-search_formula.ensures.found in
    let satisfies = subst (λ values. Satisfies values f) (sym c.deref.ensures.value) found in
    record { solves = serial_of c.args._history.now f c.requires.faithful c.deref.result.now c.in_ok-order_of-in-Satisfied.field-0 satisfies c.in_ok-order_of-in-Satisfied.ensures.order }
