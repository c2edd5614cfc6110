use Rattle.order_cnf.proofs.Prelude.{sym, ◌∙◌, arith, false≢true, literals}
use Rattle.order_cnf.proofs.Passed.{passed_begun, passed_number, passed_one, passed_false, not_all}
use Rattle.order_cnf.proofs.formula.Formula.satisfied_by.Goals as goal

pub loop-clause-init : goal.loop-clause-init
loop-clause-init c =
    passed_begun c.args.values.now c.args.self.now.variables c.args.self.now.clauses _ (c.into_iter-clause-iterator.ensures.into_iter_gives ∙ c.clauses-clause-items.ensures.items) c.requires.each_variable c.clauses-clause-items.ensures.in_range

pub overflow_add-number : goal.overflow_add-number
overflow_add-number c =
    omega (arith, passed_number c.args.values.now c.args.self.now.clauses c.loop-clause.clause-iterator c.loop-clause.number c.loop-clause.invariant, c.count-invariant.ensures.few, c.count-invariant.ensures.count)

pub returns-then-not-clause_is_true-clause-first_false : goal.returns-then-not-clause_is_true-clause-first_false
returns-then-not-clause_is_true-clause-first_false c =
    passed_false c.args.values.now c.args.self.now.clauses c.loop-clause.clause-iterator c.next.new.self (literals c.in-Some.clause) c.loop-clause.number c.loop-clause.invariant c.in-Some.ensures.steps (sym c.if-not-clause_is_true.ensures.value)

pub returns-then-not-clause_is_true-clause-satisfied : goal.returns-then-not-clause_is_true-clause-satisfied
returns-then-not-clause_is_true-clause-satisfied c = (
  λ ok. absurd (false≢true ok),
  λ s. absurd (
      not_all c.args.values.now c.args.self.now.clauses c.loop-clause.clause-iterator c.next.new.self (literals c.in-Some.clause) c.loop-clause.number c.loop-clause.invariant c.in-Some.ensures.steps (sym c.if-not-clause_is_true.ensures.value) s.each_clause),
)

pub loop-clause-preserved : goal.loop-clause-preserved
loop-clause-preserved c =
    passed_one c.args.values.now c.args.self.now.clauses c.loop-clause.clause-iterator c.next.new.self (literals c.in-Some.clause) c.loop-clause.number c.loop-clause.invariant c.in-Some.ensures.steps (sym c.if-not-clause_is_true.ensures.value)
