use Rattle.proof_checks.proofs.Prelude.{err_from_is_err_and, drat_steps_in, fault_of_step, entails_then}
use Rattle.proof_checks.proofs.Passed.{goes_first, goes_more, goes_less, goes_ended, goes_stopped}
use Rattle.proof_checks.proofs.Propagating.{holds_itself}
use Rattle.proof_checks.proofs.drat.take_steps.Goals as goal

pub loop-drat-init : goal.loop-drat-init
loop-drat-init c = record {
  follows = c.settle.ensures.follows;
  rounds = c.in_ok-drat.ensures;
  goes = goes_first _ _ c.args.checker.now.clauses c.settle.new.checker.clauses c.new-steps.ensures (c.settle.ensures.holds c.args.checker.now.clauses (holds_itself c.args.checker.now.clauses));
}

pub loop-drat-preserved : goal.loop-drat-preserved
loop-drat-preserved c =
    let g = c.loop-drat.invariant.goes in
    record {
      follows = entails_then c.args.checker.now.clauses c.loop-drat.checker.clauses c.take_next.new.checker.clauses c.loop-drat.invariant.follows c.take_next.ensures.follows;
      rounds = c.in_ok-take_next.ensures.rounds;
      goes = goes_more _ c.loop-drat.steps c.take_next.new.steps c.args.checker.now.clauses c.loop-drat.checker.clauses c.take_next.new.checker.clauses c.in_ok-take_next.field-0 g (c.in_ok-take_next.ensures.on g.new g.holds) c.if-not-branch.false;
    }

pub loop-drat-smaller : goal.loop-drat-smaller
loop-drat-smaller c =
    let g = c.loop-drat.invariant.goes in goes_less c.loop-drat.steps c.take_next.new.steps g.new c.take_next.new.checker.clauses c.in_ok-take_next.field-0 (c.in_ok-take_next.ensures.on g.new g.holds) c.if-not-branch.false

pub returns-in_err-take_next-clause-follows : goal.returns-in_err-take_next-clause-follows
returns-in_err-take_next-clause-follows c = entails_then c.args.checker.now.clauses c.loop-drat.checker.clauses c.take_next.new.checker.clauses c.loop-drat.invariant.follows c.take_next.ensures.follows

pub returns-in_err-take_next-clause-fault : goal.returns-in_err-take_next-clause-fault
returns-in_err-take_next-clause-fault c =
    let g = c.loop-drat.invariant.goes in
    let p = err_from_is_err_and c.from_residual-in_err-take_next.result c.from_residual-in_err-take_next.ensures.1 in
    rw (p.1, p.2) (goes_stopped (drat_steps_in c.args.binary c.args.variables c.args.proof.now) c.loop-drat.steps c.args.checker.now.clauses c.loop-drat.checker.clauses (fault_of_step c.in_err-take_next.field-0.0) g (c.in_err-take_next.ensures.fault g.new g.holds))

pub returns-then-not-branch-clause-follows : goal.returns-then-not-branch-clause-follows
returns-then-not-branch-clause-follows c = entails_then c.args.checker.now.clauses c.loop-drat.checker.clauses c.take_next.new.checker.clauses c.loop-drat.invariant.follows c.take_next.ensures.follows

pub returns-then-not-branch-clause-ended : goal.returns-then-not-branch-clause-ended
returns-then-not-branch-clause-ended c =
    let g = c.loop-drat.invariant.goes in goes_ended _ c.loop-drat.steps c.take_next.new.steps c.args.checker.now.clauses c.loop-drat.checker.clauses c.take_next.new.checker.clauses c.in_ok-take_next.field-0 g (c.in_ok-take_next.ensures.on g.new g.holds) c.if-not-branch.true
