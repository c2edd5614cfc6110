use Rattle.dimacs.proofs.Prelude.{arith, length, ap, err_from_is_err_and}
use Rattle.dimacs.proofs.Takings.{midway_none, midway_more, midway_fault, midway_all, lines_bound, too_long, line_refused, ends_answer, ends_accepted, ends_refused}
use Rattle.dimacs.proofs.read.read_answer.Goals as goal

pub returns-then-text-gt-MAX_ANSWER_BYTES-clause-fault : goal.returns-then-text-gt-MAX_ANSWER_BYTES-clause-fault
returns-then-text-gt-MAX_ANSWER_BYTES-clause-fault c = too_long c.args.vars c.args.text.now (omega arith)

pub loop-body-init : goal.loop-body-init
loop-body-init c =
    rw c.into_iter-body-iterator.ensures.into_iter_gives (record { midway = midway_none c.args.vars c.args.text.now _ c.in_ok-reading.ensures; room = omega arith })

pub overflow_add-line : goal.overflow_add-line
overflow_add-line c = omega (arith, ap length c.in-Some.ensures.steps, lines_bound c.args.text.now)

pub loop-body-preserved : goal.loop-body-preserved
loop-body-preserved c = record {
  midway = midway_more _ _ _ _ _ _ _ _ c.in-Some.ensures.steps c.loop-body.invariant.midway (c.in_ok-take_line.ensures _ _ c.loop-body.invariant.midway.known);
  room = omega (arith, ap length c.in-Some.ensures.steps);
}

pub returns-in_err-take_line-clause-fault : goal.returns-in_err-take_line-clause-fault
returns-in_err-take_line-clause-fault c =
    let midway = c.loop-body.invariant.midway in
    let p = err_from_is_err_and c.from_residual-in_err-take_line.result c.from_residual-in_err-take_line.ensures.1 in
    rw (p.1, p.2) (line_refused c.args.vars c.args.text.now _ (omega arith) (midway_fault _ _ _ _ _ _ _ _ _ c.in-Some.ensures.steps midway (c.in_err-take_line.ensures _ _ midway.known)))

pub returns-clause-answer : goal.returns-clause-answer
returns-clause-answer c =
    let all = midway_all _ _ _ _ _ c.in-None.ensures.steps.0 c.loop-body.invariant.midway in
    ends_answer c.args.vars c.args.text.now _ (c.into_answer.ensures _ _ all.1)

pub returns-clause-accepted : goal.returns-clause-accepted
returns-clause-accepted c =
    let all = midway_all _ _ _ _ _ c.in-None.ensures.steps.0 c.loop-body.invariant.midway in
    ends_accepted c.args.vars c.args.text.now _ (omega arith) all.0 (c.into_answer.ensures _ _ all.1)

pub returns-clause-fault : goal.returns-clause-fault
returns-clause-fault c =
    let all = midway_all _ _ _ _ _ c.in-None.ensures.steps.0 c.loop-body.invariant.midway in
    ends_refused c.args.vars c.args.text.now _ (omega arith) all.0 (c.into_answer.ensures _ _ all.1)
