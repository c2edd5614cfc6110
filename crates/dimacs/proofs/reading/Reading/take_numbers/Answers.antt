use Rattle.dimacs.proofs.Prelude.{err_from_is_err_and}
use Rattle.dimacs.proofs.Takings.{amid_more, amid_fault, amid_all}
use Rattle.dimacs.proofs.reading.Reading.take_numbers.Goals as goal

pub loop-word-preserved : goal.loop-word-preserved
loop-word-preserved c = λ vars before known.
    let amid = c.loop-word.invariant vars before known in
    amid_more vars before _ _ _ _ _ _ _ c.in-Some.ensures.steps amid (c.in_ok-take_number.ensures vars _ amid.known)

pub returns-in_err-take_number : goal.returns-in_err-take_number
returns-in_err-take_number c = λ vars before known.
    let amid = c.loop-word.invariant vars before known in
    let p = err_from_is_err_and c.from_residual.result c.from_residual.ensures.1 in
    rw (p.1, p.2) (amid_fault vars before _ _ _ _ _ _ _ _ _ c.in-Some.ensures.steps amid (c.in_err-take_number.ensures vars _ amid.known))

pub returns : goal.returns
returns c = λ vars before known.
    amid_all vars before _ _ _ _ c.in-None.ensures.steps.0 (c.loop-word.invariant vars before known)
