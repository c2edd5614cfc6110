use Rattle.proof_checks.proofs.Prelude.{err_from_is_err_and, DratAction}
use Rattle.proof_checks.proofs.Passed.{read_stop, next_none, next_on, next_fault}
use Rattle.proof_checks.proofs.Taken.{read_step}
use Rattle.proof_checks.proofs.drat.Drat.take_next.Goals as goal

pub returns-in_err-read-clause-fault : goal.returns-in_err-read-clause-fault
returns-in_err-read-clause-fault c = λ cs hs.
    let p = err_from_is_err_and c.from_residual.result c.from_residual.ensures.1 in
    rw (p.1, p.2) (read_stop c.args.steps.now c.read.new.self (λ (a : DratAction). record { action = a; literals = c.read.new.literals.items }) cs c.in_err-read.field-0.0 c.in_err-read.ensures)

pub returns-in-None-clause-on : goal.returns-in-None-clause-on
returns-in-None-clause-on c = λ cs hs.
    let ended = rw c.in-None.is at c.in_ok-read.ensures in
    next_none c.args.steps.now c.read.new.self cs c.args.checker.now.clauses ended hs

pub returns-in-Some-clause-on : goal.returns-in-Some-clause-on
returns-in-Some-clause-on c = λ cs hs.
    next_on c.args.steps.now c.read.new.self c.in-Some.line (record { action = c.in-Some.action; literals = c.read.new.literals.items }) cs c.take.new.checker.clauses c.take.result
    (read_step c.args.steps.now c.read.new.self (λ (a : DratAction). record { action = a; literals = c.read.new.literals.items }) c.in_ok-read.field-0 c.in-Some.line c.in-Some.action c.in_ok-read.ensures c.in-Some.is) (c.take.ensures.on cs hs)

pub returns-in-Some-clause-fault : goal.returns-in-Some-clause-fault
returns-in-Some-clause-fault c = λ cs hs.
    next_fault c.args.steps.now c.read.new.self c.in-Some.line (record { action = c.in-Some.action; literals = c.read.new.literals.items }) cs c.take.result
    (read_step c.args.steps.now c.read.new.self (λ (a : DratAction). record { action = a; literals = c.read.new.literals.items }) c.in_ok-read.field-0 c.in-Some.line c.in-Some.action c.in_ok-read.ensures c.in-Some.is) (c.take.ensures.fault cs hs)
