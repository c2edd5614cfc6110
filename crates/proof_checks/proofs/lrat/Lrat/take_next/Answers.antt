use Rattle.proof_checks.proofs.Prelude.{length, err_from_is_err_and, LratAction, proof_of}
use Rattle.proof_checks.proofs.Taken.{read_fault, read_end, read_step, goes_on, stops}
use Rattle.proof_checks.proofs.lrat.Lrat.take_next.Goals as goal

pub returns-in_err-read-clause-fault : goal.returns-in_err-read-clause-fault
returns-in_err-read-clause-fault c =
    let p = err_from_is_err_and c.from_residual.result c.from_residual.ensures.1 in
    rw (p.1, p.2) (read_fault (length c.args.checker.now.known) (proof_of c.args.checker.now c.args.self.now.added.items) c.args.steps.now c.read.new.self
    (λ (a : LratAction). record { action = a; literals = c.read.new.literals.items; ids = c.read.new.ids.items }) c.in_err-read.field-0.0 c.in_err-read.ensures)

pub returns-in-None-clause-on : goal.returns-in-None-clause-on
returns-in-None-clause-on c =
    let ended = rw c.in-None.is at c.in_ok-read.ensures in
    read_end (length c.args.checker.now.known) (proof_of c.args.checker.now c.args.self.now.added.items) c.args.steps.now ended

pub returns-in-Some-clause-on : goal.returns-in-Some-clause-on
returns-in-Some-clause-on c =
    goes_on (length c.args.checker.now.known) c.in-Some.line (proof_of c.args.checker.now c.args.self.now.added.items) (proof_of c.take.new.checker c.take.new.self.added.items) c.args.steps.now c.read.new.self
    (record { action = c.in-Some.action; literals = c.read.new.literals.items; ids = c.read.new.ids.items }) c.take.result
    (read_step c.args.steps.now c.read.new.self _ c.in_ok-read.field-0 c.in-Some.line c.in-Some.action c.in_ok-read.ensures c.in-Some.is) c.take.ensures.taken

pub returns-in-Some-clause-fault : goal.returns-in-Some-clause-fault
returns-in-Some-clause-fault c =
    stops (length c.args.checker.now.known) c.in-Some.line (proof_of c.args.checker.now c.args.self.now.added.items) c.args.steps.now c.read.new.self
    (record { action = c.in-Some.action; literals = c.read.new.literals.items; ids = c.read.new.ids.items }) c.take.result
    (read_step c.args.steps.now c.read.new.self _ c.in_ok-read.field-0 c.in-Some.line c.in-Some.action c.in_ok-read.ensures c.in-Some.is) c.take.ensures.fault
