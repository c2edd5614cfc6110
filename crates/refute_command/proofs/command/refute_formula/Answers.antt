use Rattle.std.proofs.Common.{◌+◌}
use Rattle.std.proofs.lemmas.Result.{err_from_is_err_and}
use Rattle.order_cnf.specs.Data.{cnf_of}
use Rattle.proof_checks.proofs.Places.{opened}
use Rattle.refute_command.proofs.Refusing.{shown_by, fault_by}
use Rattle.refute_command.proofs.command.refute_formula.Goals as goal

pub returns-clause-shown : goal.returns-clause-shown
returns-clause-shown c =
    shown_by c.args.proof.now (cnf_of c.args.formula.now) c.in_ok-checker.checker _ c.in_ok-checker.ensures.clauses c.vars.ensures.count (opened (c.args.formula.now.variables + 1) c.in_ok-checker.checker.known c.in_ok-checker.ensures.known)
    c.in_ok-check_proof.ensures.accepted c.in_ok-check_proof.ensures.refuted

pub returns-in_err-check_proof-clause-fault : goal.returns-in_err-check_proof-clause-fault
returns-in_err-check_proof-clause-fault c =
    let p = err_from_is_err_and c.from_residual-in_err-check_proof.result c.from_residual-in_err-check_proof.ensures.1 in
    rw (p.1, p.2) (fault_by c.args.proof.now (cnf_of c.args.formula.now) c.in_ok-checker.checker _ c.in_err-check_proof.field-0.0 c.in_ok-checker.ensures.clauses c.vars.ensures.count (opened (c.args.formula.now.variables + 1) c.in_ok-checker.checker.known c.in_ok-checker.ensures.known)
    c.in_err-check_proof.ensures.fault)
