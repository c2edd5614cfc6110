use Rattle.proof_checks.proofs.Prelude.{◌∙◌, proof_of}
use Rattle.proof_checks.proofs.Places.{stands, stands_not, has_no_number}
use Rattle.proof_checks.proofs.lrat.standing.Goals as goal

pub returns-in_err-number : goal.returns-in_err-number
returns-in_err-number c = c.from_residual.ensures ∙ has_no_number (proof_of c.args.checker.now c.args.added.now) c.args.id c.in_err-number.ensures

pub returns-in-Some : goal.returns-in-Some
returns-in-Some c = stands (proof_of c.args.checker.now c.args.added.now) c.args.id c.in_ok-number.number _ c.in_ok-number.ensures c.in-Some.ensures

pub returns-in-None : goal.returns-in-None
returns-in-None c = stands_not (proof_of c.args.checker.now c.args.added.now) c.args.id c.in_ok-number.number c.in_ok-number.ensures c.in-None.ensures
