use Rattle.proof_checks.proofs.Prelude.{◌∙◌, sym, refuted_before, given_to}
use Rattle.proof_checks.proofs.Checks.{no_empty_clause}
use Rattle.proof_checks.proofs.Passed.{empty_stands}
use Rattle.proof_checks.proofs.check_proof.Goals as goal

pub returns-then-is_refuted-clause-refuted : goal.returns-then-is_refuted-clause-refuted
returns-then-is_refuted-clause-refuted c = refuted_before c.args.checker.now.clauses c.take_steps.new.checker.clauses c.take_steps.ensures.follows (c.is_refuted.ensures.refuted c.if-is_refuted.true)

pub returns-else-is_refuted-clause-fault : goal.returns-else-is_refuted-clause-fault
returns-else-is_refuted-clause-fault c =
    no_empty_clause (given_to c.args.checker.now c.args.variables) c.args.proof.now c.take_steps.new.checker.clauses c.if-proof-gt-MAX_PROOF_BYTES.false c.in_ok-take_steps.ensures.ended
    (sym (empty_stands c.is_refuted.result c.take_steps.new.checker.clauses c.is_refuted.ensures.empty) ∙ c.if-is_refuted.false)
