use Rattle.proof_checks.proofs.Prelude.{length}
use Rattle.proof_checks.proofs.Hints.{found_by}
use Rattle.proof_checks.proofs.search.Search.take_found.Goals as goal

pub returns-clause-found : goal.returns-clause-found
returns-clause-found c = λ cs hs. found_by cs c.args.checker.now c.take_step.new.checker c.args.literals.now (length c.args.checker.now.known) _ c.take_step.result hs c.take_step.ensures.taken c.take_step.ensures.exactly
