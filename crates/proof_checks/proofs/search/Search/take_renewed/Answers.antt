use Rattle.proof_checks.proofs.Prelude.{entails_then}
use Rattle.proof_checks.proofs.search.Search.take_renewed.Goals as goal

pub returns-clause-follows : goal.returns-clause-follows
returns-clause-follows c = entails_then c.args.checker.now.clauses c.settle.new.checker.clauses c.take_found.new.checker.clauses c.settle.ensures.follows c.take_found.ensures.follows

pub returns-clause-found : goal.returns-clause-found
returns-clause-found c = λ cs hs. c.take_found.ensures.found cs (c.settle.ensures.holds cs hs)
