use Rattle.proof_checks.proofs.Prelude.{subst, entails_then, IsFound}
use Rattle.proof_checks.proofs.search.Search.take_hinted.Goals as goal

pub returns-then-branch-clause-found : goal.returns-then-branch-clause-found
returns-then-branch-clause-found c = λ cs hs. subst (IsFound cs c.take_found.new.checker.clauses c.args.literals.now) c.if-branch.true (c.in_ok-take_found.ensures.found cs hs)

pub returns-clause-follows : goal.returns-clause-follows
returns-clause-follows c = entails_then c.args.checker.now.clauses c.take_found.new.checker.clauses c.take_renewed.new.checker.clauses c.take_found.ensures.follows c.take_renewed.ensures.follows

pub returns-clause-found : goal.returns-clause-found
returns-clause-found c = λ cs hs. c.take_renewed.ensures.found cs (subst (IsFound cs c.take_found.new.checker.clauses c.args.literals.now) c.if-branch.false (c.in_ok-take_found.ensures.found cs hs))
