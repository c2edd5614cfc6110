use Rattle.proof_checks.proofs.Prelude.{subst, entails_then, IsFound}
use Rattle.proof_checks.proofs.search.Search.take.Goals as goal

pub returns-then-branch-clause-taken : goal.returns-then-branch-clause-taken
returns-then-branch-clause-taken c = λ cs hs. subst (IsFound cs c.take_hinted.new.checker.clauses c.args.literals.now) c.if-branch.true (c.in_ok-take_hinted.ensures.found cs hs)

pub returns-clause-follows : goal.returns-clause-follows
returns-clause-follows c = entails_then c.args.checker.now.clauses c.take_hinted.new.checker.clauses c.take_plainly.new.checker.clauses c.take_hinted.ensures.follows c.take_plainly.ensures.follows

pub returns-clause-taken : goal.returns-clause-taken
returns-clause-taken c = λ cs hs. c.take_plainly.ensures.taken cs (subst (IsFound cs c.take_hinted.new.checker.clauses c.args.literals.now) c.if-branch.false (c.in_ok-take_hinted.ensures.found cs hs))
