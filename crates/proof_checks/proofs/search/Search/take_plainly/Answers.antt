use Rattle.proof_checks.proofs.Prelude.{ap, Standing}
use Rattle.proof_checks.proofs.Hints.{plainly_follows, plainly_taken, plainly_not}
use Rattle.proof_checks.proofs.search.Search.take_plainly.Goals as goal

pub returns-then-not-branch-clause-taken : goal.returns-then-not-branch-clause-taken
returns-then-not-branch-clause-taken c = λ cs hs. plainly_not cs c.args.checker.now.clauses c.args.checker.now.clauses c.args.literals.now c.in_ok-is_implied.field-0 hs c.in_ok-is_implied.ensures.ends c.if-not-branch.true

pub returns-clause-follows : goal.returns-clause-follows
returns-clause-follows c = plainly_follows c.args.checker.now.clauses c.give.new.self.clauses c.args.literals.now c.in_ok-is_implied.field-0 c.in_ok-is_implied.ensures.ends c.if-not-branch.false (ap (λ (s : Standing). s.clauses) c.in_ok-give.ensures.given)

pub returns-clause-taken : goal.returns-clause-taken
returns-clause-taken c = λ cs hs. plainly_taken cs c.args.checker.now.clauses c.give.new.self.clauses c.args.literals.now c.in_ok-is_implied.field-0 hs c.in_ok-is_implied.ensures.ends c.if-not-branch.false (ap (λ (s : Standing). s.clauses) c.in_ok-give.ensures.given)
