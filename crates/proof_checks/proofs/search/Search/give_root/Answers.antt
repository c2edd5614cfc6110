use Rattle.proof_checks.proofs.Prelude.{ap, [], ◌∷◌, Standing}
use Rattle.proof_checks.proofs.Hints.{entails_added, root_follows}
use Rattle.proof_checks.proofs.Propagating.{holds_root}
use Rattle.proof_checks.proofs.search.Search.give_root.Goals as goal

pub returns-clause-follows : goal.returns-clause-follows
returns-clause-follows c = entails_added c.args.checker.now.clauses c.give.new.self.clauses (c.args.literal ∷ []) (ap (λ (s : Standing). s.clauses) c.in_ok-give.ensures.given) (root_follows c.args.checker.now.clauses c.args.literal (c.forces.ensures c.if-not-forces.false))

pub returns-clause-holds : goal.returns-clause-holds
returns-clause-holds c = λ cs hs. holds_root cs c.args.checker.now.clauses c.give.new.self.clauses c.args.literal hs (ap (λ (s : Standing). s.clauses) c.in_ok-give.ensures.given) (c.forces.ensures c.if-not-forces.false)
