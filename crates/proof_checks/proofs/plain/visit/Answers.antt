use Rattle.proof_checks.proofs.Prelude.{◌∙◌, ap, with_literal}
use Rattle.proof_checks.proofs.Reaching.{visits_last, visits_open}
use Rattle.proof_checks.proofs.plain.visit.Goals as goal

pub returns-in_ok-keep_one-in-One-clause-visits : goal.returns-in_ok-keep_one-in-One-clause-visits
returns-in_ok-keep_one-in-One-clause-visits c = λ d a. visits_last c.args.checker.now.clauses d c.args.made_false.now.items c.keep_one.new.kept.items c.in-Some.clause.now c.in-One.literal c.args.number c.args.kept.now.items c.in-Some.ensures a (c.in-One.ensures c.args.made_false.now.items c.requires)
    (c.in_ok-keep_one-in-One.ensures.kept ∙ ap (with_literal c.args.made_false.now.items) c.negated.ensures)

pub returns-in_ok-push-in-More-clause-visits : goal.returns-in_ok-push-in-More-clause-visits
returns-in_ok-push-in-More-clause-visits c = λ d a. visits_open c.args.checker.now.clauses d c.args.made_false.now.items c.in-Some.clause.now c.args.number c.args.kept.now.items c.push.new.self.items c.in-Some.ensures (c.in-More.ensures c.args.made_false.now.items c.requires) c.in_ok-push-in-More.ensures.items
