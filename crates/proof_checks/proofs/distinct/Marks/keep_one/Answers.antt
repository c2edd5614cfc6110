use Rattle.proof_checks.proofs.Prelude.{◌∙◌, sym}
use Rattle.proof_checks.proofs.Once.{same_kept, other_kept}
use Rattle.proof_checks.proofs.distinct.Marks.keep_one.Goals as goal

pub returns-then-has-clause-kept : goal.returns-then-has-clause-kept
returns-then-has-clause-kept c = same_kept c.args.kept.now.items c.args.literal (sym (c.has.ensures c.args.kept.now.items c.requires) ∙ c.if-has.true)

pub returns-clause-kept : goal.returns-clause-kept
returns-clause-kept c = other_kept c.args.kept.now.items c.push.new.self.items c.args.literal (sym (c.has.ensures c.args.kept.now.items c.requires) ∙ c.if-has.false) c.in_ok-push.ensures.items

pub returns-clause-marked : goal.returns-clause-marked
returns-clause-marked c = rw c.in_ok-push.ensures.items (c.in_ok-add.ensures c.args.kept.now.items c.requires)
