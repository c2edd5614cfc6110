use Rattle.refutation.proofs.Prelude.{◌∙◌, ap, None, slice_set, map-set, clause_in}
use Rattle.refutation.proofs.clauses.Clauses.forget.Goals as goal

pub returns-then-number-len : goal.returns-then-number-len
returns-then-number-len c = map-set (clause_in c.self.inside.literals.items) c.self.inside.spans.items c.args.number None ∙ ap (λ cs. slice_set cs c.args.number None) c.self.view_is
