use Rattle.std.proofs.Common.{refl, inl}
use Rattle.cobra_program.proofs.Serving.{by_audit, by_other, plain_but}
use Rattle.cobra_program.proofs.calls.serve.Goals as goal

pub returns-in-Audit : goal.returns-in-Audit
returns-in-Audit g c = record {
  served = (by_audit c.args.request.now.command c.in-Audit.words c.args.start c.args.request.now _ c.answer_audit.result c.in-Audit.is c.answer_audit.ensures.answered, inl c.answer_audit.ensures.once);
}

pub returns-in_default : goal.returns-in_default
returns-in_default g c = record {
  served = (by_other c.args.request.now.command c.args.start c.args.request.now _ c.answer.result (plain_but c.args.request.now.command c.in_default.not-Audit) c.answer.ensures.answered refl, c.answer.ensures.once);
}
