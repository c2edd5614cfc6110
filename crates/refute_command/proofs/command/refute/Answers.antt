use Rattle.std.proofs.Common.{Err}
use Rattle.std.proofs.lemmas.Result.{err_from_is_err_and}
use Rattle.cobra_answers.specs.Answers.{by_log}
use Rattle.cobra_answers.proofs.Telling.{cut_all, keeps}
use Rattle.refute_command.specs.Refuted.{IsRefutation, HasNoFormula}
use Rattle.refute_command.proofs.Refusing.{refused_so}
use Rattle.refute_command.proofs.command.refute.Goals as goal

pub returns-in_err-history-clause-refused : goal.returns-in_err-history-clause-refused
returns-in_err-history-clause-refused g c =
    let p = err_from_is_err_and c.from_residual.result c.from_residual.ensures.1 in
    rw (p.1, p.2) (by_log c.in_err-history.field-0.0 c.in_err-history.ensures.refused (keeps _))

pub returns-in_err-reply-clause-refused : goal.returns-in_err-reply-clause-refused
returns-in_err-reply-clause-refused g c =
    let p = err_from_is_err_and c.from_residual-in_err-reply.result c.from_residual-in_err-reply.ensures.1 in
    rw (p.1, p.2) (refused_so c.args.plain c.args.proof.now c.args.log.now c.in_ok-history.history _ c.in_err-reply.field-0.0 c.in_ok-history.ensures.accepted c.in_err-reply.ensures.refused)

pub returns-in_err-tell-clause-refused : goal.returns-in_err-tell-clause-refused
returns-in_err-tell-clause-refused g c =
    let p = err_from_is_err_and c.from_residual-in_err-tell.result c.from_residual-in_err-tell.ensures.1 in
    rw (p.1, p.2) (cut_all (IsRefutation c.args.plain c.args.proof.now) (HasNoFormula c.args.plain) c.args.log.now c.in_ok-history.history _ _ c.in_ok-reply.reply.status c.in_ok-reply.reply.text.items
    (Err c.in_err-tell.field-0.0) c.in_ok-history.ensures.accepted c.in_ok-reply.ensures.shown c.in_err-tell.ensures.cut)
