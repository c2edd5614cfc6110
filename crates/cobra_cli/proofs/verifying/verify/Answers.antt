use Rattle.cobra_cli.proofs.Prelude.{err_from_is_err_and, IsVerified, IsNotVerified, by_log, by_command, told_all, cut_all, keeps}
use Rattle.cobra_cli.proofs.verifying.verify.Goals as goal

pub returns-in_err-history-clause-refused : goal.returns-in_err-history-clause-refused
returns-in_err-history-clause-refused g c =
    let p = err_from_is_err_and c.from_residual.result c.from_residual.ensures.1 in
    rw (p.1, p.2) (by_log c.in_err-history.field-0.0 c.in_err-history.ensures.refused (keeps _))

pub returns-in_err-reply-clause-refused : goal.returns-in_err-reply-clause-refused
returns-in_err-reply-clause-refused g c =
    let p = err_from_is_err_and c.from_residual-in_err-reply.result c.from_residual-in_err-reply.ensures.1 in
    rw (p.1, p.2) (by_command c.in_err-reply.field-0.0 c.in_ok-history.history c.in_ok-history.ensures.accepted c.in_err-reply.ensures.refused (keeps _))

pub returns-clause-told : goal.returns-clause-told
returns-clause-told g c =
    told_all (IsVerified c.args.order.now) c.args.log.now c.in_ok-history.history _ _ c.in_ok-reply.reply.status c.in_ok-reply.reply.text.items c.tell.result
    c.in_ok-history.ensures.accepted c.in_ok-reply.ensures.verified c.tell.ensures.status c.tell.ensures.told

pub returns-clause-refused : goal.returns-clause-refused
returns-clause-refused g c =
    cut_all (IsVerified c.args.order.now) (IsNotVerified c.args.order.now) c.args.log.now c.in_ok-history.history _ _ c.in_ok-reply.reply.status c.in_ok-reply.reply.text.items c.tell.result
    c.in_ok-history.ensures.accepted c.in_ok-reply.ensures.verified c.tell.ensures.cut
