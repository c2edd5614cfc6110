use Rattle.cobra_cli.proofs.Prelude.{err_from_is_err_and, by_log, by_command, poly_refusal, told_all, cut_all, keeps, IsVerdict, IsUndecided}
use Rattle.cobra_answers.specs.declared.fault.Fault.TheVariants as fault
use Rattle.cobra_cli.proofs.Answering.{verdict_so, decided_so, undecided_so}
use Rattle.cobra_cli.proofs.checking.check.Goals as goal

pub verdict-requires : goal.verdict-requires
verdict-requires g c = record { decided = decided_so c.args.options.now.budget c.in_ok-history.history c.in_ok-decision.decision (rw c.means.ensures.budget at c.in_ok-decision.ensures.decides) }

pub returns-in_err-history-clause-refused : goal.returns-in_err-history-clause-refused
returns-in_err-history-clause-refused g c =
    let p = err_from_is_err_and c.from_residual.result c.from_residual.ensures.1 in
    rw (p.1, p.2) (by_log c.in_err-history.field-0.0 c.in_err-history.ensures.refused (keeps _))

pub returns-in_err-decision-clause-refused : goal.returns-in_err-decision-clause-refused
returns-in_err-decision-clause-refused g c =
    let p = err_from_is_err_and c.from_residual-in_err-decision.result c.from_residual-in_err-decision.ensures.1 in
    rw (p.1, p.2)
    (by_command (poly_refusal c.in_err-decision.field-0.0) c.in_ok-history.history c.in_ok-history.ensures.accepted
    (undecided_so c.in_ok-history.history c.in_err-decision.field-0.0 c.in_err-decision.ensures.fault) (keeps _))

pub returns-in_err-reply-clause-refused : goal.returns-in_err-reply-clause-refused
returns-in_err-reply-clause-refused g c =
    let p = err_from_is_err_and c.from_residual-in_err-reply.result c.from_residual-in_err-reply.ensures.1 in
    rw (p.1, p.2) (by_command fault.Memory c.in_ok-history.history c.in_ok-history.ensures.accepted tt (keeps _))

pub returns-clause-told : goal.returns-clause-told
returns-clause-told g c =
    let says = verdict_so c.args.options.now.budget c.in_ok-history.history c.in_ok-decision.decision c.in_ok-reply.reply (rw c.means.ensures.budget at c.in_ok-decision.ensures.decides) c.in_ok-reply.ensures.status c.in_ok-reply.ensures.text in
    told_all (IsVerdict c.args.options.now.budget) c.args.log.now c.in_ok-history.history _ _ c.in_ok-reply.reply.status c.in_ok-reply.reply.text.items c.tell.result
    c.in_ok-history.ensures.accepted says c.tell.ensures.status c.tell.ensures.told

pub returns-clause-refused : goal.returns-clause-refused
returns-clause-refused g c =
    let says = verdict_so c.args.options.now.budget c.in_ok-history.history c.in_ok-decision.decision c.in_ok-reply.reply (rw c.means.ensures.budget at c.in_ok-decision.ensures.decides) c.in_ok-reply.ensures.status c.in_ok-reply.ensures.text in
    cut_all (IsVerdict c.args.options.now.budget) IsUndecided c.args.log.now c.in_ok-history.history _ _ c.in_ok-reply.reply.status c.in_ok-reply.reply.text.items c.tell.result
    c.in_ok-history.ensures.accepted says c.tell.ensures.cut
