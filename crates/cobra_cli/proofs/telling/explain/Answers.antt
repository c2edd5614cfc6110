use Rattle.cobra_cli.proofs.Prelude.{err_from_is_err_and, version_of, room_behind, by_log, by_command, poly_refusal, told_all, cut_all, keeps, IsUndecided, IsExplanation}
use Rattle.cobra_answers.specs.declared.fault.Fault.TheVariants as fault
use Rattle.cobra_cli.proofs.Answering.{decided_so, undecided_so, explanation_so}
use Rattle.cobra_cli.proofs.telling.explain.Goals as goal

pub explanation-requires-clause-room : goal.explanation-requires-clause-room
explanation-requires-clause-room g c =
    let well = c.in_ok-history.ensures.accepted in
    room_behind (version_of c.args.log.now) c.args.log.now c.in_ok-history.history well.size well.lines

pub explanation-requires-clause-decided : goal.explanation-requires-clause-decided
explanation-requires-clause-decided g c = decided_so c.args.options.now.budget c.in_ok-history.history c.in_ok-decision.decision (rw c.means.ensures.budget at c.in_ok-decision.ensures.decides)

pub returns-in_err-history-clause-refused : goal.returns-in_err-history-clause-refused
returns-in_err-history-clause-refused g c =
    let p = err_from_is_err_and c.from_residual.result c.from_residual.ensures.1 in
    rw (p.1, p.2) (by_log c.in_err-history.field-0.0 c.in_err-history.ensures.refused (keeps _))

pub returns-in_err-decision-clause-refused : goal.returns-in_err-decision-clause-refused
returns-in_err-decision-clause-refused g c =
    let p = err_from_is_err_and c.from_residual-in_err-decision.result c.from_residual-in_err-decision.ensures.1 in
    rw (p.1, p.2)
    (by_command (poly_refusal c.in_err-decision.field-0.0) c.in_ok-history.history c.in_ok-history.ensures.accepted
    (undecided_so c.in_ok-history.history c.in_err-decision.field-0.0 c.in_err-decision.ensures.fault) (keeps _))

pub returns-in_err-reply-clause-refused : goal.returns-in_err-reply-clause-refused
returns-in_err-reply-clause-refused g c =
    let p = err_from_is_err_and c.from_residual-in_err-reply.result c.from_residual-in_err-reply.ensures.1 in
    rw (p.1, p.2) (by_command fault.Memory c.in_ok-history.history c.in_ok-history.ensures.accepted tt (keeps _))

pub returns-clause-told : goal.returns-clause-told
returns-clause-told g c =
    let decides = rw c.means.ensures.budget at c.in_ok-decision.ensures.decides in
    let says = explanation_so c.args.options.now.budget c.of.result (version_of c.args.log.now) c.args.format c.in_ok-history.history c.in_ok-decision.decision c.in_ok-reply.reply c.of.ensures decides c.in_ok-reply.ensures.status c.in_ok-reply.ensures.text in
    told_all (IsExplanation c.args.options.now.budget (version_of c.args.log.now) c.args.format) c.args.log.now c.in_ok-history.history _ _ c.in_ok-reply.reply.status c.in_ok-reply.reply.text.items c.tell.result
    c.in_ok-history.ensures.accepted says c.tell.ensures.status c.tell.ensures.told

pub returns-clause-refused : goal.returns-clause-refused
returns-clause-refused g c =
    let decides = rw c.means.ensures.budget at c.in_ok-decision.ensures.decides in
    let says = explanation_so c.args.options.now.budget c.of.result (version_of c.args.log.now) c.args.format c.in_ok-history.history c.in_ok-decision.decision c.in_ok-reply.reply c.of.ensures decides c.in_ok-reply.ensures.status c.in_ok-reply.ensures.text in
    cut_all (IsExplanation c.args.options.now.budget (version_of c.args.log.now) c.args.format) IsUndecided c.args.log.now c.in_ok-history.history _ _ c.in_ok-reply.reply.status c.in_ok-reply.reply.text.items c.tell.result
    c.in_ok-history.ensures.accepted says c.tell.ensures.cut
