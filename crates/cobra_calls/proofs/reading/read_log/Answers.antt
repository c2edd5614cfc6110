use Rattle.cobra_calls.proofs.Prelude.{sym, subst, IsLogUnread}
use Rattle.cobra_calls.proofs.reading.read_log.Goals as goal

pub returns-in-Err-clause-unread : goal.returns-in-Err-clause-unread
returns-in-Err-clause-unread g c =
    let old = g.I.Inputs.failures c.args.inputs.now in
    subst (λ after. IsLogUnread c.args.request.now old after c.log_unread.result) (sym c.in-Err.ensures.count) (c.log_unread.ensures.unread old)
