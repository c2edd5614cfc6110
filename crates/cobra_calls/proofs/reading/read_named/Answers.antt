use Rattle.cobra_calls.proofs.Prelude.{sym, subst, IsUnread}
use Rattle.cobra_calls.proofs.reading.read_named.Goals as goal

pub returns-in-Err-clause-unread : goal.returns-in-Err-clause-unread
returns-in-Err-clause-unread g c =
    let old = g.I.Inputs.failures c.args.inputs.now in
    subst (λ after. IsUnread old after c.unread.result) (sym c.in-Err.ensures.count) (c.unread.ensures.unread old)
