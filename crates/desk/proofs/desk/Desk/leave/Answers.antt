use Rattle.desk.proofs.Prelude.{◌≡◌, ap, subst, ⊤, IsEntered}
use Rattle.desk.proofs.Legal.{entered-weaker}
use Rattle.desk.proofs.desk.Desk.leave.Goals as goal

pub returns-clause-entered : goal.returns-clause-entered
returns-clause-entered g c =
    let m = g.M.Machine in let event = c.args.event in let reply = c.leave-reply.result in let calls = c.leave-reply.new.receipt.calls in
    subst (λ seat. IsEntered m.next m.reply_at (λ s. ⊤) seat event reply calls) (ap (λ v. v.number) c.seat.view_is)
    (entered-weaker m.next m.reply_at (λ s. s ≡ c.deref_mut.result.now.machine) (λ s. ⊤) c.seat.inside.number event reply calls (λ s e. tt) c.leave-reply.ensures.entered)
