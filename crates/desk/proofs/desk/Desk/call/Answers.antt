use Rattle.desk.proofs.Prelude.{◌≡◌, ap, subst, false, ◌∙◌, IsEntered}
use Rattle.std.proofs.lemmas.Result.{IfOk-weaker}
use Rattle.desk.proofs.Legal.{entered-weaker}
use Rattle.desk.proofs.desk.Desk.call.Goals as goal

pub returns-clause-entered : goal.returns-clause-entered
returns-clause-entered g c =
    let m = g.M.Machine in let event = c.args.event in let n = c.seat.inside.number in let calls = c.call-result.new.receipt.calls in let now = c.deref_mut.result.now.machine in
    let passes : m.waits_at now n event ≡ false = ap (λ v. m.waits_at v.machine n event) c.deref_mut.ensures.value ∙ c.lock_for-guarded.ensures in
    IfOk-weaker c.call-result.result (λ r. IsEntered m.next m.reply_at (λ s. s ≡ now) n event r calls) (λ r. IsEntered m.next m.reply_at (λ s. m.waits_at s c.args.seat.now.number event ≡ false) c.args.seat.now.number event r calls)
    (λ r h. subst (λ seat. IsEntered m.next m.reply_at (λ s. m.waits_at s seat event ≡ false) seat event r calls) (ap (λ v. v.number) c.seat.view_is)
    (entered-weaker m.next m.reply_at (λ s. s ≡ now) (λ s. m.waits_at s n event ≡ false) n event r calls (λ s e. ap (λ t. m.waits_at t n event) e ∙ passes) h))
    c.call-result.ensures.entered
