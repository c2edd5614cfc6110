use Rattle.desk.proofs.Prelude.{◌≡◌, sym, ap, subst, opening_of}
use Rattle.desk.proofs.Legal.{entered-push, reached-push}
use Rattle.desk.proofs.guarded.Guarded.leave.Goals as goal

pub invariant_of-self : goal.invariant_of-self
invariant_of-self g c =
    let m = g.M.Machine in let i = c.self.invariant in let s = c.step-reply.ensures in let n = c.args.seat in (
      reached-push m.next m.reply_at (opening_of c.self.inside.opening.calls) c.self.inside.history.items c.enter.new.history.items c.self.inside.machine c.step-reply.new.self n c.args.event c.step-reply.result i.0 c.enter.ensures.history s.reply s.state,
      subst m.valid (sym s.state) (g.met.M.Machine.keeps c.self.inside.machine n c.args.event i.1),
      c.enter.ensures.tied,
      c.enter.ensures.room,
      i.4,
    )

pub returns-clause-entered : goal.returns-clause-entered
returns-clause-entered g c =
    let m = g.M.Machine in
    entered-push m.next m.reply_at (λ s. s ≡ c.args.self.now.machine) (opening_of c.self.inside.opening.calls) c.self.inside.history.items c.enter.new.history.items c.self.inside.machine c.args.seat c.args.event c.step-reply.result c.enter.new.receipt.calls (ap (λ v. v.machine) c.self.view_is) c.self.invariant.0 c.enter.ensures.history c.step-reply.ensures.reply c.enter.ensures.part
