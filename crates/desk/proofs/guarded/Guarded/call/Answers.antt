use Rattle.desk.proofs.Prelude.{◌≡◌, [], ◌∷◌, ◌++◌, false, sym, ap, ◌∙◌, subst, arith, Result, Ok, Err, OnOk, is_err, entry, opening_of}
use Rattle.desk.proofs.Legal.{entered-push, reached-push}
use Rattle.desk.proofs.Tied.{staying_le}
use Rattle.desk.proofs.guarded.Guarded.call.Goals as goal

ok_says : {T E P : Type 0} (r : Result T E) → is_err r ≡ false → OnOk r P → P
ok_says (Ok x) e h = h
ok_says (Err x) e h = absurd (cc)

pub enter-requires-clause-more : goal.enter-requires-clause-more
enter-requires-clause-more g c =
    let room = ok_says c.reserve.result (sym c.is_err.ensures.value ∙ c.if-is_err.false) c.reserve.ensures.ok in
    let l = c.len.ensures in let few = staying_le c.self.inside.rows.items in omega arith

pub invariant_of-self-2 : goal.invariant_of-self-2
invariant_of-self-2 g c =
    let m = g.M.Machine in let i = c.self.invariant in let s = c.step-reply.ensures in let n = c.args.seat in let event = c.args.event in let r = c.step-reply.result in (
      reached-push m.next m.reply_at (opening_of c.self.inside.opening.calls) c.self.inside.history.items c.enter.new.history.items c.self.inside.machine c.step-reply.new.self n event r i.0 (c.enter.ensures.history ∙ ap (λ l. l ++ entry n event r ∷ []) c.reserve.ensures.items) s.reply s.state,
      subst m.valid (sym s.state) (g.met.M.Machine.keeps c.self.inside.machine n event i.1),
      c.enter.ensures.tied,
      c.enter.ensures.room,
      i.4,
    )

pub returns-clause-entered : goal.returns-clause-entered
returns-clause-entered g c =
    let m = g.M.Machine in let n = c.args.seat in let event = c.args.event in let r = c.step-reply.result in
    entered-push m.next m.reply_at (λ s. s ≡ c.args.self.now.machine) (opening_of c.self.inside.opening.calls) c.self.inside.history.items c.enter.new.history.items c.self.inside.machine n event r c.enter.new.receipt.calls (ap (λ v. v.machine) c.self.view_is) c.self.invariant.0 (c.enter.ensures.history ∙ ap (λ l. l ++ entry n event r ∷ []) c.reserve.ensures.items) c.step-reply.ensures.reply c.enter.ensures.part
