use Rattle.tell_steps.proofs.Prelude.{◌-◌, length, refl, arith}
use Rattle.tell_steps.proofs.Telling.{round_told}
use Rattle.tell_steps.proofs.rounds.tell_cycle.Goals as goal

pub returns-in_default-clause-none : goal.returns-in_default-clause-none
returns-in_default-clause-none c = λ all round stands. absurd (let e = c.in_default.ensures.all round.start round.start round.ends in cc)

pub returns-clause-told : goal.returns-clause-told
returns-clause-told c =
    let line = c.args.line.now in
    round_told c.args.chains.now c.args.steps.now c.args.decided.now line c.in-Some-2.told.items c.new-items.result.items c.push.new.self.items c.deref.result.now c.extend_from_slice.new.self.items c.in-Some.ends.0 c.in-Some.ends.1 (length line - 1) c.in-Some.ensures.some
    (omega (arith, c.if-get.false, c.get.ensures.value, c.get-2.ensures.value)) refl (rw c.in-Some-2.is at c.in_ok-told.ensures.told) c.new-items.ensures.items c.in_ok-push.ensures.items c.deref.ensures.value c.in_ok-extend_from_slice.ensures.items
