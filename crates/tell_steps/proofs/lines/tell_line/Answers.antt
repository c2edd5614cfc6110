use Rattle.tell_steps.proofs.Prelude.{◌≡◌, ◌-◌, ◌<◌, length, get_or, arith, get_or_read}
use Rattle.tell_steps.proofs.Telling.{line_end, line_more}
use Rattle.tell_steps.proofs.lines.tell_line.Goals as goal

pub loop-place-init : goal.loop-place-init
loop-place-init c = record { within = omega (arith, c.if-line-lt1.false); told = rw c.in_ok-items.ensures.items (line_end c.args.chains.now c.args.steps.now c.args.decided.now c.args.line.now (length c.args.line.now - 1) (omega (arith, c.if-line-lt1.false))) }

pub loop-place-preserved : goal.loop-place-preserved
loop-place-preserved c =
    let line = c.args.line.now in
    let p = c.loop-place.place in
    let within : p < length line = c.loop-place.invariant.within in
    let some : 0 < p = omega arith in
    let a : c.index-line-place.result ≡ get_or line (p - 1) 0 = get_or_read line (p - 1) c.index-line-place.result (omega (arith, within)) c.index-line-place.is 0 in
    let b : c.index-line-place-in-loop-place.result ≡ get_or line p 0 = get_or_read line p c.index-line-place-in-loop-place.result within c.index-line-place-in-loop-place.is 0 in
    record {
      within = omega (arith, within);
      told = line_more c.args.chains.now c.args.steps.now c.args.decided.now line (p - 1) p c.in-Some.why c.loop-place.items.items c.push.new.self.items (omega (arith, some)) within (rw (← a, ← b) (rw c.in-Some.is at c.in_ok-why.ensures.why)) (rw (← a, ← b) c.in_ok-push.ensures.items) c.loop-place.invariant.told;
    }
