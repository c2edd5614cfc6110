use Rattle.std.proofs.Common.{◌≡◌, ◌-◌, ◌<◌, [], length, get_or, arith}
use Rattle.std.proofs.lemmas.List.{get_or_read}
use Rattle.tell_reasons.specs.declared.why.Why.TheVariants.{Known}
use Rattle.tell_steps.proofs.Telling.{line_end, line_more}
use Rattle.tell_decision.proofs.cycles.tell_line.Goals as goal

pub loop-place-init : goal.loop-place-init
loop-place-init c =
    let some : 0 < length c.args.line.now = c.requires.stands.some in
    record { within = omega (arith, some); told = rw c.in_ok-items.ensures.items (line_end c.args.history.now [] [] c.args.line.now (length c.args.line.now - 1) (omega (arith, some))) }

pub loop-place-preserved : goal.loop-place-preserved
loop-place-preserved c =
    let line = c.args.line.now in
    let p = c.loop-place.place in
    let within : p < length line = c.loop-place.invariant.within in
    let some : 0 < p = omega arith in
    let a : c.index-line-place.result ≡ get_or line (p - 1) 0 = get_or_read line (p - 1) c.index-line-place.result (omega (arith, within)) c.index-line-place.is 0 in
    let b : c.index-line-place-in-loop-place.result ≡ get_or line p 0 = get_or_read line p c.index-line-place-in-loop-place.result within c.index-line-place-in-loop-place.is 0 in
    record {
      within = omega (arith, within);
      told = line_more c.args.history.now [] [] line (p - 1) p (Known c.in_ok-shown.shown) c.loop-place.items.items c.push.new.self.items (omega (arith, some)) within (rw (← a, ← b) c.in_ok-shown.ensures.why) (rw (← a, ← b) c.in_ok-push.ensures.items) c.loop-place.invariant.told;
    }
