use Rattle.proof_checks.proofs.Prelude.{◌≡◌, length, ap, sym, subst, arith, Covers}
use Rattle.proof_checks.proofs.Reaching.{itself_false, pass_over, not_implied}
use Rattle.proof_checks.proofs.plain.reach_end.Goals as goal

pub returns-then-len-clause-ends : goal.returns-then-len-clause-ends
returns-then-len-clause-ends c = λ d a v.
    let cs = c.args.checker.now.clauses in
    let passes = pass_over cs d c.loop-kept.made_false.items c.pass.new.made_false.items c.deref.result.now c.pass.new.kept.items c.in_ok-pass.field-0 (c.in_ok-pass.ensures.passes d (c.loop-kept.invariant.are_false d a)) c.if-branch.false in
    let long : length c.deref.result.now ≡ length c.loop-kept.left.items = ap length c.deref.ensures.value in
    let same : length c.pass.new.kept.items ≡ length c.deref.result.now = omega (arith, long) in
    not_implied cs d c.loop-kept.made_false.items c.pass.new.made_false.items c.deref.result.now c.pass.new.kept.items (subst (Covers cs c.loop-kept.made_false.items) (sym c.deref.ensures.value) (c.loop-kept.invariant.covers d a v)) passes same

pub loop-kept-smaller : goal.loop-kept-smaller
loop-kept-smaller c =
    let cs = c.args.checker.now.clauses in
    let m = c.loop-kept.made_false.items in
    let passes = pass_over cs m m c.pass.new.made_false.items c.deref.result.now c.pass.new.kept.items c.in_ok-pass.field-0 (c.in_ok-pass.ensures.passes m (itself_false cs m)) c.if-branch.false in
    let le = passes.fewer in
    let long : length c.deref.result.now ≡ length c.loop-kept.left.items = ap length c.deref.ensures.value in
    rw c.swap.ensures.x_after (omega (arith, le, long))
