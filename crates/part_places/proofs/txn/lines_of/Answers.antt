use Rattle.part_places.proofs.Prelude.{◌≡◌, ℕ, ◌+◌, List, length, drop, sym, ap, ◌∙◌, subst, arith, Vec, item, stays, is_kept}
use Rattle.part_places.proofs.Matched.{IsMatched, same_test, one_matched, one_left}
use Rattle.part_places.proofs.txn.lines_of.Goals.{then-is_next+in_ok-push, else-is_next}
use Rattle.part_places.proofs.txn.lines_of.Goals as goal

pub loop-at-preserved : goal.loop-at-preserved
loop-at-preserved c = λ known same. (
    let ops = c.args.ops.now in
    let kept = c.args.kept.now in
    let first = c.args.first in
    let lines = c.loop-at.lines.items in
    let i = c.loop-at.at in
    let o = c.index-ops-at.result in
    let at = item ops i o c.loop-at-test.true c.index-ops-at.is in
    let m = c.loop-at.invariant known same in
    let long : c.len.result ≡ length lines = omega (arith, c.len.ensures, c.loop-at.lines.ok.0) in
    let test : c.is_next.result ≡ stays known o = c.is_next.ensures ∙ ap (λ n. is_kept o (drop n kept)) long ∙ same_test known ops kept first lines i o at m in
    elim c.if-is_next.branch [
      | then-is_next+in_ok-push w ↦
          subst (λ (v : Vec ℕ _). IsMatched known ops kept first v.items (i + 1)) (sym w.lines-is)
          (subst (λ (l : List ℕ). IsMatched known ops kept first l (i + 1)) (sym w.in_ok-push.ensures.items) (one_matched known ops kept first lines i o at (sym test ∙ w.if-is_next.true) m))
      | else-is_next w ↦ subst (λ (v : Vec ℕ _). IsMatched known ops kept first v.items (i + 1)) (sym w.lines-is) (one_left known ops kept first lines i o at (sym test ∙ w.if-is_next.false) m)
    ])
