use Rattle.level_checks.proofs.Prelude.{◌≡◌, ◌∷◌, [], Some, get_or, sym, subst, take, slice_get, AllByRecursion, slice_get-get_or, get_or_from_slice_get, front_more, each_from_append, Look, IsClearLook}
use Rattle.level_checks.proofs.seen.all_clear.Goals as goal

pub loop-look-preserved : goal.loop-look-preserved
loop-look-preserved c noted marked =
    let looks = c.args.looks.now in
    let i = c.loop-look.look-index in
    let d : Look = record { link = 0; source = 0 } in
    let look : Look = get_or looks i d in
    let there : slice_get looks i ≡ Some look = slice_get-get_or looks i d c.loop-look-test.true in
    let same : look ≡ get_or looks i look = sym (get_or_from_slice_get looks i look look there) in
    let P = IsClearLook c.args.entries.now c.args.row.now c.args.front.now in
    subst (AllByRecursion P) (sym (front_more looks i look c.loop-look-test.true same))
    (each_from_append P (take i looks) (look ∷ []) (c.loop-look.invariant noted marked) (c.is_clear.ensures c.if-not-is_clear.false noted marked, tt))
