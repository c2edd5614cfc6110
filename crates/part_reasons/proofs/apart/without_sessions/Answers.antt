use Rattle.part_reasons.proofs.Prelude.{◌≡◌, ◌≤◌, ap, map, length, sym, subst, ◌∙◌, arith, AllByRecursion, length-map, IsLegal, view, view_txn, txns_in}
use Rattle.part_reasons.specs.Apart as spec
use Rattle.part_reasons.proofs.Singles.{legal_apart}
use Rattle.part_reasons.proofs.apart.without_sessions.Goals as goal

pub returns-clause-legal : goal.returns-clause-legal
returns-clause-legal c =
    let part = map view c.args.part.now in
    let txns = c.in_ok-txns.txns in
    let same : map view_txn txns.items ≡ txns_in part = c.in_ok-txns.ensures.txns ∙ ap txns_in c.in_ok-copy_log.ensures in
    let few : length (txns_in part) ≤ 64 = omega (arith, ap length same, length-map txns.items view_txn, c.if-len-gt-MAX_SESSIONS.false, c.len.ensures) in
    subst (AllByRecursion IsLegal) (sym (c.in_ok-singles.ensures.singles ∙ ap (spec.singles 1) same)) (legal_apart part few c.requires.legal)
