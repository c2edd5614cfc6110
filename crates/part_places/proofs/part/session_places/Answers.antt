use Rattle.part_places.proofs.Prelude.{◌≡◌, ◌+◌, length, drop, map, sym, ap, ◌∙◌, subst, arith, length-append, slice_get, flat_map, get_drop, item, view_txn, txn_lines, view_place}
use Rattle.part_places.proofs.Added.{AreRows, rows_more}
use Rattle.part_places.proofs.part.session_places.Goals as goal

pub loop-at-preserved : goal.loop-at-preserved
loop-at-preserved c =
    let txns = c.args.session.now.txns.items in
    let f = c.args.flags.now in
    let left = map view_txn c.args.left.now in
    let i = c.loop-at.at in
    let t = c.txn-item.result in
    let line = c.loop-at.line in
    let new = map view_place c.add_txn.new.rows.items in
    let at = ap (λ l. slice_get l i) (sym c.deref-txn-items.ensures.value) ∙ item c.deref-txn-items.result.now i t c.loop-at-test.true c.txn-item.is in
    let rest = drop (i + 1) txns in
    let count : length (flat_map txn_lines (map view_txn (drop i txns))) ≡ length (txn_lines (view_txn t)) + length (flat_map txn_lines (map view_txn rest)) =
    ap (λ l. length (flat_map txn_lines (map view_txn l))) (get_drop txns i t at) ∙ length-append (txn_lines (view_txn t)) (flat_map txn_lines (map view_txn rest)) in
    let before = c.loop-at.invariant.room in
    record {
      rows = λ known more same. (subst (λ k. AreRows known f txns left c.args.first more new (line + k) (i + 1)) (sym c.line_count-line.ensures)
          (rows_more known f txns left c.args.first more (map view_place c.loop-at.rows.items) new line i t c.is_flagged.result at c.is_flagged.ensures (c.in_ok-add_txn.ensures known) (c.loop-at.invariant.rows known more same)));
      room = omega (arith, count, before, c.line_count-line.ensures);
    }
