use Rattle.part_places.proofs.Prelude.{◌≡◌, Bool, List, [], ◌∷◌, ◌++◌, length, map, true, sym, ap, ◌∙◌, subst, arith, length-map, map-append, item, view_txn, TxnRow, view_place, AddsRow}
use Rattle.part_places.proofs.Added.{row_added}
use Rattle.part_places.proofs.part.add_txn.Goals as goal

pub returns-in_ok-push : goal.returns-in_ok-push
returns-in_ok-push c = λ known. (
    let t = view_txn c.args.txn.now in
    let left = c.args.left.now in
    let rows = c.args.rows.now.items in
    let old = map view_place rows in
    let next = c.len-next.result in
    let x = c.index-left-next.result in
    let p = c.in_ok-txn_place.field-0 in
    let long : next ≡ length old = omega (arith, c.len-next.ensures, c.args.rows.now.ok.0, length-map rows view_place) in
    let at = item left next x c.if-next-left.true c.index-left-next.is in
    let pushed : map view_place c.push.new.self.items ≡ old ++ view_place p ∷ [] = ap (map view_place) c.in_ok-push.ensures.items ∙ map-append view_place rows (p ∷ []) in
    subst (λ (b : Bool). AddsRow known b t c.args.place c.args.line (map view_txn left) old (map view_place c.push.new.self.items)) (sym c.if-flagged.true)
    (subst (λ (l : List TxnRow). AddsRow known true t c.args.place c.args.line (map view_txn left) old l) (sym pushed) (row_added known t c.args.place c.args.line left old next x (view_place p) long at (c.in_ok-txn_place.ensures.row known))))
