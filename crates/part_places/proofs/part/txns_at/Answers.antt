use Rattle.part_places.proofs.Prelude.{map, sym, ap, ◌∙◌, get_drop, item, get_map, view, view_txn, Session, first_txns}
use Rattle.part_places.proofs.part.txns_at.Goals as goal

pub returns-then-at-part : goal.returns-then-at-part
returns-then-at-part c =
    let part = c.args.part.now in
    let x = c.index-part-at.result in
    let at = item part c.args.at x c.if-at-part.true c.index-part-at.is in
    ap (map view_txn) c.deref.ensures.value ∙ ap (λ (s : Session). map view_txn s.txns.items) (sym c.index-part-at.is) ∙ sym (ap first_txns (get_drop (map view part) c.args.at (view x) (get_map view part c.args.at x at)))
