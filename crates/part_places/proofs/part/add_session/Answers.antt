use Rattle.part_places.proofs.Prelude.{◌≡◌, length, map, ap, ◌∙◌, arith, drop, length-map, view, view_txn, flag_of, view_place, first_txns}
use Rattle.std.proofs.lemmas.Result.{on_ok_weaker}
use Rattle.part_places.proofs.Added.{rows_added}
use Rattle.part_places.proofs.part.add_session.Goals as goal

pub returns : goal.returns
returns c =
    let part = map view c.args.part.now in
    let table = c.args.table.now.items in
    let old = map (λ s. map view_place s.items) table in
    let new = map (λ s. map view_place s.items) c.add_rows.new.table.items in
    let rows = map view_place c.in_ok-rows.rows.items in
    let left = map view_txn c.txns_at-left.result.now in
    let long : c.len.result ≡ length old = omega (arith, c.len.ensures, c.args.table.now.ok.0, length-map table (λ s. map view_place s.items)) in
    let first = c.txns_at-left.ensures ∙ ap (λ n. first_txns (drop n part)) long in
    on_ok_weaker c.add_rows.result
    (λ e known. rows_added known (flag_of c.args.flags.now) (view c.args.session.now) c.args.first part left old new rows first (λ more. c.in_ok-rows.ensures.rows known more) e) c.add_rows.ensures
