use Rattle.tell_reasons.proofs.Prelude.{◌≡◌, map, drop, zip, option_copied, view, view_txn, view_place, first_given, first_of, first_in, is_write_as}
use Rattle.tell_reasons.proofs.writes.write_in.Given as goal

abbrev pub invariant-loop-at : goal.invariant-loop-at
invariant-loop-at l = first_given (first_of (is_write_as (option_copied l.key) l.wid) l.session.number) (zip (map view_txn (drop l.at l.session.txns.items)) (map view_place (drop l.at l.places))) ≡ first_in (is_write_as (option_copied l.key) l.wid) (view l.session) (map view_place l.places)
