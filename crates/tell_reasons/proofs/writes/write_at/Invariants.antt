use Rattle.tell_reasons.proofs.Prelude.{◌≡◌, map, drop, option_copied, view, view_place, rows_of, first_op, is_write_as}
use Rattle.tell_reasons.proofs.writes.write_at.Given as goal

abbrev pub invariant-loop-at : goal.invariant-loop-at
invariant-loop-at l = first_op (is_write_as (option_copied l.key) l.wid) (map view (drop l.at l.sessions)) (map (λ s. map view_place s.items) (drop l.at l.log.places.now.sessions.items)) ≡ first_op (is_write_as (option_copied l.key) l.wid) l.log.history.now (rows_of l.log.places.now)
