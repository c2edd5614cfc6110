use Rattle.session_history.proofs.Prelude.{◌<◌, length, refl, arith, slice_get_read, event_key}
use Rattle.session_history.proofs.KeyRows.{rows_entered_at}
use Rattle.session_history.proofs.rows.enter.Goals as goal

pub returns-clause-entered : goal.returns-clause-entered
returns-clause-entered c = λ keys f front below h.
    let rows = c.args.rows.now.items in
    let old = c.index_mut-row.result.now in
    let k = c.key.result in
    let within : k < length rows = omega (arith, c.key.ensures, c.requires) in
    rows_entered_at keys c.args.node f rows old c.enter.new.self k c.args.event front c.key.ensures within
    (slice_get_read rows (length rows) k old refl within c.index_mut-row.ensures.value)
    (λ lt. c.in_ok-enter.ensures (f (event_key c.args.event)) front (below (event_key c.args.event) lt)) h
