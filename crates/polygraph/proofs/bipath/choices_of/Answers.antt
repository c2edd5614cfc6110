use Rattle.polygraph.proofs.Prelude.{◌+◌, ap, ◌∙◌, arith, log_of, sources_of, piece_begun, piece_more, before}
use Rattle.polygraph.proofs.Readers.{all_bipaths, first_reader, read_at, first_read}
use Rattle.polygraph.proofs.bipath.choices_of.Goals as goal

pub loop-number-init : goal.loop-number-init
loop-number-init c = rw c.in_ok-choices.ensures.items (all_bipaths (log_of c.args.history.now) (c.committed-end.result + 1) (omega arith))

pub loop-read-init : goal.loop-read-init
loop-read-init c =
    piece_begun (first_reader (log_of c.args.history.now) c.loop-number.number (c.committed-end.result + 1) c.loop-number-test.true) _ _ c.loop-number.invariant

pub writers_of-requires : goal.writers_of-requires
writers_of-requires c =
    (read_at (log_of c.args.history.now) c.node-reader.result (λ r. (r.key, r.source)) c.reads_of-read-items.result.now c.reads_of-read-items.ensures.sources c.loop-read.read-index c.read-item.result c.loop-read-test.true c.read-item.is).key

pub loop-read-preserved : goal.loop-read-preserved
loop-read-preserved c =
    let log = log_of c.args.history.now in
    let added = rw (c.writers_of.ensures.writers, c.node-reader.ensures.value) at c.in_ok-add_rivals.ensures.ok in
    piece_more (before _ (first_read log c.loop-number.number (λ r. (r.key, r.source)) c.reads_of-read-items.result.now (c.reads_of-read-items.ensures.sources ∙ ap (sources_of log) c.node-reader.ensures.value) c.loop-read.read-index c.read-item.result c.loop-read-test.true c.read-item.is))
    _ _ _ c.loop-read.invariant added
