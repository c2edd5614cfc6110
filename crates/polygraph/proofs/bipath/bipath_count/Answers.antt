use Rattle.polygraph.proofs.Prelude.{◌+◌, length, ap, ◌∙◌, arith, log_of, sources_of, split_length}
use Rattle.polygraph.proofs.Readers.{all_bipaths, first_reader, read_at, first_read, rival_number}
use Rattle.polygraph.proofs.bipath.bipath_count.Goals as goal

pub loop-number-init : goal.loop-number-init
loop-number-init c =
    let all = all_bipaths (log_of c.args.history.now) (c.committed-end.result + 1) (omega arith) in
    record { few = omega arith; rest = omega (arith, ap length all) }

pub loop-read-init : goal.loop-read-init
loop-read-init c =
    let split = split_length (first_reader (log_of c.args.history.now) c.loop-number.number (c.committed-end.result + 1) c.loop-number-test.true) in
    record { few = c.loop-number.invariant.few; rest = omega (arith, split) }

pub writers_of-requires : goal.writers_of-requires
writers_of-requires c =
    (read_at (log_of c.args.history.now) c.node-reader.result (λ r. (r.key, r.source)) c.reads_of-read-items.result.now c.reads_of-read-items.ensures.sources c.loop-read.read-index c.read-item.result c.loop-read-test.true c.read-item.is).key

pub returns-then-count-gt-MAX_CHOICES-clause-fault : goal.returns-then-count-gt-MAX_CHOICES-clause-fault
returns-then-count-gt-MAX_CHOICES-clause-fault c =
    let log = log_of c.args.history.now in
    let n = c.loop-number.number in
    let split = split_length (first_read log n (λ r. (r.key, r.source)) c.reads_of-read-items.result.now (c.reads_of-read-items.ensures.sources ∙ ap (sources_of log) c.node-reader.ensures.value) c.loop-read.read-index c.read-item.result c.loop-read-test.true c.read-item.is) in
    let counted = rw (c.writers_of.ensures.writers, c.node-reader.ensures.value) at c.rival_count-count.ensures.count in
    let number = rival_number log n (c.read-item.result.key, c.read-item.result.source) in
    omega (arith, split, counted, number)

pub loop-read-preserved : goal.loop-read-preserved
loop-read-preserved c =
    let log = log_of c.args.history.now in
    let n = c.loop-number.number in
    let split = split_length (first_read log n (λ r. (r.key, r.source)) c.reads_of-read-items.result.now (c.reads_of-read-items.ensures.sources ∙ ap (sources_of log) c.node-reader.ensures.value) c.loop-read.read-index c.read-item.result c.loop-read-test.true c.read-item.is) in
    let counted = rw (c.writers_of.ensures.writers, c.node-reader.ensures.value) at c.rival_count-count.ensures.count in
    let number = rival_number log n (c.read-item.result.key, c.read-item.result.source) in
    record { few = omega arith; rest = omega (arith, split, counted, number) }
