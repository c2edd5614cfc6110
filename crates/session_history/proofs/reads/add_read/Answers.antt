use Rattle.session_history.proofs.Prelude.{◌<◌, ◌-◌, length, refl, arith, slice_get_read}
use Rattle.session_history.proofs.Reading.{read_added}
use Rattle.session_history.proofs.reads.add_read.Goals as goal

pub returns-clause-added : goal.returns-clause-added
returns-clause-added c = λ n g h.
    let reads = c.args.reads.now.items in
    let old = c.index_mut-own.result.now in
    let k = c.get.result - 1 in
    let within : k < length reads = omega (arith, c.get.ensures.value, c.requires.low, c.requires.high) in
    read_added n g reads old c.push.new.self c.args.node k c.args.read (omega (arith, c.get.ensures.value, c.requires.low)) within
    (slice_get_read reads (length reads) k old refl within c.index_mut-own.ensures.value) c.in_ok-push.ensures.items h
