use Rattle.write_chains.proofs.Prelude.{subst, AllByRecursion, take_all, log_of, IsOpen}
use Rattle.write_chains.proofs.Nexts.{writer_at}
use Rattle.write_chains.proofs.Backwards.{none_closes}
use Rattle.write_chains.proofs.closed.closed_chain_of.Goals as goal

pub walk_back-requires-clause-writer : goal.walk_back-requires-clause-writer
walk_back-requires-clause-writer c =
    let k = writer_at (log_of c.args.history.now) c.args.key c.writers_of-writer-items.result.now c.loop-writer.writer-index c.writer-item.result c.writers_of-writer-items.ensures.writers c.loop-writer-test.true c.writer-item.is in
    (k.low, k.high, k.writer)

pub returns : goal.returns
returns c =
    let log = log_of c.args.history.now in
    let writers = c.writers_of-writer-items.result.now in
    record {
      closed = none_closes log c.args.key writers c.writers_of-writer-items.ensures.writers
          (subst (AllByRecursion (IsOpen log c.args.key)) (take_all c.loop-writer.writer-index writers c.loop-writer-test.false) c.loop-writer.invariant.writers);
    }
