use Rattle.session_history.proofs.Prelude.{◌+◌, take, ◌∷◌, [], front_more, order_of, found_in}
use Rattle.session_history.proofs.Found.{reads_more}
use Rattle.session_history.proofs.taken.Taking.read_all.Goals as goal

pub loop-op-preserved : goal.loop-op-preserved
loop-op-preserved c =
    let ops = c.args.ops.now in
    let i = c.loop-op.op-index in
    let op = c.op-item.result in
    record {
      taking = c.in_ok-read.ensures.taking;
      order = reads_more (found_in c.args.writes.now) (take i ops) (op ∷ []) (take (i + 1) ops) (order_of c.args.self.now) (order_of c.loop-op.self) (order_of c.read.new.self)
          c.loop-op.invariant.order c.in_ok-read.ensures.order (front_more ops i op c.loop-op-test.true c.op-item.is);
    }
