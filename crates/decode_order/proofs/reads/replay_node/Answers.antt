use Rattle.decode_order.proofs.Prelude.{◌∙◌, sym}
use Rattle.decode_order.proofs.Mismatch.{replayed_more}
use Rattle.decode_order.proofs.reads.replay_node.Goals as goal

pub loop-index-preserved : goal.loop-index-preserved
loop-index-preserved c =
    replayed_more _ _ _ _ _ _ c.loop-index-test.true c.replay_op.auto.store (sym c.replay_op.ensures.met ∙ c.if-not-replay_op.false) c.replay_op.ensures.after c.loop-index.invariant
