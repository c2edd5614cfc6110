use Rattle.judging.proofs.Prelude.{map, ◌∙◌, view_txn, without, none_changed, one_changed, all_changed}
use Rattle.judging.proofs.moments.leave_out_of_txns.Goals as goal

pub loop-txn-init : goal.loop-txn-init
loop-txn-init c = none_changed without (map view_txn c.args.txns.now)

pub loop-txn-preserved : goal.loop-txn-preserved
loop-txn-preserved c =
    one_changed view_txn without c.loop-txn.txn-index c.loop-txn.txns c.args.txns.now c.txn-item.result c.leave_out.new.txn c.loop-txn-test.true c.leave_out.ensures c.loop-txn.invariant

pub returns : goal.returns
returns c = c.loop-txn.invariant ∙ all_changed view_txn without c.loop-txn.txn-index c.args.txns.now c.loop-txn-test.false
