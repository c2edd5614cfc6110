use Rattle.deciding.proofs.Deciding.{serial_decided, spent_decided, refuted_decided}
use Rattle.deciding.proofs.decided.decide_open.Goals as goal

pub returns-in-Yes : goal.returns-in-Yes
returns-in-Yes g c = record {
  decides = serial_decided c.args.means.now.budget c.args.history.now c.args.reduced c.in-Yes.order c.requires.left (rw c.in-Yes.is at c.in_ok-order.ensures.ran) (rw c.in-Yes.is at c.in_ok-order.ensures.yes);
}

pub returns-in-No : goal.returns-in-No
returns-in-No g c = record {
  decides = refuted_decided c.args.means.now.budget c.args.history.now c.args.reduced c.in-No.tree c.decide_by_tree.result c.decide_by_tree.ensures.decision c.requires.well_formed c.requires.left
      (rw c.in-No.is at c.in_ok-order.ensures.ran) (rw c.in-No.is at c.in_ok-order.ensures.tree) (rw c.in-No.is at c.in_ok-order.ensures.no);
}

pub returns-in-Unknown : goal.returns-in-Unknown
returns-in-Unknown g c = record {
  decides = spent_decided c.args.means.now.budget c.args.history.now c.args.reduced c.in-Unknown.closed c.requires.left (rw c.in-Unknown.is at c.in_ok-order.ensures.ran) (rw c.in-Unknown.is at c.in_ok-order.ensures.unknown);
}
