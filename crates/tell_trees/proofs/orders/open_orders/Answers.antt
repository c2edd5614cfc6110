use Rattle.tell_trees.proofs.Prelude.{◌∙◌, ap, IfOk-weaker, Ledger, unsettled_from}
use Rattle.tell_trees.proofs.Cubes.{left_open}
use Rattle.tell_trees.proofs.orders.open_orders.Goals as goal

pub returns : goal.returns
returns c =
    let ledger = c.deref-2.ensures.value ∙ ap (λ (l : Ledger). l.entries.items) c.ledger.ensures in
    record {
      orders = IfOk-weaker c.unsettled.result _ _ (λ left is. left_open c.args.chains.now c.args.reduced.now c.requires.left c.deref-2.result.now ledger c.in_ok-orders.orders.items left.items c.in_ok-orders.ensures.choices c.in_ok-orders.ensures.orders
          (is ∙ ap (unsettled_from c.deref-2.result.now 0) c.deref.ensures.value)) c.unsettled.ensures.orders;
    }
