use Rattle.session_history.proofs.Prelude.{◌+◌, ◌∷◌, [], cond, map, take, ◌∙◌, ap, flat_map-append, Transaction, view_txn, has_ended, ops_ended, with_reads, order_of, found_in}
use Rattle.session_history.proofs.Stepping.{step, stepped}
use Rattle.session_history.proofs.Found.{reads_more}
use Rattle.session_history.proofs.taken.Taking.read_session.Goals as goal

pub loop-txn-preserved : goal.loop-txn-preserved
loop-txn-preserved c =
    let o = c.args.outcome in
    let items = c.args.session.now.txns.items in
    let i = c.loop-txn.txn-index in
    let t = view_txn c.txn-item.result in
    let front = map view_txn (take i items) in
    record {
      taking = c.in_ok-read_txn.ensures.taking;
      order = reads_more (found_in c.args.writes.now) (ops_ended o front) (ops_ended o (t ∷ [])) (ops_ended o (map view_txn (take (i + 1) items)))
          (order_of c.args.self.now) (order_of c.loop-txn.self) (order_of c.read_txn.new.self) c.loop-txn.invariant.order c.in_ok-read_txn.ensures.order
          (ap (ops_ended o) (step view_txn items c.deref-txn-items.result.now i c.txn-item.result c.deref-txn-items.ensures.value c.loop-txn-test.true c.txn-item.is)
          ∙ flat_map-append (λ (u : Transaction). cond (has_ended o u) u.ops []) front (t ∷ []));
    }

pub returns-clause-order : goal.returns-clause-order
returns-clause-order c =
    c.loop-txn.invariant.order
    ∙ ap (λ ts. with_reads (found_in c.args.writes.now) (ops_ended c.args.outcome (map view_txn ts)) (order_of c.args.self.now))
    (stepped c.args.session.now.txns.items c.deref-txn-items.result.now c.loop-txn.txn-index c.deref-txn-items.ensures.value c.loop-txn-test.false)
