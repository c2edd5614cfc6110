use Rattle.census.proofs.Prelude.{List, map, take, sym, subst, mapped_front, Transaction, view_ref, KnowsLog}
use Rattle.census.proofs.tables.Tables.of.Goals as goal

pub loop-txn-preserved : goal.loop-txn-preserved
loop-txn-preserved c =
    let i = c.loop-txn.txn-index in
    let txns = c.args.txns.now in
    subst (λ (ts : List Transaction). KnowsLog ts c.add.new.self) (sym (mapped_front view_ref txns i c.txn-item.result c.loop-txn-test.true c.txn-item.is))
    (c.in_ok-add.ensures (map view_ref (take i txns)) c.loop-txn.invariant)
