use Rattle.census.proofs.Prelude.{view_txn}
use Rattle.census.proofs.tables.Tables.add.Goals as goal

pub returns : goal.returns
returns c = λ before known.
    let t = view_txn c.args.txn.now in
    let same = c.as_slice-ops.ensures.value in
    record {
      writes = c.in_ok-add.ensures c.in_ok-states.ensures before t same c.is_committed-is_committed.ensures known.writes;
      updates = c.in_ok-add-2.ensures c.in_ok-states.ensures before t same c.is_committed-is_committed.ensures known.updates;
    }
