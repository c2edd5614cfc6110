use Rattle.splitting.proofs.Prelude.{take, map, view_txn, Finds, ops_by}
use Rattle.splitting.proofs.survey.Survey.add_txns.Given as goal

abbrev pub invariant-loop-txn : goal.invariant-loop-txn
invariant-loop-txn l = Finds l.fn.self (ops_by (map view_txn (take l.txn-index l.txns))) l.self
