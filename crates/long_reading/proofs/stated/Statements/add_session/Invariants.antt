use Rattle.long_reading.proofs.Prelude.{take, flat_map, view_txn, txn_lines, Takes}
use Rattle.long_reading.proofs.stated.Statements.add_session.Given as goal

abbrev pub invariant-loop-txn : goal.invariant-loop-txn
invariant-loop-txn l = Takes l.initial.self l.self (flat_map (λ txn. txn_lines (view_txn txn)) (take l.txn-index l.session.txns.items))
