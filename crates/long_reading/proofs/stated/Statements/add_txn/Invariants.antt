use Rattle.long_reading.proofs.Prelude.{take, [], ◌∷◌, flat_map, op_line, Takes}
use Rattle.long_reading.proofs.stated.Statements.add_txn.Given as goal

abbrev pub invariant-loop-op : goal.invariant-loop-op
invariant-loop-op l = Takes l.initial.self l.self (flat_map (λ op. op_line op ∷ []) (take l.op-index l.txn.ops.items))
