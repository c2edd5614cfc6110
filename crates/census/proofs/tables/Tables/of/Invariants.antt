use Rattle.census.proofs.Prelude.{map, take, view_ref, KnowsLog}
use Rattle.census.proofs.tables.Tables.of.Given as goal

abbrev pub invariant-loop-txn : goal.invariant-loop-txn
invariant-loop-txn l = KnowsLog (map view_ref (take l.txn-index l.txns)) l.tables
