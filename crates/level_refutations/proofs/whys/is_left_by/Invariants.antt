use Rattle.level_refutations.proofs.Prelude.{◌≡◌, map, drop, list_any, enumerate_from, view_txn, is_left_at}
use Rattle.level_refutations.proofs.whys.is_left_by.Given as goal

abbrev pub invariant-loop-txn : goal.invariant-loop-txn
invariant-loop-txn l = list_any (is_left_at l.own l.key l.wid l.session) (enumerate_from l.txn (map view_txn (drop l.txn l.txns))) ≡ list_any (is_left_at l.own l.key l.wid l.session) (enumerate_from 0 (map view_txn l.txns))
