use Rattle.std.proofs.Common.{◌≡◌, map}
use Rattle.session_log.specs.Text.{view_txn}
use Rattle.log_definitions.specs.Unknown.{settle}
use Rattle.known_outcomes.proofs.Changed.{changed}
use Rattle.known_outcomes.proofs.settling.settle_txns.Given as goal

abbrev pub invariant-loop-txn : goal.invariant-loop-txn
invariant-loop-txn l = map view_txn l.txns ≡ changed (settle l.is_taken) l.txn-index (map view_txn l.initial.txns)
