use Rattle.pruning_laws.proofs.Ledgers.{ledger_forced, ledger_dead}
use Rattle.pruning_laws.proofs.laws.ledgers_keep_forced_sides.Goals as goal

pub returns : goal.returns
returns c = record { forced = ledger_forced; dead = ledger_dead }
