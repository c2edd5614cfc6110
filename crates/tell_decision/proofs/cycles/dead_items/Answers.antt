use Rattle.tell_decision.proofs.Known.{dead_ledger}
use Rattle.tell_decision.proofs.cycles.dead_items.Goals as goal

pub tell_dead-requires-clause-ledger : goal.tell_dead-requires-clause-ledger
tell_dead-requires-clause-ledger c = dead_ledger c.args.history.now c.args.ledger.now c.requires.dead
