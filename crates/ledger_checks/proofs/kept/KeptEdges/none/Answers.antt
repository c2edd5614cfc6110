use Rattle.ledger_checks.proofs.KeptBits.{no_edges}
use Rattle.ledger_checks.proofs.kept.KeptEdges.none.Goals as goal

pub returns : goal.returns
returns c = no_edges 16016
