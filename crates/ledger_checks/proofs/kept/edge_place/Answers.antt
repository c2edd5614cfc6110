use Rattle.ledger_checks.proofs.KeptBits.{place_is}
use Rattle.ledger_checks.proofs.kept.edge_place.Goals as goal

pub returns-clause-place : goal.returns-clause-place
returns-clause-place c = place_is c.get.result c.get-2.result c.args.u c.args.v c.get.ensures.value c.get-2.ensures.value
