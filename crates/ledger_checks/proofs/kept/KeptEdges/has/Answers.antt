use Rattle.ledger_checks.proofs.Prelude.{◌∙◌}
use Rattle.ledger_checks.proofs.KeptBits.{edge_bit}
use Rattle.ledger_checks.proofs.kept.KeptEdges.has.Goals as goal

pub returns : goal.returns
returns c edges h =
    let n = c.edge_place.ensures.nodes in
    c.has_bit.ensures.value ∙ edge_bit c.args.self.now edges c.args.u c.args.v c.edge_place.result c.edge_place.ensures.place n.0 n.1 h
