use Rattle.ledger_checks.proofs.KeptBits.{edge_more}
use Rattle.ledger_checks.proofs.kept.KeptEdges.add_all.Goals as goal

pub loop-edge-preserved : goal.loop-edge-preserved
loop-edge-preserved c =
    edge_more c.args.self.now c.loop-edge.self (record { words = c.set_bit.new.words }) c.args.edges.now c.loop-edge.edge-index c.edge-item.result c.source.result c.target.result c.edge_place.result
    c.loop-edge-test.true c.edge-item.is c.source.ensures c.target.ensures c.edge_place.ensures.place c.edge_place.ensures.nodes.1 c.loop-edge.invariant c.set_bit.ensures.bits
