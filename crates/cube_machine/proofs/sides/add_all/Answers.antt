use Rattle.cube_machine.proofs.Prelude.{◌∙◌}
use Rattle.cube_machine.proofs.Edges.{edge_more}
use Rattle.cube_machine.proofs.sides.add_all.Goals as goal

pub loop-edge-preserved : goal.loop-edge-preserved
loop-edge-preserved c = record {
  nodes = c.add_edge.ensures.nodes ∙ c.loop-edge.invariant.nodes;
  edges = edge_more c.args.graph.now.edges c.loop-edge.graph.edges c.add_edge.new.self.edges c.args.edges.now c.loop-edge.edge-index c.edge-item.result c.source.result c.target.result
      c.loop-edge-test.true c.edge-item.is c.source.ensures c.target.ensures c.loop-edge.invariant.edges c.add_edge.ensures.edges;
}
