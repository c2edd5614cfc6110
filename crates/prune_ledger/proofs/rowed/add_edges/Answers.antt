use Rattle.prune_ledger.proofs.Prelude.{sym, ◌∙◌, take_all}
use Rattle.prune_ledger.proofs.Edges.{added_step}
use Rattle.prune_ledger.proofs.KeptUp.{adds_from_added, added_rows}
use Rattle.prune_ledger.proofs.rowed.add_edges.Goals as goal

pub loop-edge-preserved : goal.loop-edge-preserved
loop-edge-preserved c = record {
  edges = added_step c.args.graph.now c.loop-edge.graph c.add_edge.new.self c.args.edges.now c.loop-edge.edge-index c.edge-item.result c.source.result c.target.result
      c.loop-edge-test.true c.edge-item.is c.source.ensures c.target.ensures c.loop-edge.invariant.edges c.add_edge.ensures.nodes c.add_edge.ensures.edges;
  rows = added_rows c.loop-edge.rows c.add_edge-in-loop-edge.new.self c.loop-edge.graph c.add_edge.new.self c.source.result c.target.result c.source-in-loop-edge.result c.target-in-loop-edge.result
      c.loop-edge.invariant.rows (c.source.ensures ∙ sym c.source-in-loop-edge.ensures) (c.target.ensures ∙ sym c.target-in-loop-edge.ensures) c.add_edge-in-loop-edge.ensures.rows c.add_edge.ensures.nodes c.add_edge.ensures.edges;
}

pub returns-clause-edges : goal.returns-clause-edges
returns-clause-edges c = adds_from_added c.args.graph.now c.loop-edge.graph _ c.args.edges.now c.loop-edge.invariant.edges (take_all c.loop-edge.edge-index c.args.edges.now c.loop-edge-test.false)
