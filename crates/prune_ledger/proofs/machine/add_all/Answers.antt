use Rattle.prune_ledger.proofs.Prelude.{sym, arith, take_all, each_contained, Joins}
use Rattle.prune_ledger.proofs.Edges.{added_step, added_all}
use Rattle.prune_ledger.proofs.machine.add_all.Goals as goal

pub add_edge-requires : goal.add_edge-requires
add_edge-requires c =
    let j = each_contained (Joins c.args.graph.now.nodes) c.args.side.now c.edge-item.result c.requires (c.loop-edge.edge-index, c.loop-edge-test.true, sym c.edge-item.is) in
    let n = c.loop-edge.invariant.nodes in let u = c.source.ensures in let v = c.target.ensures in let f = j.from in let t = j.to in
    record { nodes = (omega (arith, n, u, f), omega (arith, n, v, t)) }

pub loop-edge-preserved : goal.loop-edge-preserved
loop-edge-preserved c =
    added_step c.args.graph.now c.loop-edge.graph c.add_edge.new.self c.args.side.now c.loop-edge.edge-index c.edge-item.result c.source.result c.target.result
    c.loop-edge-test.true c.edge-item.is c.source.ensures c.target.ensures c.loop-edge.invariant c.add_edge.ensures.nodes c.add_edge.ensures.edges

pub returns : goal.returns
returns c = added_all c.args.graph.now c.loop-edge.graph c.args.side.now c.nodes-invariant.ensures.graph (let t = c.loop-edge-test.false in let a = c.loop-edge.auto.edge-index-end in rw (take_all) at c.loop-edge.invariant)
