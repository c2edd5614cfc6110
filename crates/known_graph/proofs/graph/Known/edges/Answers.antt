use Rattle.known_graph.proofs.Prelude.{◌+◌, ap, arith}
use Rattle.known_graph.proofs.Rests.{piece_begun, piece_more, before}
use Rattle.known_graph.proofs.Rows.{all_edges, row_ended, rows_ended, row_first, edge_first, pair_added}
use Rattle.known_graph.proofs.graph.Known.edges.Goals as goal

pub loop-from-init : goal.loop-from-init
loop-from-init c = λ k. rw c.new-edges.ensures.items (all_edges c.args.self.now k (c.nodes-end.result + 1) (ap (λ n. n + 1) c.nodes-end.ensures.count))

pub loop-to-init : goal.loop-to-init
loop-to-init c = λ k.
    let end = c.nodes-end.result + 1 in
    piece_begun (row_first k.test c.args.self.now.nodes c.loop-from.from end (ap (λ n. n + 1) c.nodes-end.ensures.count) c.loop-from-test.true) _ _ (c.loop-from.invariant k)

pub loop-to-preserved : goal.loop-to-preserved
loop-to-preserved c = λ k.
    let end = c.nodes-end.result + 1 in
    let added = c.in_ok-add_known.ensures in
    piece_more (before _ (edge_first k.test c.loop-from.from c.loop-to.to end c.loop-to-test.true)) _ _ _ (c.loop-to.invariant k)
    (pair_added c.args.self.now k c.loop-from.from c.loop-to.to c.node.result c.node-in-loop-to.result c.loop-to.edges.items c.add_known.new.edges.items c.node.ensures.value c.node-in-loop-to.ensures.value (omega (arith, c.loop-from-test.true, c.nodes-end.ensures.count)) (omega (arith, c.loop-to-test.true, c.nodes-end.ensures.count)) added.added added.same)

pub loop-from-preserved : goal.loop-from-preserved
loop-from-preserved c = λ k. row_ended k.test c.loop-from.from c.loop-to.to (c.nodes-end.result + 1) (omega (arith, c.loop-to-test.false)) _ _ _ (c.loop-to.invariant k)

pub returns : goal.returns
returns c = record {
  edges = rows_ended c.nodes-end.ensures.graph.test c.args.self.now.nodes c.loop-from.from (c.nodes-end.result + 1) (omega (arith, c.loop-from-test.false)) _ _ (c.loop-from.invariant c.nodes-end.ensures.graph);
}
