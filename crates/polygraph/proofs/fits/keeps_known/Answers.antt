use Rattle.polygraph.proofs.Prelude.{arith, below_more, rules}
use Rattle.polygraph.proofs.Kept.{edge_absent, edge_later}
use Rattle.polygraph.proofs.fits.keeps_known.Goals as goal
use Rattle.polygraph.proofs.fits.keeps_known.Goals.{else-has_edge-via-then-has_edge+else-not-before, else-has_edge-via-else-has_edge}

pub loop-v-preserved : goal.loop-v-preserved
loop-v-preserved c =
    let u = c.loop-u.u in
    let v = c.loop-v.v in
    let a = c.node-u.result in
    let b = c.node-v.result in
    let edges = c.args.known.now.edges in
    let places = c.args.places.now.places in
    record {
      rows = c.loop-v.invariant.rows;
      row = below_more _ _ c.loop-v.invariant.row (λ h. elim c.else-has_edge.branch [
        | else-has_edge-via-then-has_edge+else-not-before w ↦
            edge_later places u v a b w.before-then-has_edge.result c.node-u.ensures.value c.node-v.ensures.value w.before-then-has_edge.ensures w.if-not-before.false
        | else-has_edge-via-else-has_edge w ↦
            absurd (edge_absent edges u v a b c.has_edge.result c.node-u.ensures.value c.node-v.ensures.value w.if-has_edge.false c.has_edge.ensures.edge.1 h)
      ]);
    }

pub returns : goal.returns
returns c = (
  λ t. record {
    each = λ a b h.
        (let within = c.nodes-end.ensures.graph.joined (a, b) h in
        c.loop-u.invariant.rows a b (omega (arith, within.0, c.nodes-end.ensures.count, c.loop-u-test.false)) (omega (arith, within.1, c.nodes-end.ensures.count)) h);
  },
  λ k. search rules,
)
