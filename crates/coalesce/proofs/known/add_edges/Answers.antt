use Rattle.coalesce.proofs.Prelude.{◌≡◌, ◌+◌, ◌++◌, [], ◌∷◌, ◌∙◌, sym, ap, take, arith, take_more, Edge, Joins}
use Rattle.reach_laws.proofs.Walks.{each_contained}
use Rattle.coalesce.proofs.Sets.{with_next}
use Rattle.coalesce.proofs.known.add_edges.Goals as goal

pub add_edge-requires : goal.add_edge-requires
add_edge-requires c =
    let joined = each_contained (Joins c.args.known.now.nodes) c.args.edges.now c.edge-item.result c.requires.joined (c.loop-edge.edge-index, c.loop-edge-test.true, sym c.edge-item.is) in
    let n = c.loop-edge.invariant.nodes in let u = c.source.ensures in let v = c.target.ensures in let f = joined.from in let t = joined.to in
    record { nodes = (omega (arith, n, u, f), omega (arith, n, v, t)) }

pub loop-edge-preserved : goal.loop-edge-preserved
loop-edge-preserved c =
    let edges = c.args.edges.now in
    let i = c.loop-edge.edge-index in
    let edge = c.edge-item.result in
    let same : ◌≡◌ {A = Edge} edge (c.source.result, c.target.result) = λ k. (sym c.source.ensures k, sym c.target.ensures k) in
    record {
      edges = with_next c.args.known.now.edges c.loop-edge.known.edges c.add_edge.new.self.edges (take i edges) (take (i + 1) edges) c.source.result c.target.result
          c.loop-edge.invariant.edges c.add_edge.ensures.edges (take_more edges i edge c.loop-edge-test.true ∙ ap (λ (x : Edge). take i edges ++ x ∷ []) (sym c.edge-item.is ∙ same));
      nodes = c.add_edge.ensures.nodes ∙ c.loop-edge.invariant.nodes;
    }
