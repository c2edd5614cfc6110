use Rattle.coalesce.proofs.Prelude.{ℕ, ◌+◌, ◌∙◌, take, subst, arith, map, take_all, Edge, Joins, each_item, IsWith}
use Rattle.list_lemmas.proofs.Lists.{mapped_front}
use Rattle.coalesce.proofs.Sets.{with_next}
use Rattle.coalesce.proofs.known.add_edges_to.Goals as goal

pub add_edge-requires : goal.add_edge-requires
add_edge-requires c =
    let target = c.args.target in
    let edge_from : ℕ → Edge = λ u. (u, target) in
    let joined = each_item (Joins c.args.known.now.nodes) edge_from c.args.sources.now c.requires.joined c.loop-source.source-index c.source-item.result c.loop-source-test.true c.source-item.is in
    let same = c.loop-source.invariant.nodes in
    record { nodes = (omega (arith, joined.from, same), omega (arith, joined.to, same)) }

pub loop-source-preserved : goal.loop-source-preserved
loop-source-preserved c =
    let target = c.args.target in
    let edge_from : ℕ → Edge = λ u. (u, target) in
    let sources = c.args.sources.now in
    let i = c.loop-source.source-index in
    let source = c.source-item.result in
    record {
      edges = with_next c.args.known.now.edges c.loop-source.known.edges c.add_edge.new.self.edges (map edge_from (take i sources)) (map edge_from (take (i + 1) sources)) source target
          c.loop-source.invariant.edges c.add_edge.ensures.edges (mapped_front edge_from sources i source c.loop-source-test.true c.source-item.is);
      nodes = c.add_edge.ensures.nodes ∙ c.loop-source.invariant.nodes;
    }

pub returns-clause-edges : goal.returns-clause-edges
returns-clause-edges c =
    let target = c.args.target in
    let edge_from : ℕ → Edge = λ u. (u, target) in
    subst (λ l. IsWith c.args.known.now.edges (map edge_from l) c.loop-source.known.edges) (take_all c.loop-source.source-index c.args.sources.now c.loop-source-test.false) c.loop-source.invariant.edges
