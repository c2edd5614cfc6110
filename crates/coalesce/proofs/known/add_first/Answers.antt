use Rattle.coalesce.proofs.Prelude.{◌+◌, ◌∙◌, take, sym, subst, map, flat_map, AllByRecursion, chain_view, Joins, each_item, before}
use Rattle.coalesce.proofs.Steps.{flat_more}
use Rattle.coalesce.proofs.Sets.{with_piece}
use Rattle.coalesce.proofs.known.add_first.Goals as goal

pub add_edges_before-requires : goal.add_edges_before-requires
add_edges_before-requires c =
    let first = before (chain_view c.args.first.now) in
    let here = each_item (λ v. AllByRecursion (Joins c.args.known.now.nodes) (first v)) chain_view c.args.others.now c.requires.joined c.loop-other.other-index c.other-item.result c.loop-other-test.true c.other-item.is in
    record { joined = subst (λ n. AllByRecursion (Joins n) (first (chain_view c.other-item.result))) (sym c.loop-other.invariant.nodes) here }

pub loop-other-preserved : goal.loop-other-preserved
loop-other-preserved c =
    let first = before (chain_view c.args.first.now) in
    let others = c.args.others.now in
    let i = c.loop-other.other-index in
    let other = c.other-item.result in
    record {
      edges = with_piece c.args.known.now.edges c.loop-other.known.edges c.add_edges_before.new.known.edges
          (flat_map first (map chain_view (take i others))) (first (chain_view other)) (flat_map first (map chain_view (take (i + 1) others)))
          c.loop-other.invariant.edges c.add_edges_before.ensures.edges (flat_more chain_view first others i other c.loop-other-test.true c.other-item.is);
      nodes = c.add_edges_before.ensures.nodes ∙ c.loop-other.invariant.nodes;
    }
