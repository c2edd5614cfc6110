use Rattle.known_graph.proofs.Prelude.{nat_lt, take, sym, refl, ◌∙◌, rules, arith, take_all, IsPartitionPoint-from_clause, IsPartitionedBy-ltb}
use Rattle.known_graph.proofs.EndedNodes.{no_ends, none_of, none_added, apart_where, same_where, end_within, end_added, no_end_added, ends_added}
use Rattle.known_graph.proofs.moments.add_moment_arcs.Goals as goal
use Rattle.known_graph.proofs.moments.add_moment_arcs.Goals.{then-ne, else-ne}

pub returns-in_default-clause-edges : goal.returns-in_default-clause-edges
returns-in_default-clause-edges c = none_added c.args.history.now c.args.v c.args.known.now.edges (sym c.begun_of.ensures.moment ∙ none_of c.begun_of.result c.in_default.not-Some)

pub loop-entry-init : goal.loop-entry-init
loop-entry-init c = record { nodes = refl; graph = c.requires.graph; edges = no_ends c.args.v c.args.known.now.edges }

pub add_edge-requires : goal.add_edge-requires
add_edge-requires c =
    let within = end_within c.args.history.now c.args.ended.now c.partition_point-count.result c.loop-entry.entry-index c.entry-item.result c.requires.ended c.partition_point-count.ensures.bound c.loop-entry-test.true c.entry-item.is in
    record { nodes = (omega (arith, within, c.loop-entry.invariant.nodes, c.requires.nodes), omega (arith, c.loop-entry.invariant.nodes, c.requires.node.1)) }

pub loop-entry-preserved : goal.loop-entry-preserved
loop-entry-preserved c =
    let entry = c.entry-item.result in
    let items = take c.partition_point-count.result c.args.ended.now in
    elim c.if-ne.branch [
      | then-ne w ↦ record {
        nodes = rw w.known-is (w.add_edge.ensures.nodes ∙ c.loop-entry.invariant.nodes);
        graph = rw w.known-is w.add_edge.ensures.graph;
        edges = rw w.known-is (end_added c.args.v items c.loop-entry.entry-index entry c.args.known.now.edges c.loop-entry.known.edges w.add_edge.new.self.edges c.loop-entry-test.true c.entry-item.is (apart_where entry.node c.args.v (sym c.ne.ensures ∙ w.if-ne.true)) w.add_edge.ensures.edges c.loop-entry.invariant.edges);
      }
      | else-ne w ↦ record {
        nodes = rw w.known-is c.loop-entry.invariant.nodes;
        graph = rw w.known-is c.loop-entry.invariant.graph;
        edges = rw w.known-is (no_end_added c.args.v items c.loop-entry.entry-index entry c.args.known.now.edges c.loop-entry.known.edges c.loop-entry-test.true c.entry-item.is (same_where entry.node c.args.v (sym c.ne.ensures ∙ w.if-ne.false)) c.loop-entry.invariant.edges);
      }
    ]

pub returns-clause-edges : goal.returns-clause-edges
returns-clause-edges c =
    let items = take c.partition_point-count.result c.args.ended.now in
    let parted = IsPartitionedBy-ltb (λ e. e.moment) _ c.in-Some.begun c.requires.ended.sorted in
    let split = IsPartitionPoint-from_clause (λ e. nat_lt e.moment c.in-Some.begun) _ _ c.partition_point-count.ensures.partitioned parted (λ a r q k. search rules) in
    let all = take_all c.loop-entry.entry-index items c.loop-entry-test.false in
    ends_added c.args.history.now c.args.ended.now c.args.v c.in-Some.begun c.partition_point-count.result c.args.known.now.edges c.loop-entry.known.edges c.requires.ended (sym c.begun_of.ensures.moment ∙ c.in-Some.is) c.partition_point-count.ensures.bound split
    (rw all at c.loop-entry.invariant.edges)

pub returns-clause-nodes : goal.returns-clause-nodes
returns-clause-nodes c = c.loop-entry.invariant.nodes

pub returns-clause-graph : goal.returns-clause-graph
returns-clause-graph c = c.loop-entry.invariant.graph
