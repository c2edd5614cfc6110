use Rattle.known_graph.proofs.Prelude.{take, ap, ◌∙◌, arith, take_all, log_of, reads_from}
use Rattle.known_graph.proofs.ReadSources.{read_within, reads_from_any}
use Rattle.known_graph.proofs.ArcSets.{is_source, source_added, source_all}
use Rattle.known_graph.proofs.arcs.add_read_arcs.Goals as goal

pub add_edge-requires : goal.add_edge-requires
add_edge-requires c =
    let log = log_of c.args.history.now in
    let same = c.loop-read.invariant.nodes in
    let within = read_within log c.requires.clean c.args.v c.requires.node.0 (omega (arith, c.requires.node.1, c.requires.nodes)) (λ r. (r.key, r.source)) c.reads_of-read-items.result.now c.reads_of-read-items.ensures.sources c.loop-read.read-index c.read-item.result c.loop-read-test.true c.read-item.is in
    record { nodes = (omega (arith, within, same, c.requires.nodes), omega (arith, same, c.requires.node.1)) }

pub loop-read-preserved : goal.loop-read-preserved
loop-read-preserved c = record {
  nodes = c.add_edge.ensures.nodes ∙ c.loop-read.invariant.nodes;
  graph = c.add_edge.ensures.graph;
  edges = source_added (λ r. r.source) c.reads_of-read-items.result.now c.loop-read.read-index c.read-item.result c.args.v c.args.known.now.edges c.loop-read.known.edges c.add_edge.new.self.edges
      c.loop-read-test.true c.read-item.is c.add_edge.ensures.edges c.loop-read.invariant.edges;
}

pub returns-clause-edges : goal.returns-clause-edges
returns-clause-edges c =
    let log = log_of c.args.history.now in
    let reads = c.reads_of-read-items.result.now in
    source_all c.args.v c.args.known.now.edges c.loop-read.known.edges (is_source (λ r. r.source) (take c.loop-read.read-index reads)) (reads_from log c.args.v)
    (λ u. ap (λ rs. is_source (λ r. r.source) rs u) (take_all c.loop-read.read-index reads c.loop-read-test.false) ∙ reads_from_any log c.args.v u (λ r. (r.key, r.source)) reads c.reads_of-read-items.ensures.sources)
    c.loop-read.invariant.edges
