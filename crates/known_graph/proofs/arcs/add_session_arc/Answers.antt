use Rattle.known_graph.proofs.Prelude.{◌≡◌, ◌+◌, sym, ◌∙◌, arith, log_of}
use Rattle.known_graph.proofs.ArcSets.{session_added}
use Rattle.known_graph.proofs.arcs.add_session_arc.Goals as goal

pub returns-then-session_of-clause-edges : goal.returns-then-session_of-clause-edges
returns-then-session_of-clause-edges c =
    let log = log_of c.args.history.now in
    let next : c.node-before.result + 1 ≡ c.args.v = omega (arith, c.node-before.ensures.value, c.get.ensures.value, c.requires.node.0) in
    let same : log.session c.node-before.result ≡ log.session c.args.v = sym c.session_of.ensures.session ∙ c.if-session_of.true ∙ c.session_of-2.ensures.session in
    session_added c.args.known.now.edges c.add_edge.new.self.edges log.session c.node-before.result c.args.v next same c.add_edge.ensures.edges
