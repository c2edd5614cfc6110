use Rattle.known_graph.proofs.Tested.{known_is}
use Rattle.known_graph.proofs.graph.Known.has_edge.Goals as goal

pub returns : goal.returns
returns c =
    let edge = rw (c.get.ensures.value, c.get-2.ensures.value, c.self.view_is) at c.has.ensures.edge in
    record { edge = edge; test = known_is c.has.result c.args.self.now.edges (c.args.u, c.args.v) edge.0 edge.1 }
