use Rattle.known_graph.proofs.Edges.{same_graph}
use Rattle.known_graph.proofs.laws.same_edges_are_one_graph.Goals as goal

pub returns : goal.returns
returns c = same_graph
