use Rattle.known_graph.proofs.Prelude.{sym, ap, ◌∙◌, subst, IsBitGraph}
use Rattle.known_graph.proofs.Edges.{marked_nodes, bit_graph}
use Rattle.known_graph.proofs.bit_table.BitTable.nodes.Goals as goal

pub returns-clause-count : goal.returns-clause-count
returns-clause-count c = sym (marked_nodes c.self.inside.nodes c.self.inside.words.items) ∙ ap (λ g. g.nodes) c.self.view_is

pub returns-clause-graph : goal.returns-clause-graph
returns-clause-graph c = subst IsBitGraph c.self.view_is (bit_graph c.self.inside.nodes c.self.inside.words.items c.self.invariant)
