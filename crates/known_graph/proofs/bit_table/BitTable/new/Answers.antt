use Rattle.known_graph.proofs.Edges.{marked_nodes, bit_graph, none_marked, no_edges}
use Rattle.known_graph.proofs.bit_table.BitTable.new.Goals as goal

pub invariant_of-result : goal.invariant_of-result
invariant_of-result c =
    none_marked c.args.nodes c.row_len.result c.in_ok-words.words.items c.requires.few c.row_len.ensures.value (c.in_ok-words.ensures.items_if_clones_equal (λ y e. e))

pub returns-clause-nodes : goal.returns-clause-nodes
returns-clause-nodes c = marked_nodes c.args.nodes c.in_ok-words.words.items

pub returns-clause-edges : goal.returns-clause-edges
returns-clause-edges c = no_edges c.args.nodes _ c.in_ok-words.words.items (c.in_ok-words.ensures.items_if_clones_equal (λ y e. e))

pub returns-clause-graph : goal.returns-clause-graph
returns-clause-graph c = bit_graph c.args.nodes c.in_ok-words.words.items (invariant_of-result c)
