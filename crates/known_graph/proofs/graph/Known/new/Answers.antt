use Rattle.known_graph.proofs.Prelude.{arith}
use Rattle.known_graph.proofs.Edges.{begun_none, begun_more, begun_known, begun_edges}
use Rattle.known_graph.proofs.graph.Known.new.Goals as goal

pub loop-v-init : goal.loop-v-init
loop-v-init c = begun_none c.args.nodes c.in_ok-table.table c.in_ok-table.ensures.nodes c.in_ok-table.ensures.graph c.in_ok-table.ensures.edges

pub set-requires : goal.set-requires
set-requires c = record { nodes = (omega arith, omega (arith, c.loop-v.invariant.nodes, c.loop-v-test.true)) }

pub loop-v-preserved : goal.loop-v-preserved
loop-v-preserved c = begun_more c.args.nodes c.loop-v.v c.loop-v.table c.set.new.self (omega arith) c.loop-v.invariant c.set.ensures.nodes c.set.ensures.graph c.set.ensures.edges

pub invariant_of-result : goal.invariant_of-result
invariant_of-result c = begun_known c.args.nodes c.loop-v.v c.loop-v.table (omega arith) c.loop-v.invariant

pub returns-clause-edges : goal.returns-clause-edges
returns-clause-edges c = begun_edges c.args.nodes c.loop-v.v c.loop-v.table (omega arith) c.loop-v.invariant

pub returns-clause-graph : goal.returns-clause-graph
returns-clause-graph c = invariant_of-result c
