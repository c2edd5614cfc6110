use Rattle.order_cnf.proofs.Prelude.{subst, IsPolygraph}
use Rattle.known_graph.specs.Graphs.{IsKnownGraph}
use Rattle.order_cnf.proofs.Rests.{proper_rest}
use Rattle.order_cnf.proofs.reduced.left_is_proper.Goals as goal

pub returns-clause-rest : goal.returns-clause-rest
returns-clause-rest c =
    let same = c.poly.ensures.poly in
    record {
      graph = subst (λ q. IsKnownGraph (record { nodes = q.nodes; edges = q.known })) same c.nodes-invariant.ensures.known;
      polygraph = subst IsPolygraph same c.nodes-invariant.ensures.polygraph;
      reduced = c.poly.ensures.reduced;
      rows = c.rows-invariant.ensures.reach;
    }

pub returns-clause-proper : goal.returns-clause-proper
returns-clause-proper c = proper_rest c.args.reduced.now (returns-clause-rest c)
