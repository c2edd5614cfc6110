use Rattle.order_cnf.proofs.Prelude.{arith, rows_known}
use Rattle.order_cnf.proofs.Counts.{few_pairs}
use Rattle.order_cnf.proofs.relation.Relation.variables.Goals as goal

pub returns-clause-few : goal.returns-clause-few
returns-clause-few c =
    omega (arith, few_pairs (record { nodes = c.self.inside.nodes; known = rows_known c.self.inside.rows }) c.self.invariant.0.few, c.self.invariant.1)
