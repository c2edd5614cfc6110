use Rattle.order_cnf.proofs.Prelude.{sym, ap, ◌∙◌, known_is, is_listed, rows_known}
use Rattle.order_cnf.proofs.relation.is_known.Goals as goal

pub returns-in-Some : goal.returns-in-Some
returns-in-Some c =
    let edge = rw (c.node.ensures.value, c.node-in-Some.ensures.value) at c.reaches.ensures.edge in
    record {
      value = known_is c.reaches.result c.in-Some.rows.edges (c.args.u, c.args.v) edge.0 edge.1
          ∙ sym (ap (λ o. is_listed (rows_known o) c.args.u c.args.v) c.in-Some.is);
    }
