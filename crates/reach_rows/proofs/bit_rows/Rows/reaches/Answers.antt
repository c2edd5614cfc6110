use Rattle.reach_rows.proofs.bit_rows.Rows.reaches.Goals as goal

pub returns : goal.returns
returns c =
    let edge = rw (c.get.ensures.value, c.get-2.ensures.value, c.self.view_is) at c.has.ensures.edge in
    record {
      edge = edge;
      reach = λ graph h. (λ t. (h.reach c.args.u c.args.v).0 (edge.0 t), λ r. edge.1 ((h.reach c.args.u c.args.v).1 r));
    }
