use Rattle.reach_rows.proofs.Prelude.{refl}
use Rattle.reach_rows.proofs.Growing.{rows_grown, rows_kept}
use Rattle.reach_rows.proofs.bit_rows.Rows.add_edge.Goals as goal

pub returns-then-not-reaches-clause-rows : goal.returns-then-not-reaches-clause-rows
returns-then-not-reaches-clause-rows c = λ old new h more.
    (let grown = rw (c.get.ensures.value, c.get-then-not-reaches.ensures.value, c.self.view_is) at c.add_reach.ensures.grown in
    let nodes = rw c.self.view_is at c.add_reach.ensures.nodes in
    rows_grown c.args.self.now c.add_reach.new.table c.args.u c.args.v old new grown nodes c.add_reach.ensures.graph h more)

pub returns-else-not-reaches-clause-rows : goal.returns-else-not-reaches-clause-rows
returns-else-not-reaches-clause-rows c = λ old new h more. rows_kept c.args.self.now old new c.args.u c.args.v ((c.if-not-reaches.ensures.reach old h).0 refl) h more
