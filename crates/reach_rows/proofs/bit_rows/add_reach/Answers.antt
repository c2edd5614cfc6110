use Rattle.reach_rows.proofs.Prelude.{◌≡◌, ◌⊎◌, ◌+◌, inl, inr, subst, sym, ◌∙◌, arith, Contains, false≢true}
use Rattle.reach_rows.proofs.Growing.{IsGrownTo, grown_none, grown_past, grown_here, grown_all, row_grown}
use Rattle.reach_rows.proofs.bit_rows.add_reach.Goals as goal
use Rattle.reach_rows.proofs.bit_rows.add_reach.Goals.{then-x-u, then-x-u-via-then-x-u, then-x-u-via-else-x-u+then-has, else-x-u+else-has}

pub loop-x-init : goal.loop-x-init
loop-x-init c = grown_none c.args.table.now c.args.u c.args.v c.nodes-x-end.ensures.graph

pub loop-x-preserved : goal.loop-x-preserved
loop-x-preserved c =
    let old = c.args.table.now in
    let now = c.loop-x.table in
    let u = c.args.u in
    let v = c.args.v in
    let x = c.loop-x.x in
    elim c.if-x-u.branch [
      | then-x-u w ↦
          let next = w.set.new.self in
          let row = row_grown now w.join_row.new.self next v x (w.set.ensures.nodes ∙ w.join_row.ensures.nodes) w.set.ensures.graph w.join_row.ensures.edges w.set.ensures.edges in
          let joins : (x ≡ u) ⊎ Contains now.edges (x, u) = elim w.then-x-u.branch [
            | then-x-u-via-then-x-u w' ↦ inl w'.if-x-u.true
            | then-x-u-via-else-x-u+then-has w' ↦ inr (w'.has.ensures.edge.0 w'.if-has.true)
          ] in
          subst (λ g. IsGrownTo old g u v (x + 1)) (sym w.table-is) (grown_here old now next u v x c.loop-x.invariant joins row)
      | else-x-u+else-has w ↦
          subst (λ g. IsGrownTo old g u v (x + 1)) (sym w.table-is)
          (grown_past old now u v x c.loop-x.invariant w.if-x-u.false (λ k. false≢true (sym w.if-has.false ∙ w.has.ensures.edge.1 k)))
    ]

pub returns-clause-grown : goal.returns-clause-grown
returns-clause-grown c = grown_all c.args.table.now c.loop-x.table c.args.u c.args.v c.loop-x.x c.nodes-x-end.ensures.graph c.requires.nodes.0 (omega (arith, c.loop-x-test.false, c.nodes-x-end.ensures.count)) c.loop-x.invariant
