use Rattle.order_cnf.proofs.Prelude.{◌+◌, ◌*◌, ap, sym, ◌∙◌, ℕ, length, arith, refl, length-replicate, Relation, rows_known}
use Rattle.order_cnf.proofs.Numbered.{number_begun, number_row, number_free, number_known, few_numbered, none_yet}
use Rattle.order_cnf.proofs.relation.number_pairs.Goals as goal
use Rattle.order_cnf.proofs.relation.number_pairs.Goals.{then-is_free, else-is_free}

pub loop-low-init : goal.loop-low-init
loop-low-init c = number_begun (record { nodes = c.args.nodes; known = rows_known c.args.rows.now }) c.in_ok-table.table.items (ap length (c.in_ok-table.ensures.items_if_clones_equal (λ y e. e)) ∙ length-replicate {A = ℕ} _ 0) (none_yet _ _ (c.in_ok-table.ensures.items_if_clones_equal (λ y e. e)))

pub overflow_add-variables : goal.overflow_add-variables
overflow_add-variables c =
    omega (arith, few_numbered (record { nodes = c.args.nodes; known = rows_known c.args.rows.now }) c.loop-high.table.items c.loop-high.variables c.loop-low.low c.loop-high.high c.requires.few c.loop-high.invariant)

pub loop-low-preserved : goal.loop-low-preserved
loop-low-preserved c =
    number_row (record { nodes = c.args.nodes; known = rows_known c.args.rows.now }) c.loop-high.table.items c.loop-high.variables c.loop-low.low c.loop-high.high c.loop-high-test.false c.loop-high.invariant

pub loop-high-preserved : goal.loop-high-preserved
loop-high-preserved c =
    let r : Relation = record { nodes = c.args.nodes; known = rows_known c.args.rows.now } in
    let low = c.loop-low.low in
    let high = c.loop-high.high in
    elim c.if-is_free.branch [
      | then-is_free w ↦
          rw w.variables-is
          (number_free r c.loop-high.table.items c.if-is_free.table.items c.loop-high.variables low high (low * (c.args.nodes + 1) + high) (omega (arith, c.loop-high.auto.high)) (omega (arith, c.loop-high-test.true))
          c.loop-high.invariant (sym w.if-is_free.ensures.value) refl (ap (λ t. t.items) w.table-is))
      | else-is_free w ↦
          rw (w.variables-is, w.table-is)
          (number_known r c.loop-high.table.items c.loop-high.variables low high (omega (arith, c.loop-high.auto.high)) (omega (arith, c.loop-high-test.true)) c.loop-high.invariant (sym w.if-is_free.ensures.value))
    ]
