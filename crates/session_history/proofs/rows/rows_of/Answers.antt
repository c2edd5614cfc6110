use Rattle.session_history.proofs.Prelude.{map, take, ap, sym, ◌∙◌, row_from, no_row}
use Rattle.session_history.proofs.KeyRows.{node_below, node_rows_more}
use Rattle.session_history.proofs.rows.rows_of.Goals as goal

pub loop-i-preserved : goal.loop-i-preserved
loop-i-preserved c =
    let nodes = c.args.nodes.now in
    let i = c.loop-i.i in
    node_rows_more c.args.keys nodes i c.node_at.result c.index-nodes-i.result c.deref.result.now c.add_node.new.rows.items
    c.loop-i-test.true c.index-nodes-i.is c.node_at.ensures (c.deref.ensures.value ∙ ap (λ n. n.events.items) (sym c.index-nodes-i.is))
    (c.in_ok-add_node.ensures c.args.keys (λ x. row_from no_row x 1 (map (λ node. node.events.items) (take i nodes)))
    (λ x _. node_below nodes i c.node_at.result x c.loop-i-test.true c.node_at.ensures) c.loop-i.invariant)
