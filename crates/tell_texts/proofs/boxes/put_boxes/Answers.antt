use Rattle.std.proofs.Common.{◌≡◌, ◌++◌, ◌∙◌, append_assoc, subst, arith}
use Rattle.std.specs.List.{filter}
use Rattle.tell_texts.specs.Graphs.{is_edge_of, box}
use Rattle.tell_texts.proofs.Pieces.{boxes_more}
use Rattle.tell_texts.proofs.boxes.put_boxes.Goals as goal

pub loop-before-preserved : goal.loop-before-preserved
loop-before-preserved c =
    let look = c.args.look in let log = c.args.log.now in let items = c.args.items.now in
    let edges = c.deref.ensures.value ∙ c.in_ok-edges.ensures.edges in
    let put = subst (λ v. c.put_box.new.out.items ≡ c.loop-before.out.items ++ box look log v (filter (is_edge_of v) items)) c.node-node.ensures.value (rw edges at c.in_ok-put_box.ensures.text) in
    grind (arith, append_assoc, put, c.loop-before.invariant, boxes_more look log items c.loop-before.before)
