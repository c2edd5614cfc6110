use Rattle.order_text.proofs.Prelude.{length, sym, ◌∙◌, arith, eqb-true, lines, order_fault}
use Rattle.std.proofs.lemmas.Result.{err_from_is_err_and}
use Rattle.order_text.proofs.Reading.{IsRead, text_on, nodes_on, fault_on, fault_stop, no_lines, short_fault, is_fault}
use Rattle.order_text.proofs.read.read_order.Goals as goal

pub returns-in_err-node-clause-fault : goal.returns-in_err-node-clause-fault
returns-in_err-node-clause-fault c =
    let ss = c.args.history.now in
    let whole = short_fault ss c.args.text.now c.if-text-gt-MAX_ORDER_BYTES.false ∙ c.loop-rest.invariant.fault ∙ fault_stop ss c.loop-rest.line (c.next_line-ended.result.0.now, c.next_line-ended.result.1) (lines c.next_line-ended.result.2.now) (lines c.loop-rest.rest.now) c.in_err-node.field-0.0 c.next_line-ended.ensures.line c.in_err-node.ensures.fault in
    let p = err_from_is_err_and c.from_residual.result c.from_residual.ensures.1 in
    rw (p.1, p.2) (is_fault c.in_err-node.field-0.0 (order_fault ss c.args.text.now) whole)

pub loop-rest-preserved : goal.loop-rest-preserved
loop-rest-preserved c =
    let ss = c.args.history.now in
    let body = c.next_line-ended.result.0.now in
    let ended = c.next_line-ended.result.1 in
    let after = c.next_line-ended.result.2.now in
    let node : IsRead ss c.loop-rest.line (body, ended) c.in_ok-node.node = record { accepted = c.in_ok-node.ensures.accepted; named = c.in_ok-node.ensures.named } in
    record {
      fault = c.loop-rest.invariant.fault ∙ fault_on ss c.loop-rest.line (body, ended) c.in_ok-node.node (lines after) (lines c.loop-rest.rest.now) node c.next_line-ended.ensures.line;
      text = text_on ss c.loop-rest.line body ended c.in_ok-node.node c.loop-rest.nodes.items c.push.new.self.items c.args.text.now c.loop-rest.rest.now after node c.loop-rest.invariant.text c.next_line-ended.ensures.text c.in_ok-push.ensures.items;
      nodes = nodes_on ss c.loop-rest.line (body, ended) c.in_ok-node.node c.loop-rest.nodes.items c.push.new.self.items node c.loop-rest.invariant.nodes c.in_ok-push.ensures.items;
      room = omega (arith, c.loop-rest.invariant.room, c.next_line-ended.ensures.shorter);
    }

pub returns-clause-accepted : goal.returns-clause-accepted
returns-clause-accepted c =
    short_fault c.args.history.now c.args.text.now c.if-text-gt-MAX_ORDER_BYTES.false ∙ c.loop-rest.invariant.fault
    ∙ no_lines c.args.history.now c.loop-rest.line c.loop-rest.rest.now (sym (eqb-true (length c.loop-rest.rest.now) 0 (sym c.is_empty.ensures ∙ c.loop-rest-test.false)))
