use Rattle.cobra_cli.proofs.Prelude.{ap, length, ◌∙◌, nodes_of_serial, items_of, cnf_of, serial_of, model}
use Rattle.cobra_cli.proofs.Answering.{assignment_long, order_text_of}
use Rattle.cobra_cli.proofs.decoding.order_reply.Goals as goal

pub order_of-requires : goal.order_of-requires
order_of-requires c = record { each_variable = ap length c.requires.named ∙ assignment_long c.args.formula.now.variables (items_of c.args.answer.now) }

pub print_order-requires : goal.print_order-requires
print_order-requires c = record {
  nodes = nodes_of_serial c.args.history.now c.in_ok-order.order
      (serial_of c.args.history.now (cnf_of c.args.formula.now) c.requires.faithful c.args.values.now c.in_ok-order.order
      c.in_ok-order.ensures.satisfied c.in_ok-order.ensures.order);
}

pub returns-clause-decoded : goal.returns-clause-decoded
returns-clause-decoded c =
    model (cnf_of c.args.formula.now) c.requires.names c.in_ok-print_order.field-0.items
    (order_text_of c.args.answer.now c.args.history.now (cnf_of c.args.formula.now) c.requires.faithful c.args.values.now c.requires.named
    c.in_ok-order.ensures.satisfied c.in_ok-order.order c.in_ok-order.ensures.order c.in_ok-print_order.field-0.items c.in_ok-print_order.ensures.text)
