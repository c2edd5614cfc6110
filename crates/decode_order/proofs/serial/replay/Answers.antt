use Rattle.decode_order.proofs.Prelude.{◌∙◌, sym, subst, IsSerial, log_of}
use Rattle.decode_order.proofs.Whole.{serial_where_no_fault}
use Rattle.decode_order.proofs.serial.replay.Goals as goal

pub returns-in-None-clause-serial : goal.returns-in-None-clause-serial
returns-in-None-clause-serial c =
    let log = log_of c.args.history.now in
    let none = sym c.in_ok-first_fault.ensures.fault ∙ c.in-None.is in
    subst (IsSerial log) c.nodes.ensures.nodes (serial_where_no_fault log c.nodes.result.now none)
