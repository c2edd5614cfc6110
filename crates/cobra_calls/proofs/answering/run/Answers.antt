use Rattle.cobra_calls.proofs.Prelude.{refl, sym, subst, ◌∙◌, err_from_is_err_and, by_output, IsLogRead, IsNamedRead}
use Rattle.cobra_calls.proofs.Left.{ended_by_command, answered_so}
use Rattle.cobra_calls.proofs.answering.run.Goals as goal

pub returns-in_err-status-clause-ending : goal.returns-in_err-status-clause-ending
returns-in_err-status-clause-ending g c =
    let p = err_from_is_err_and c.from_residual-in_err-status.result c.from_residual-in_err-status.ensures.1 in
    let log = subst (IsLogRead c.args.request.now (g.I.Inputs.given c.args.inputs.now) (g.I.Inputs.held c.args.inputs.now)) (sym c.deref.ensures.value) c.in_ok-log.ensures.log in
    let named = subst (IsNamedRead c.args.request.now.command (g.I.Inputs.held c.read_log.new.inputs)) (sym c.deref-2.ensures.value) c.in_ok-named.ensures.named in
    rw (p.1, p.2) (ended_by_command c.args.request.now _ _ (g.I.Inputs.held c.read_log.new.inputs) c.deref.result.now c.deref-2.result.now (g.I.Inputs.failures c.args.inputs.now) (g.I.Inputs.failures c.read_named.new.inputs) _ _ c.in_err-status.field-0.0
    log c.in_ok-log.ensures.held named c.in_err-status.ensures.ended (c.in_ok-named.ensures.count ∙ c.in_ok-log.ensures.count))

pub returns-clause-ending : goal.returns-clause-ending
returns-clause-ending g c =
    let log = subst (IsLogRead c.args.request.now (g.I.Inputs.given c.args.inputs.now) (g.I.Inputs.held c.args.inputs.now)) (sym c.deref.ensures.value) c.in_ok-log.ensures.log in
    let named = subst (IsNamedRead c.args.request.now.command (g.I.Inputs.held c.read_log.new.inputs)) (sym c.deref-2.ensures.value) c.in_ok-named.ensures.named in
    by_output c.in_ok-status.status (answered_so c.args.request.now _ _ (g.I.Inputs.held c.read_log.new.inputs) c.deref.result.now c.deref-2.result.now _ (g.O.Sink.bytes c.run_on.new.sink) _ c.in_ok-status.status
    log c.in_ok-log.ensures.held named c.in_ok-status.ensures.done c.flush.ensures.keeps) refl (c.in_ok-named.ensures.count ∙ c.in_ok-log.ensures.count)
