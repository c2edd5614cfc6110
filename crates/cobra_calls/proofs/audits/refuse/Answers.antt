use Rattle.cobra_calls.proofs.Prelude.{sym, ◌∙◌, IsRefusedBy}
use Rattle.cobra_calls.proofs.Failures.{by_line}
use Rattle.cobra_calls.proofs.audits.refuse.Goals as goal

pub returns-in-Ok-clause-count : goal.returns-in-Ok-clause-count
returns-in-Ok-clause-count g c = c.in-Ok.ensures.count ∙ sym (by_line (IsRefusedBy c.args.name.now c.in-Log.fault) 2 (g.W.Sink.failures c.args.sink.now) c.refused.result c.refused.ensures.refused)
