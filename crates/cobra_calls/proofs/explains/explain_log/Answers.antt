use Rattle.cobra_calls.proofs.Prelude.{subst, IsExplainEnding}
use Rattle.cobra_calls.proofs.explains.explain_log.Goals as goal

pub returns-in-Err-clause-ended : goal.returns-in-Err-clause-ended
returns-in-Err-clause-ended g c =
    let old = g.W.Sink.bytes c.args.sink.now in
    let new = g.W.Sink.bytes c.refuse.new.sink in
    let budget = c.args.options.now.budget in
    subst (λ name. IsExplainEnding name c.args.log.now budget c.args.format old new c.refuse.result) c.log_name.ensures.name (c.refuse.ensures.ended budget old c.in-Err.ensures.refused)

pub returns-in-Err-clause-count : goal.returns-in-Err-clause-count
returns-in-Err-clause-count g c = c.refuse.ensures.count (g.W.Sink.failures c.args.sink.now) c.in-Err.ensures.count
