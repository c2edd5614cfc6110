use Rattle.cobra_calls.proofs.Prelude.{subst, ◌∙◌, IsSplitEnding}
use Rattle.cobra_calls.proofs.splits.split_log.Goals as goal

pub returns-in-Err-clause-ended : goal.returns-in-Err-clause-ended
returns-in-Err-clause-ended g c =
    let h = c.ending_of.ensures.ending c.args.log.now (g.W.Sink.bytes c.args.sink.now) (g.W.Sink.bytes c.put_split.new.sink) c.in-Err.ensures.untold in
    subst (λ name. IsSplitEnding name c.args.log.now (g.W.Sink.bytes c.args.sink.now) (g.W.Sink.bytes c.put_split.new.sink) c.ending_of.result) c.log_name.ensures.name h

pub returns-in-Err-clause-count : goal.returns-in-Err-clause-count
returns-in-Err-clause-count g c = c.in-Err.ensures.count ∙ c.ending_of.ensures.count (g.W.Sink.failures c.args.sink.now)
