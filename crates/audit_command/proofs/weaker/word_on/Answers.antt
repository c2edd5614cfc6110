use Rattle.audit_command.proofs.weaker.word_on.Goals as goal

pub returns : goal.returns
returns g c = record { word = λ ss legal sound same. c.word_of.ensures.word c.args.means.now ss (c.in_ok-verdict.ensures.verdict ss legal sound same) }
