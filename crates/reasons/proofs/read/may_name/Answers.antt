use Rattle.reasons.proofs.Prelude.{sym, ◌∙◌, eqb-false, not-true}
use Rattle.reasons.proofs.Firsts.{none_of_other}
use Rattle.reasons.proofs.read.may_name.Goals as goal

pub returns-in-Some : goal.returns-in-Some
returns-in-Some c = λ t. rw c.in-Read.is (none_of_other c.args.history.now c.requires.well_formed c.args.node c.in-Read.key c.in-Read.wid c.in-Some.write c.requires.node (eqb-false c.in-Some.write.node c.args.node (sym c.eq.ensures ∙ not-true c.eq.result t)) c.in-Some.ensures.write)
