use Rattle.proof_checks.proofs.Prelude.{◌∙◌, ap, refl, distinct}
use Rattle.proof_checks.proofs.Passed.{passed_deletion}
use Rattle.proof_checks.proofs.drat.Drat.take.Goals as goal

pub returns-in_ok-forget-in-Delete-clause-on : goal.returns-in_ok-forget-in-Delete-clause-on
returns-in_ok-forget-in-Delete-clause-on c = λ cs hs. passed_deletion c.args.line (record { action = c.args.action; literals = c.args.self.now.literals.items }) cs c.args.checker.now.clauses c.args.checker.now.clauses c.in-Delete.is hs refl

pub returns-in-Add-clause-on : goal.returns-in-Add-clause-on
returns-in-Add-clause-on c = λ cs hs. c.add.ensures.on (record { action = c.args.action; literals = c.args.self.now.literals.items }) (record { adds = c.in-Add.is; literals = c.in_ok-keep.ensures.kept ∙ ap distinct c.deref.ensures.value }) cs hs

pub returns-in-Add-clause-fault : goal.returns-in-Add-clause-fault
returns-in-Add-clause-fault c = λ cs hs. c.add.ensures.fault (record { action = c.args.action; literals = c.args.self.now.literals.items }) (record { adds = c.in-Add.is; literals = c.in_ok-keep.ensures.kept ∙ ap distinct c.deref.ensures.value }) cs hs
