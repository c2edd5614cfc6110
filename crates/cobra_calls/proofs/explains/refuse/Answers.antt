use Rattle.cobra_calls.proofs.Prelude.{◌≡◌, Err, Some, refl, sym, ap, subst, ◌∙◌, version_of, IsRefused, Fault, IsUndecided, IsExplanation, Stop, failures_by, said_fault, IsExplainEnding}
use Rattle.cobra_answers.specs.Failures.{failures_after}
use Rattle.cobra_answers.specs.declared.stop.Stop.TheVariants as stop
use Rattle.cobra_calls.specs.Explains as explains
use Rattle.cobra_calls.proofs.Saying.{said_is, said_behind, unsaid_behind}
use Rattle.cobra_calls.proofs.explains.refuse.Goals as goal

pub returns-in-Ok-clause-ended : goal.returns-in-Ok-clause-ended
returns-in-Ok-clause-ended g c budget old h =
    let name = c.args.name.now in
    let log = c.args.log.now in
    let format = c.args.format in
    let mid = g.W.Sink.bytes c.args.sink.now in
    let new = g.W.Sink.bytes c.say_refused.new.sink in
    let f = c.in-Some.said in
    let is = said_is format c.args.refused f (sym c.in-Some.ensures.said) in
    let said = subst (λ (x : Fault). said_fault format x ≡ Some f) is (sym c.in-Some.ensures.said) in
    let r = subst (λ (x : Fault). IsRefused (IsExplanation budget (version_of log) format) IsUndecided log old mid x) is h in
    subst (λ (x : Fault). IsExplainEnding name log budget format old new (Stop (stop.Refused x))) (sym is) (said_behind name log budget format old mid new f said r c.in-Ok.ensures.said)

pub returns-in-Ok-clause-count : goal.returns-in-Ok-clause-count
returns-in-Ok-clause-count g c before h = c.in-Ok.ensures.count ∙ h

pub returns-in-Err-clause-ended : goal.returns-in-Err-clause-ended
returns-in-Err-clause-ended g c budget old h =
    let name = c.args.name.now in
    let log = c.args.log.now in
    let format = c.args.format in
    let mid = g.W.Sink.bytes c.args.sink.now in
    let new = g.W.Sink.bytes c.say_refused.new.sink in
    let f = c.in-Some.said in
    let is = said_is format c.args.refused f (sym c.in-Some.ensures.said) in
    let said = subst (λ (x : Fault). said_fault format x ≡ Some f) is (sym c.in-Some.ensures.said) in
    let r = subst (λ (x : Fault). IsRefused (IsExplanation budget (version_of log) format) IsUndecided log old mid x) is h in
    unsaid_behind name log budget format old mid new f c.in-Err.ending said r c.in-Err.ensures.unsaid

pub returns-in-Err-clause-count : goal.returns-in-Err-clause-count
returns-in-Err-clause-count g c before h =
    let mid = g.W.Sink.failures c.args.sink.now in
    let is = said_is c.args.format c.args.refused c.in-Some.said (sym c.in-Some.ensures.said) in
    let same : mid ≡ before = subst (λ (x : Fault). mid ≡ failures_after before (Err x)) is h in
    c.in-Err.ensures.count ∙ ap (λ n. failures_by n c.in-Err.ending) same

pub returns-in-None-clause-ended : goal.returns-in-None-clause-ended
returns-in-None-clause-ended g c budget old h = explains.by_command c.args.refused (sym c.in-None.ensures.said) h refl
