use Rattle.std.proofs.Common.{◌∙◌, [], sym, subst}
use Rattle.std.proofs.lemmas.Result.{IfOk-weaker}
use Rattle.tell_steps.specs.Lines.{LineStands}
use Rattle.tell_steps.specs.Steps.{IsLineTold}
use Rattle.tell_steps.proofs.Telling.{runs_stand, runs_lead}
use Rattle.tell_decision.proofs.Known.{cycle_closed}
use Rattle.tell_decision.proofs.cycles.cycle_items.Goals as goal

pub tell_line-requires-clause-stands : goal.tell_line-requires-clause-stands
tell_line-requires-clause-stands c =
    let ss = c.args.history.now in
    let line = c.args.line.now in
    subst (LineStands ss [] []) (sym (c.deref.ensures.value ∙ c.in_ok-short.ensures)) (runs_stand ss [] [] line (cycle_closed ss c.requires.clean line c.requires.cycle).rests)

pub returns : goal.returns
returns c =
    let ss = c.args.history.now in
    let line = c.args.line.now in
    let round = (cycle_closed ss c.requires.clean line c.requires.cycle).round in
    record {
      told = IfOk-weaker c.tell_line.result _ _
          (λ made told. record { start = round.start; whole = round.ends; short = runs_lead ss round.start line round.ends; told = subst (λ l. IsLineTold ss [] [] l made.items) (c.deref.ensures.value ∙ c.in_ok-short.ensures) told })
          c.tell_line.ensures.told;
    }
