use Rattle.part_reasons.proofs.Prelude.{sym, subst, IfOk-weaker, Decides}
use Rattle.part_reasons.proofs.serial.text_of_told.Goals as goal

pub explain_placed-requires : goal.explain_placed-requires
explain_placed-requires c = record { decided = record { budget = c.args.means.now.budget; decides = subst (λ ss. Decides c.args.means.now.budget ss c.args.decision.now) (sym c.in_ok-log.ensures.history) c.requires.decided } }

pub returns : goal.returns
returns c =
    let made = c.in_ok-log.ensures in
    record { told = IfOk-weaker c.explain_placed.result _ _ (λ text why. record { log = c.in_ok-log.log; sessions = made.history; places = made.places; why = why }) c.explain_placed.ensures.why }
