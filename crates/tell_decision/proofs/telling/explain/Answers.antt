use Rattle.std.proofs.Common.{sym, ap, ◌∙◌, subst}
use Rattle.std.proofs.lemmas.Result.{IfOk-weaker}
use Rattle.session_log.specs.Version.{first_line}
use Rattle.log_lines.specs.Rows.{Fits, own_places}
use Rattle.log_lines.proofs.Own.{own_fits}
use Rattle.deciding.specs.Decides.{IsDecided}
use Rattle.tell_decision.proofs.telling.explain.Goals as goal

pub of-requires : goal.of-requires
of-requires c =
    let ss = c.args.history.now in
    let first = first_line c.args.version in
    record { fits = subst (Fits ss) (sym (c.in_ok-places.ensures.own ∙ ap (own_places first) c.sessions.ensures.sessions)) (own_fits first ss) }

pub explain_placed-requires : goal.explain_placed-requires
explain_placed-requires c = record { decided = subst (λ ss. IsDecided ss c.args.decision.now) (sym c.in_ok-log.ensures.history) c.requires.decided }

pub returns : goal.returns
returns c =
    let made = c.in_ok-log.ensures in
    let own = c.in_ok-places.ensures.own ∙ ap (own_places (first_line c.args.version)) c.sessions.ensures.sessions in
    record {
      explained = IfOk-weaker c.explain_placed.result _ _ (λ text h. record { log = c.in_ok-log.log; sessions = made.history; places = made.places ∙ own; why = h }) c.explain_placed.ensures.why;
    }
