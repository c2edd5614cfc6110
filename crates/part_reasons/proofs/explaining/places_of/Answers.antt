use Rattle.part_reasons.proofs.Prelude.{map, sym, ap, ◌∙◌, subst, IfOk-weaker, view, first_line, op_counts, op_counts_in, table_of}
use Rattle.log_lines.proofs.Own.{own_fits}
use Rattle.judging.specs.Made.{IsChosen}
use Rattle.part_reasons.proofs.explaining.places_of.Goals as goal

pub returns-in-None : goal.returns-in-None
returns-in-None c =
    let known = map view c.args.sessions.now in
    let part = map view c.args.refuted.now.part.items in
    let all = subst (IsChosen known part) c.in-None.is c.requires.made in
    record {
      fits = IfOk-weaker c.own.result _ _
          (λ places e. ap op_counts e ∙ own_fits (first_line c.args.version) known ∙ ap op_counts_in (sym all))
          c.own.ensures.own;
      rows = IfOk-weaker c.own.result _ _ (λ places e. e ∙ ap (table_of (first_line c.args.version) known) (sym c.in-None.is)) c.own.ensures.own;
    }
