use Rattle.part_reasons.proofs.Prelude.{map, ap, subst, sym, ◌∙◌, view, first_line, IsSearchTold, search_text}
use Rattle.part_reasons.proofs.Allowed.{forbidden_name}
use Rattle.part_reasons.proofs.snapshots.explain_search.Goals as goal

pub returns : goal.returns
returns g c =
    let known = map view c.args.sessions.now in
    let serial = c.in_ok-serial.serial in
    record {
      said = subst (λ b. IsSearchTold b c.args.means.now.budget (first_line c.args.version) known c.args.refuted.now c.unless_allowed.result c.in_ok-text_of_search.field-0.items) (sym c.if-not-is_locked.false) (record {
        said = serial.text.items;
        serial = c.in_ok-serial.ensures.why;
        text_is = c.in_ok-text_of_search.ensures.text ∙ ap search_text c.deref.ensures.value;
        name_is = forbidden_name c.unless_allowed.result serial.known_as serial.text.items c.unless_allowed.ensures.name c.unless_allowed.ensures.same c.in_ok-serial.ensures.named;
      });
    }
