use Rattle.log_parts.proofs.Prelude.{map, sym, ◌∙◌, subst, view, IsPart, thinned_is_part, picked, flags_view, is_kept}
use Rattle.log_parts.proofs.Steps.{thin_kept, passes, some_picked}
use Rattle.log_parts.proofs.part.part_of.Goals as goal

pub returns-clause-part : goal.returns-clause-part
returns-clause-part c sound =
    let ss = map view c.args.sessions.now in
    let some = picked (flags_view c.args.flags.now) ss in
    let exact = c.in_ok-part.ensures ∙ thin_kept c.in_ok-wids.wids ss some c.in_ok-wids.ensures in
    subst (IsPart ss) (sym exact) (thinned_is_part ss some (is_kept ss some) sound (some_picked (flags_view c.args.flags.now) ss) (passes ss some))

pub returns-clause-exact : goal.returns-clause-exact
returns-clause-exact c =
    let ss = map view c.args.sessions.now in
    c.in_ok-part.ensures ∙ thin_kept c.in_ok-wids.wids ss (picked (flags_view c.args.flags.now) ss) c.in_ok-wids.ensures
