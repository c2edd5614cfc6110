use Rattle.judging.proofs.Prelude.{◌≡◌, List, map, sym, subst, view, Session, IsLog, flags_view, chosen, IsFound}
use Rattle.judging.proofs.Parts.{part_log}
use Rattle.judging.proofs.trial.try_part.Goals as goal

pub see_log-requires-clause-log : goal.see_log-requires-clause-log
see_log-requires-clause-log g c κs within =
    let P : List Session → Type 0 = λ l. IsLog (map view l) in
    subst P (sym c.deref-2.ensures.value) (part_log (map view c.args.sessions.now) (map view c.in_ok-part.part.items) c.requires.log (c.in_ok-part.ensures.part c.requires.log.sound))

pub returns : goal.returns
returns g c =
    let ss = map view c.args.sessions.now in
    let m = c.args.means.now in
    let P : List Session → Type 0 = λ l. IsFound m (map view l) c.in_ok-seen.seen.found in
    c.told.ensures m ss c.requires.log
    (subst (λ l. map view c.in_ok-part.part.items ≡ chosen (flags_view l) ss) c.deref.ensures.value c.in_ok-part.ensures.exact)
    (subst P c.deref-2.ensures.value c.in_ok-seen.ensures)
