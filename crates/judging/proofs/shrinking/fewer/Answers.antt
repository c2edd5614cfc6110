use Rattle.judging.proofs.Prelude.{List, map, sym, subst, view, Session, IsLog}
use Rattle.judging.proofs.Verdicts.{told_is_log}
use Rattle.judging.proofs.shrinking.fewer.Goals as goal

pub shrink-requires-clause-log : goal.shrink-requires-clause-log
shrink-requires-clause-log g c κs within =
    let P : List Session → Type 0 = λ l. IsLog (map view l) in
    subst P (sym c.deref.ensures.value) (told_is_log c.args.means.now.level (map view c.args.sessions.now) c.args.told.now c.requires.log c.requires.told)
