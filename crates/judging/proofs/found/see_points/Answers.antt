use Rattle.judging.proofs.Prelude.{List, map, sym, subst, view, Session, IsLog, IsLogAt, IsFound, of_serial}
use Rattle.std.proofs.lemmas.Result.{IfOk-weaker}
use Rattle.judging.proofs.Levels.{judged_is_log, found_by_split}
use Rattle.judging.proofs.found.see_points.Goals as goal

pub see_split-requires-clause-log : goal.see_split-requires-clause-log
see_split-requires-clause-log g c κs within =
    let ss = map view c.args.log.now in
    let level = c.args.means.now.level in
    let at = subst (IsLogAt level ss) c.in-Split.is c.in_ok-log_at.ensures in
    let P : List Session → Type 0 = λ l. IsLog (map view l) in
    subst P (sym c.deref.ensures.value) (judged_is_log level ss (map view c.in-Split.split.items) c.requires.log at.1)

pub returns-in-Split : goal.returns-in-Split
returns-in-Split g c =
    let ss = map view c.args.log.now in
    let m = c.args.means.now in
    let split = c.in-Split.split.items in
    let at = subst (IsLogAt m.level ss) c.in-Split.is c.in_ok-log_at.ensures in
    IfOk-weaker c.see_split.result _ _
    (λ seen is. found_by_split m ss (map view split) seen.found at.0 c.requires.log at.1
    (subst (λ (l : List Session). IsFound (of_serial m) (map view l) seen.found) c.deref.ensures.value is))
    c.see_split.ensures
