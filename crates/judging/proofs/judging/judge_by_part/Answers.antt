use Rattle.judging.proofs.Prelude.{map, subst, view, flags_view, IsAttempt}
use Rattle.judging.proofs.Verdicts.{tried_part}
use Rattle.judging.proofs.judging.judge_by_part.Goals as goal

pub judge_rest-requires-clause-tried : goal.judge_rest-requires-clause-tried
judge_rest-requires-clause-tried g c κs within =
    let ss = map view c.args.sessions.now in
    let m = c.args.means.now in
    let flags = flags_view c.args.flags.now in
    tried_part m ss flags c.in-Open.tried c.requires.log (subst (IsAttempt m ss flags) c.in-Open.is c.in_ok-told.ensures)
