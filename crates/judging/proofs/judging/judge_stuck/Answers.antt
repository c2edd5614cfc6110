use Rattle.judging.proofs.Prelude.{map, subst, view, flags_view, IsAttempt}
use Rattle.judging.proofs.Verdicts.{tried_part}
use Rattle.judging.proofs.judging.judge_stuck.Goals as goal

pub returns-in-Open : goal.returns-in-Open
returns-in-Open g c =
    let ss = map view c.args.sessions.now in
    let m = c.args.means.now in
    let flags = flags_view c.deref.result.now in
    (c.requires.why, tried_part m ss flags c.in-Open.tried c.requires.log (subst (IsAttempt m ss flags) c.in-Open.is c.in_ok-told-in-Stuck-TooLarge.ensures))
