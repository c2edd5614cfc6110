use Rattle.judging.proofs.Prelude.{map, subst, view, flags_view, IsAttempt}
use Rattle.judging.proofs.judging.judge_part.Goals as goal

pub returns : goal.returns
returns g c =
    let ss = map view c.args.sessions.now in
    let m = c.args.means.now in
    let tried = subst (λ flags. IsAttempt m ss flags c.in_ok-attempt.field-0.attempt) c.in_ok-copy_flags.ensures c.in_ok-attempt.ensures in
    subst (IsAttempt m ss (flags_view c.args.flags.now)) c.in-Open.is tried
