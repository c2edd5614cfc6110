use Rattle.audit_command.proofs.Prelude.{map, Some, refl, sym, subst, view, first_line, IsVerdict, IsMade, known, at_snapshot, IsShownBy, IsResolved}
use Rattle.audit_command.proofs.Resolved.{verdict_part}
use Rattle.audit_command.proofs.weaker.plain_on.Goals as goal

pub shown_by-requires-clause-part : goal.shown_by-requires-clause-part
shown_by-requires-clause-part g c κs within =
    let ss = map view c.args.sessions.now in
    let log = c.requires.log in
    let v = c.in_ok-verdict.verdict in
    let same = sym (known ss log) in
    let k : IsResolved ss = record { ss = ss; legal = log.legal; sound = log.sound; is = same } in
    verdict_part c.at_snapshot-means.result ss k v (c.in_ok-verdict.ensures.verdict ss log.legal log.sound same) (subst (λ l. IsMade l v) same c.in_ok-verdict.ensures.made)

pub returns : goal.returns
returns g c =
    let o = c.args.options.now in
    let v = c.in_ok-verdict.verdict in
    let n = first_line c.args.version in
    record {
      word = λ ss legal sound same. (refl, c.word_of.ensures.word (at_snapshot o.means) ss (subst (λ m. IsVerdict m ss v) c.at_snapshot-means.ensures.at (c.in_ok-verdict.ensures.verdict ss legal sound same)));
      shown = λ ss legal sound same. subst (λ w. IsShownBy o n ss c.args.answer.now (Some w) c.in_ok-shown.shown) (sym c.word_of.ensures.is)
          (c.in_ok-shown.ensures.shown ss same (subst (λ m. IsVerdict m ss v) c.at_snapshot-means.ensures.at (c.in_ok-verdict.ensures.verdict ss legal sound same)) (subst (λ l. IsMade l v) same c.in_ok-verdict.ensures.made));
    }
