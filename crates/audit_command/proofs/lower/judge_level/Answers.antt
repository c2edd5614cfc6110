use Rattle.audit_command.proofs.Prelude.{map, Some, refl, sym, subst, IfSome, view, IsVerdict, IsMade, known, at_level, IsRefutedWhere, IsResolved, IsPartOf}
use Rattle.audit_command.proofs.Resolved.{verdict_part}
use Rattle.audit_command.proofs.Lowest.{refuted_where, part_where}
use Rattle.audit_command.proofs.lower.judge_level.Goals as goal

pub returns : goal.returns
returns g c =
    let o = c.args.options.now in
    let known_ss = map view c.args.sessions.now in
    let log = c.requires.log in
    let v = c.in_ok-verdict.verdict in
    let m = at_level c.args.level o.means in
    record {
      word = λ ss legal sound same. (refl, c.word_of.ensures.word m ss (subst (λ n. IsVerdict n ss v) c.at_level-means.ensures.at (c.in_ok-verdict.ensures.verdict ss legal sound same)));
      refuted = λ ss legal sound same. (
          let is = refuted_where m ss v (subst (λ n. IsVerdict n ss v) c.at_level-means.ensures.at (c.in_ok-verdict.ensures.verdict ss legal sound same)) (subst (λ l. IsMade l v) same c.in_ok-verdict.ensures.made) in
          subst (λ w. IsRefutedWhere m.level ss (Some w) c.refuted_of-refuted.result) (sym c.word_of.ensures.is)
          (subst (IsRefutedWhere m.level ss (Some _)) (sym c.refuted_of-refuted.ensures.refuted) is));
      part = (
          let same = sym (known known_ss log) in
          let k : IsResolved known_ss = record { ss = known_ss; legal = log.legal; sound = log.sound; is = same } in
          let of = verdict_part c.at_level-means.result known_ss k v (c.in_ok-verdict.ensures.verdict known_ss log.legal log.sound same) (subst (λ l. IsMade l v) same c.in_ok-verdict.ensures.made) in
          subst (λ r. IfSome r (IsPartOf known_ss)) (sym c.refuted_of-refuted.ensures.refuted) (part_where known_ss v of));
    }
