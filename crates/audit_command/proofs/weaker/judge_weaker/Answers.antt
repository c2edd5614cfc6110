use Rattle.audit_command.proofs.Prelude.{map, inl, inr, sym, ap, ◌∙◌, subst, cases_Bool, view, IsLog, without_moments, legal_without, sound_without, log_without, resolved_without, asks_strict, asks_plain, at_snapshot, states_moments}
use Rattle.audit_command.proofs.Prelude.{IsWordWhere}
use Rattle.audit_command.proofs.WeakerLevels.{plain_where_kept}
use Rattle.audit_command.proofs.weaker.judge_weaker.Goals as goal

pub word_where-requires-2-clause-log : goal.word_where-requires-2-clause-log
word_where-requires-2-clause-log g c κs within =
    subst IsLog (sym (ap (map view) c.deref-3.ensures.value ∙ c.leave_out_moments.ensures)) (log_without (map view c.args.sessions.items) c.requires.log)

pub plain_where-requires-clause-log : goal.plain_where-requires-clause-log
plain_where-requires-clause-log g c κs within =
    subst IsLog (sym (ap (map view) c.deref-4.ensures.value ∙ c.leave_out_moments.ensures)) (log_without (map view c.args.sessions.items) c.requires.log)

pub returns : goal.returns
returns g c = record {
  rest = c.leave_out_moments.ensures;
  weaker = λ ss legal sound same. (
      let states = c.state_moments-states.ensures.states ∙ ap states_moments (ap (map view) c.deref.ensures.value ∙ same) in
      let other = without_moments ss in
      let legal_other = legal_without ss legal in
      let sound_other = sound_without ss legal sound in
      let o = c.args.options.now in
      let a = c.args.answer.now in
      let strict = c.in_ok-strict_snapshot.strict_snapshot in
      let bare = c.in_ok-without_moments.without_moments in
      let plain = c.in_ok-plain.plain in
      let word = plain.word in
      let left = c.leave_out_moments.ensures ∙ ap without_moments same ∙ sym (resolved_without ss) in
      let is_strict : IsWordWhere (at_snapshot o.means) ss (asks_strict o ss a) strict =
      subst (λ n. IsWordWhere n ss (asks_strict o ss a) strict) c.at_snapshot-means.ensures.at
      (subst (λ b. IsWordWhere c.at_snapshot-means.result ss b strict) (c.asks_strict-is_strict.ensures.asks ss states) (c.in_ok-strict_snapshot.ensures.word ss legal sound (ap (map view) c.deref-2.ensures.value ∙ same))) in
      let is_bare : IsWordWhere o.means other (asks_strict o ss a) bare =
      subst (λ b. IsWordWhere o.means other b bare) (c.asks_strict-is_strict.ensures.asks ss states) (c.in_ok-without_moments.ensures.word other legal_other sound_other (ap (map view) c.deref-3.ensures.value ∙ left)) in
      let same_other = ap (map view) c.deref-4.ensures.value ∙ left in
      let is_plain : IsWordWhere (at_snapshot o.means) other (asks_plain o ss a) word =
      elim (cases_Bool c.is_one_kept-is_implied.result) [
        | inl e ↦ subst (IsWordWhere (at_snapshot o.means) other (asks_plain o ss a)) (sym (c.in_ok-plain.ensures.kept e)) (plain_where_kept o ss a bare strict legal sound is_bare is_strict (sym c.is_one_kept-is_implied.ensures.kept ∙ e))
        | inr e ↦ subst (λ b. IsWordWhere (at_snapshot o.means) other b word) (c.asks_plain-is_plain.ensures.asks ss states) (c.in_ok-plain.ensures.word e other legal_other sound_other same_other)
      ] in
      record {
        without = is_bare;
        strict = is_strict;
        plain = is_plain;
        below = λ e. c.in_ok-plain.ensures.kept (c.is_one_kept-is_implied.ensures.kept ∙ e);
        shown = c.in_ok-plain.ensures.shown other legal_other sound_other same_other;
      });
}
