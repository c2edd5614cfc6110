use Rattle.audit_command.proofs.Prelude.{◌≡◌, map, refl, sym, ap, ◌∙◌, subst, AllByRecursion, IsLegal, view, IsSoundLog, IsLog, resolved_is_log, first_line, version_of, resolved, without_moments, legal_without, sound_without, log_without}
use Rattle.audit_command.proofs.Prelude.{resolved_without, seen, IsAnswer, IsWeaker, IsLower, AreTotals, IsOrderFile, order_asked}
use Rattle.long_log_definitions.proofs.Texts.{sound_where_long}
use Rattle.audit_command.proofs.Resolved.{seen_legal, seen_sound}
use Rattle.audit_command.proofs.command.audit_sessions.Goals as goal

pub know-requires-clause-legal : goal.know-requires-clause-legal
know-requires-clause-legal g c κs within =
    let ss = map view c.args.sessions.items in
    let log = sound_where_long c.args.log.items ss c.requires.long in
    subst (AllByRecursion IsLegal) (sym c.seen-sessions.ensures.seen) (seen_legal c.args.options.now.no_moments ss log.0)

pub know-requires-clause-sound : goal.know-requires-clause-sound
know-requires-clause-sound g c κs within =
    let ss = map view c.args.sessions.items in
    let log = sound_where_long c.args.log.items ss c.requires.long in
    subst IsSoundLog (sym c.seen-sessions.ensures.seen) (seen_sound c.args.options.now.no_moments ss log.0 log.1)

pub judge_weaker-requires-clause-log : goal.judge_weaker-requires-clause-log
judge_weaker-requires-clause-log g c κs within =
    let ss = map view c.args.sessions.items in
    let no_moments = c.args.options.now.no_moments in
    let log = sound_where_long c.args.log.items ss c.requires.long in
    let legal = subst (AllByRecursion IsLegal) (sym c.seen-sessions.ensures.seen) (seen_legal no_moments ss log.0) in
    let sound = subst IsSoundLog (sym c.seen-sessions.ensures.seen) (seen_sound no_moments ss log.0 log.1) in
    subst IsLog (sym c.in_ok-sessions.ensures.known.resolved) (resolved_is_log (map view c.seen-sessions.result.items) legal sound)

pub judge_lower-requires-clause-log : goal.judge_lower-requires-clause-log
judge_lower-requires-clause-log g c κs within =
    let ss = map view c.args.sessions.items in
    let no_moments = c.args.options.now.no_moments in
    let log = sound_where_long c.args.log.items ss c.requires.long in
    let legal = subst (AllByRecursion IsLegal) (sym c.seen-sessions.ensures.seen) (seen_legal no_moments ss log.0) in
    let sound = subst IsSoundLog (sym c.seen-sessions.ensures.seen) (seen_sound no_moments ss log.0 log.1) in
    let known = subst IsLog (sym c.in_ok-sessions.ensures.known.resolved) (resolved_is_log (map view c.seen-sessions.result.items) legal sound) in
    subst IsLog (sym (ap (map view) c.deref.ensures.value ∙ c.in_ok-weaker.ensures.rest)) (log_without (map view c.in_ok-sessions.field-0.sessions.items) known)

pub returns : goal.returns
returns g c =
    let o = c.args.options.now in
    let text = c.args.log.items in
    let ss = map view c.args.sessions.items in
    let judged = map view c.seen-sessions.result.items in
    let e : judged ≡ seen o.no_moments ss = c.seen-sessions.ensures.seen in
    let log = sound_where_long text ss c.requires.long in
    let legal = subst (AllByRecursion IsLegal) (sym e) (seen_legal o.no_moments ss log.0) in
    let sound = subst IsSoundLog (sym e) (seen_sound o.no_moments ss log.0 log.1) in
    let known = c.in_ok-sessions.ensures.known in
    let answer = c.in_ok-sessions.field-0.answered.answer in
    let weaker = c.in_ok-weaker.weaker in
    let bare = c.in_ok-weaker.bare in
    let lower = c.in_ok-lower.lower in
    let lowest = c.in_ok-lower.lowest in
    let other = without_moments judged in
    let left : map view bare.items ≡ resolved other = c.in_ok-weaker.ensures.rest ∙ ap without_moments known.resolved ∙ sym (resolved_without judged) in
    let own : map view c.deref.result.now ≡ resolved other = ap (map view) c.deref.ensures.value ∙ left in
    let under = subst (λ n. IsLower o n other answer weaker.snapshot weaker.shown lower lowest) (ap first_line c.requires.version) (c.in_ok-lower.ensures.lower other (legal_without judged legal) (sound_without judged legal sound) own) in
    let totals = c.in_ok-sessions.field-0.totals in
    let order = c.in_ok-sessions.field-0.answered.order in
    let numbered = subst (λ n. IsAnswer o n judged answer) (ap first_line c.requires.version) known.answered.answer in
    let below = subst (λ n. IsWeaker o n judged answer weaker) (ap first_line c.requires.version) (c.in_ok-weaker.ensures.weaker judged legal sound known.resolved) in
    record {
      audited = record {
        sessions = ss;
        long = c.requires.long;
        told = record {
          level = o.level;
          answer = answer;
          without_moments = weaker.without_moments;
          strict_snapshot = weaker.strict_snapshot;
          snapshot = weaker.snapshot;
          shown = weaker.shown;
          lower = lower;
          lowest = lowest;
          totals = totals;
        };
        level = refl;
        answer = subst (λ l. IsAnswer o (first_line (version_of text)) l answer) e numbered;
        weaker = subst (λ l. IsWeaker o (first_line (version_of text)) l answer weaker) e below;
        lower = subst (λ l. IsLower o (first_line (version_of text)) (without_moments l) answer weaker.snapshot weaker.shown lower lowest) e under;
        totals = subst (λ l. AreTotals l totals) e known.totals;
        ends = c.in_ok-reply.ensures.ends;
        text = c.in_ok-reply.ensures.text;
        part = known.part;
        order = subst (λ l. IsOrderFile o.means.level l (order_asked answer o.order) order) e known.answered.order;
      };
    }
