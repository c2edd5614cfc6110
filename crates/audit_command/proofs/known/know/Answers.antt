use Rattle.audit_command.proofs.Prelude.{◌≡◌, length, map, ap, ◌∙◌, subst, arith, view, txns_in, IsResolved}
use Rattle.serializability.proofs.Places.{length_mapped}
use Rattle.session_history.specs.Counted.{IsTally}
use Rattle.audit_command.proofs.Resolved.{log_of_known, verdict_part}
use Rattle.audit_command.proofs.known.know.Goals as goal

pub answer_of-requires-clause-log : goal.answer_of-requires-clause-log
answer_of-requires-clause-log g c κs within =
    let known = map view c.deref-2.result.now in
    let k : IsResolved known = record {
      ss = map view c.args.sessions.items;
      legal = c.requires.legal;
      sound = c.requires.sound;
      is = ap (map view) c.deref-2.ensures.value ∙ c.in_ok-sessions.ensures.resolved;
    } in
    log_of_known known k

pub answer_of-requires-clause-told : goal.answer_of-requires-clause-told
answer_of-requires-clause-told g c κs within =
    let known = map view c.deref-2.result.now in
    let k : IsResolved known = record {
      ss = map view c.args.sessions.items;
      legal = c.requires.legal;
      sound = c.requires.sound;
      is = ap (map view) c.deref-2.ensures.value ∙ c.in_ok-sessions.ensures.resolved;
    } in
    verdict_part c.args.options.now.means known k c.in_ok-sessions.field-0.verdict c.in_ok-sessions.ensures.verdict c.in_ok-sessions.ensures.made

pub returns : goal.returns
returns g c =
    let ss = map view c.args.sessions.items in
    let tally : IsTally (txns_in ss) c.of-tally.result = subst (λ l. IsTally (txns_in (map view l)) c.of-tally.result) c.deref.ensures.value c.of-tally.ensures in
    let count : c.len-count.result ≡ length ss = omega (arith, c.len-count.ensures, c.args.sessions.ok.0, length_mapped view c.args.sessions.items) in
    let counts = c.in_ok-counts.ensures.counts ss tally count c.in_ok-sessions.ensures.keys in
    let judged = ap (map view) c.deref-2.ensures.value ∙ c.in_ok-sessions.ensures.resolved in
    let known = ap (map view) c.deref-3.ensures.value ∙ c.in_ok-sessions.ensures.resolved in
    record {
      known = record {
        resolved = c.in_ok-sessions.ensures.resolved;
        answered = c.in_ok-answered.ensures.answered ss c.requires.legal c.requires.sound judged c.in_ok-sessions.ensures.verdict c.in_ok-sessions.ensures.made counts.committed;
        totals = c.in_ok-totals.ensures.totals ss counts known;
        part = c.in_ok-part.ensures.file;
      };
    }
