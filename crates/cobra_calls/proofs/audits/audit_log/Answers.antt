use Rattle.cobra_calls.proofs.Prelude.{◌≡◌, ℕ, List, Option, refl, sym, subst, inl, inr, ◌∙◌, Disk, Request, Ending, log_name, Asks, IsRefusalTold, IsAuditEnding, by_memory, err_from_is_err_and, TellsFront, IsHandedOn, twice_line, by_names}
use Rattle.cobra_calls.proofs.Prelude.{cut_refusal, cut_report, cut_files, IsUnusableLine}
use Rattle.std.specs.declared.time.Instant.{Instant}
use Rattle.audit_command.specs.declared.options.AuditOptions.{AuditOptions}
use Rattle.audit_command.specs.declared.outcome.Refusal.{Refusal}
use Rattle.audit_command.specs.declared.outcome.Refusal.TheVariants as refusal
use Rattle.cobra_words.specs.declared.request.AuditWords.{AuditWords}
use Rattle.audit_command.specs.Audited.{IsRefused}
use Rattle.cobra_calls.specs.Audits.{by_log}
use Rattle.cobra_calls.proofs.Failures.{by_line}
use Rattle.cobra_calls.proofs.audits.audit_log.Goals as goal

pub returns-in_err-refuse_same_files-clause-ended : goal.returns-in_err-refuse_same_files-clause-ended
returns-in_err-refuse_same_files-clause-ended g c =
    let p = err_from_is_err_and c.from_residual-in_err-refuse_same_files.result c.from_residual-in_err-refuse_same_files.ensures.1 in
    rw (p.1, p.2) (by_names c.in_err-refuse_same_files.ensures.refused refl refl)

pub returns-in_err-refuse_same_files-clause-count : goal.returns-in_err-refuse_same_files-clause-count
returns-in_err-refuse_same_files-clause-count g c =
    let p = err_from_is_err_and c.from_residual-in_err-refuse_same_files.result c.from_residual-in_err-refuse_same_files.ensures.1 in
    let named = c.in_err-refuse_same_files.ensures.refused in
    rw (p.1, p.2) (sym (by_line (λ l. l ≡ twice_line named.name) 2 (g.W.Sink.failures c.args.sink.now) _ named.told))

pub returns-in_err-put_files-in-Ok-clause-count : goal.returns-in_err-put_files-in-Ok-clause-count
returns-in_err-put_files-in-Ok-clause-count g c =
    let p = err_from_is_err_and c.from_residual-in_err-put_files-in-Ok.result c.from_residual-in_err-put_files-in-Ok.ensures.1 in
    let cut = c.in_err-put_files-in-Ok.ensures.unwritten in
    rw (p.1, p.2) (c.in_ok-hand_on-in-Ok.ensures.count ∙ sym (by_line (IsUnusableLine cut.failed.0) 5 (g.W.Sink.failures c.args.sink.now) _ cut.told))

pub returns-in_err-hand_on-in-Ok-clause-ended : goal.returns-in_err-hand_on-in-Ok-clause-ended
returns-in_err-hand_on-in-Ok-clause-ended g c =
    let p = err_from_is_err_and c.from_residual-in_err-hand_on-in-Ok.result c.from_residual-in_err-hand_on-in-Ok.ensures.1 in
    let old = g.W.Sink.bytes c.args.sink.now in
    let new = g.W.Sink.bytes c.hand_on.new.sink in
    rw (p.1, p.2) (cut_report c.in-Ok.audited
    (record { options = c.options_of-options.result; asks = record { options = c.options_of-options.ensures.options; apart = c.in_ok-refuse_same_files.ensures.apart }; audited = c.in-Ok.ensures.audited })
    (subst (TellsFront old new) c.deref-in-Ok.ensures.value c.in_err-hand_on-in-Ok.ensures.cut) c.in_err-hand_on-in-Ok.ensures.output refl)

pub returns-in_err-put_files-in-Ok-clause-ended : goal.returns-in_err-put_files-in-Ok-clause-ended
returns-in_err-put_files-in-Ok-clause-ended g c =
    let p = err_from_is_err_and c.from_residual-in_err-put_files-in-Ok.result c.from_residual-in_err-put_files-in-Ok.ensures.1 in
    let old = g.W.Sink.bytes c.args.sink.now in
    let new = g.W.Sink.bytes c.hand_on.new.sink in
    rw (p.1, p.2) (cut_files c.in-Ok.audited
    (record { options = c.options_of-options.result; asks = record { options = c.options_of-options.ensures.options; apart = c.in_ok-refuse_same_files.ensures.apart }; audited = c.in-Ok.ensures.audited })
    (subst (IsHandedOn old new) c.deref-in-Ok.ensures.value c.in_ok-hand_on-in-Ok.ensures.told) c.in_err-put_files-in-Ok.ensures.unwritten)

pub returns-in-Ok-clause-done : goal.returns-in-Ok-clause-done
returns-in-Ok-clause-done g c =
    let old = g.W.Sink.bytes c.args.sink.now in
    let new = g.W.Sink.bytes c.hand_on.new.sink in
    record {
      finding = c.in-Ok.audited;
      finds = record { options = c.options_of-options.result; asks = record { options = c.options_of-options.ensures.options; apart = c.in_ok-refuse_same_files.ensures.apart }; audited = c.in-Ok.ensures.audited };
      told = subst (IsHandedOn old new) c.deref-in-Ok.ensures.value c.in_ok-hand_on-in-Ok.ensures.told;
      written = c.in_ok-put_files-in-Ok.ensures.put;
      ends = refl;
    }

refused_so : (r : Request) (w : AuditWords) (start : Option Instant) (log : List ℕ) (old new : Option (List ℕ)) (files : Disk) (o : AuditOptions) (why : Refusal) (e : Ending) → Asks r w start o → IsRefused o log why → IsRefusalTold (log_name r) why old new e → IsAuditEnding r w start log old new files files e
refused_so r w start log old new files o refusal.Memory e asks h told = by_memory told.0 told.1 refl
refused_so r w start log old new files o (refusal.Log f text) e asks h (inl told) =
    by_log f text.items (record { options = o; asks = asks; fault = h.0; other = h.1; says = h.2 }) told.0 told.1 refl
refused_so r w start log old new files o (refusal.Log f text) e asks h (inr told) =
    cut_refusal f text.items (record { options = o; asks = asks; fault = h.0; other = h.1; says = h.2 }) told.0 told.1 refl

pub returns-clause-ended : goal.returns-clause-ended
returns-clause-ended g c =
    let old = g.W.Sink.bytes c.args.sink.now in
    let new = g.W.Sink.bytes c.refuse.new.sink in
    let told = subst (λ name. IsRefusalTold name c.in-Err.refusal old new c.refuse.result) c.log_name.ensures.name c.refuse.ensures.told in
    refused_so c.args.request.now c.args.words.now c.args.start c.args.log.now.items old new (g.F.NewFiles.files c.args.files.now) c.options_of-options.result c.in-Err.refusal c.refuse.result
    (record { options = c.options_of-options.ensures.options; apart = c.in_ok-refuse_same_files.ensures.apart }) c.in-Err.ensures.refused told
