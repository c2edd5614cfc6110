use Rattle.std.proofs.Common.{ℕ, ◌<◌, List, length, take, refl, subst, ◌∙◌}
use Rattle.std.specs.Io.KnownBytes.{Appends}
use Rattle.std.proofs.lemmas.Result.{err_from_is_err_and}
use Rattle.long_log_definitions.specs.LongLog.{memory}
use Rattle.census_command.proofs.command.put_census.Goals as goal

pub returns-in_err-text-clause-untold : goal.returns-in_err-text-clause-untold
returns-in_err-text-clause-untold g c =
    let e = err_from_is_err_and c.from_residual-in_err-text.result c.from_residual-in_err-text.ensures.1 in
    rw (e.1, e.2) (memory, refl)

pub returns-clause-told : goal.returns-clause-told
returns-clause-told g c =
    let old = g.W.Sink.bytes c.args.sink.now in
    let new = g.W.Sink.bytes c.write_all.new.sink in
    record {
      census = c.in_ok-census.census;
      is = c.in_ok-census.ensures.counted;
      told = subst (Appends old new) (c.deref.ensures.value ∙ c.in_ok-text.ensures.text) c.in_ok-write_all.ensures.ok;
      ends = c.status_of.ensures.status;
    }

pub returns-in_err-write_all-clause-untold : goal.returns-in_err-write_all-clause-untold
returns-in_err-write_all-clause-untold g c =
    let e = err_from_is_err_and c.from_residual-in_err-write_all.result c.from_residual-in_err-write_all.ensures.1 in
    let failed = c.in_err-write_all.field-0.0.written in
    let old = g.W.Sink.bytes c.args.sink.now in
    let new = g.W.Sink.bytes c.write_all.new.sink in
    let same = c.deref.ensures.value ∙ c.in_ok-text.ensures.text in
    rw (e.1, e.2) (record {
      census = c.in_ok-census.census;
      is = c.in_ok-census.ensures.counted;
      less = subst (λ (bytes : List ℕ). failed < length bytes) same c.in_err-write_all.ensures.err.0;
      told = subst (λ (bytes : List ℕ). Appends old new (take failed bytes)) same c.in_err-write_all.ensures.err.1;
    })
