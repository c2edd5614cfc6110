use Rattle.std.proofs.Common.{map, sym, ap, ◌∙◌, subst}
use Rattle.std.specs.Prelude.{nat_eq}
use Rattle.std.specs.List.{IsDistinct}
use Rattle.std.proofs.lemmas.Result.{err_from_is_err_and}
use Rattle.session_log.specs.Text.{view}
use Rattle.log_definitions.specs.Unknown.{ops_in}
use Rattle.log_definitions.specs.WellFormed.{written}
use Rattle.log_definitions.proofs.Settled.{ops_resolved}
use Rattle.long_log_definitions.specs.LongLog.{memory}
use Rattle.long_log_definitions.proofs.Texts.{own_numbers}
use Rattle.split_command.proofs.command.split_text.Goals as goal

pub resolve-requires-clause-numbers : goal.resolve-requires-clause-numbers
resolve-requires-clause-numbers g c = (own_numbers c.args.log.now (map view c.in_ok-sessions.sessions.items) c.in_ok-sessions.ensures.accepted).sessions

pub resolve-requires-clause-writes : goal.resolve-requires-clause-writes
resolve-requires-clause-writes g c = (own_numbers c.args.log.now (map view c.in_ok-sessions.sessions.items) c.in_ok-sessions.ensures.accepted).writes

pub returns-in_err-sessions-2-clause-refused : goal.returns-in_err-sessions-2-clause-refused
returns-in_err-sessions-2-clause-refused g c =
    let e = err_from_is_err_and c.from_residual-in_err-sessions-2.result c.from_residual-in_err-sessions-2.ensures.1 in
    rw (e.1, e.2) memory

pub split-requires : goal.split-requires
split-requires g c =
    let ss = map view c.in_ok-sessions.sessions.items in
    let same = ap (λ l. ops_in (map view l)) c.deref.ensures.value ∙ ap ops_in c.in_ok-sessions-2.ensures.resolved ∙ ops_resolved ss in
    subst (λ ops. IsDistinct nat_eq (written ops)) (sym same) (own_numbers c.args.log.now ss c.in_ok-sessions.ensures.accepted).writes

pub returns-in_err-split-clause-refused : goal.returns-in_err-split-clause-refused
returns-in_err-split-clause-refused g c =
    let e = err_from_is_err_and c.from_residual-in_err-split.result c.from_residual-in_err-split.ensures.1 in
    rw (e.1, e.2) memory

pub returns-in_err-print_log-clause-refused : goal.returns-in_err-print_log-clause-refused
returns-in_err-print_log-clause-refused g c =
    let e = err_from_is_err_and c.from_residual-in_err-print_log.result c.from_residual-in_err-print_log.ensures.1 in
    rw (e.1, e.2) memory
