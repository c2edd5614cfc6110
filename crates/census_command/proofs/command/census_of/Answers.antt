use Rattle.std.proofs.Common.{map}
use Rattle.std.proofs.lemmas.Result.{err_from_is_err_and}
use Rattle.session_log.specs.Text.{view}
use Rattle.long_log_definitions.specs.LongLog.{memory}
use Rattle.long_log_definitions.proofs.Texts.{own_numbers}
use Rattle.census_command.proofs.command.census_of.Goals as goal

pub resolve-requires-clause-numbers : goal.resolve-requires-clause-numbers
resolve-requires-clause-numbers g c = (own_numbers c.args.log.now (map view c.in_ok-sessions.sessions.items) c.in_ok-sessions.ensures.accepted).sessions

pub resolve-requires-clause-writes : goal.resolve-requires-clause-writes
resolve-requires-clause-writes g c = (own_numbers c.args.log.now (map view c.in_ok-sessions.sessions.items) c.in_ok-sessions.ensures.accepted).writes

pub returns-in_err-sessions-2-clause-refused : goal.returns-in_err-sessions-2-clause-refused
returns-in_err-sessions-2-clause-refused g c =
    let e = err_from_is_err_and c.from_residual-in_err-sessions-2.result c.from_residual-in_err-sessions-2.ensures.1 in
    rw (e.1, e.2) memory

pub returns-in_err-census-clause-refused : goal.returns-in_err-census-clause-refused
returns-in_err-census-clause-refused g c =
    let e = err_from_is_err_and c.from_residual-in_err-census.result c.from_residual-in_err-census.ensures.1 in
    rw (e.1, e.2) memory
