use Rattle.std.proofs.Common.{◌≡◌, ◌∷◌, map, sym, subst}
use Rattle.std.specs.Prelude.{IfOk}
use Rattle.session_log.specs.Text.{view}
use Rattle.serializability.proofs.Places.{Apart-from_IsDistinct}
use Rattle.serializability.proofs.Listed.{IsDistinct-from_Apart}
use Rattle.log_definitions.specs.Unknown.{ops_in, resolved}
use Rattle.log_definitions.specs.WellFormed.{written}
use Rattle.log_laws.specs.Logs.{IsLog}
use Rattle.log_laws.proofs.Resolved.{resolved_is_log}
use Rattle.judging_tests.proofs.judged_logs.known_log.Goals as goal

pub resolve-requires-clause-writes : goal.resolve-requires-clause-writes
resolve-requires-clause-writes g c =
    let ops = written (ops_in (map view c.read_log-sessions.result.items)) in
    IsDistinct-from_Apart ops (Apart-from_IsDistinct (0 ∷ ops) c.read_log-sessions.ensures.sound.writes).1

pub returns : goal.returns
returns g c =
    let ss = map view c.read_log-sessions.result.items in
    let same = subst (λ r. IfOk r (λ known. map view known.items ≡ resolved ss)) c.expect.ensures c.resolve.ensures.resolved in
    record { log = subst IsLog (sym same) (resolved_is_log ss c.read_log-sessions.ensures.legal c.read_log-sessions.ensures.sound) }
