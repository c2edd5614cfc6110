use Rattle.std.proofs.Common.{map, subst}
use Rattle.std.specs.Prelude.{IfOk}
use Rattle.session_log.specs.Text.{view}
use Rattle.long_log_definitions.specs.LongLog.{IsLongLog}
use Rattle.long_log_definitions.proofs.Texts.{sound_where_long}
use Rattle.judging_tests.proofs.judged_logs.read_log.Goals as goal

pub returns-clause-sound : goal.returns-clause-sound
returns-clause-sound g c =
    let text = c.as_bytes.result.now in
    let long = subst (λ r. IfOk r (λ read. IsLongLog text (map view read.1.items))) c.expect-sessions.ensures c.read_long_log.ensures.accepted in
    (sound_where_long text (map view c.expect-sessions.result.1.items) long).1
