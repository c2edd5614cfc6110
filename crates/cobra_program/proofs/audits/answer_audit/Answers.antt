use Rattle.std.proofs.Common.{refl}
use Rattle.cobra_program.specs.Audits.{by_answer, by_ending, unread}
use Rattle.cobra_program.proofs.audits.answer_audit.Goals as goal

pub returns-in-Err : goal.returns-in-Err
returns-in-Err g c = record {
  answered = unread c.in-Err.ending c.in-Err.ensures.unread c.tell_failure.ensures.said refl
      (record { told = c.tell_ending.ensures.told; code = c.tell_ending.ensures.status });
  once = c.read_log.ensures.once;
}

pub returns-in-Ok-audit_log : goal.returns-in-Ok-audit_log
returns-in-Ok-audit_log g c =
    let old = g.O.Sink.bytes c.args.world.now.output in
    let new = g.O.Sink.bytes c.audit_log.new.sink in
    let files = g.F.NewFiles.files c.args.files.now in
    let later = g.F.NewFiles.files c.audit_log.new.files in
    record {
      answered = by_answer c.in-Ok.log.items c.in-Ok-audit_log.status c.in-Ok.ensures.log c.in-Ok.ensures.count
          c.in-Ok-audit_log.ensures.done
          c.in-Ok-audit_log.ensures.through c.in-Ok-audit_log.ensures.count refl c.code.ensures.code;
      once = c.read_log.ensures.once;
    }

pub returns : goal.returns
returns g c =
    let old = g.O.Sink.bytes c.args.world.now.output in
    let new = g.O.Sink.bytes c.audit_log.new.sink in
    let files = g.F.NewFiles.files c.args.files.now in
    let later = g.F.NewFiles.files c.audit_log.new.files in
    record {
      answered = by_ending c.in-Ok.log.items c.in-Err-audit_log.ending c.in-Ok.ensures.log c.in-Ok.ensures.count
          c.in-Err-audit_log.ensures.ended
          c.in-Err-audit_log.ensures.count (record { told = c.tell_ending-in-Err-audit_log.ensures.told; code = c.tell_ending-in-Err-audit_log.ensures.status });
      once = c.read_log.ensures.once;
    }
