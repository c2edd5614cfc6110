use Rattle.audit_command.proofs.Prelude.{inl, first_line}
use Rattle.audit_command.proofs.telling.serial_answer.Goals as goal

pub returns-then-committed-options : goal.returns-then-committed-options
returns-then-committed-options c = record { answered = λ ss same order few. c.too_few.ensures.answered (first_line c.args.log.now.version) ss few (inl order.has) }
