use Rattle.audit_command.proofs.Prelude.{inr, first_line}
use Rattle.audit_command.proofs.telling.open_answer.Goals as goal

pub returns-then-committed-options : goal.returns-then-committed-options
returns-then-committed-options c = record { answered = λ ss undecided few. c.too_few.ensures.answered (first_line c.args.log.now.version) ss few (inr (c.args.why, c.args.tried, undecided)) }
