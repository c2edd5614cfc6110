use Rattle.cobra_calls.proofs.Prelude.{refl, by_answer, by_ending}
use Rattle.cobra_calls.proofs.answering.answer.Goals as goal

pub returns-in-Ok : goal.returns-in-Ok
returns-in-Ok g c = record { answered = by_answer c.in-Ok.status c.in-Ok.ensures.answer c.in-Ok.ensures.through c.in-Ok.ensures.reads c.in-Ok.ensures.count refl c.code.ensures.code; once = c.run.ensures.once }

pub returns-in-Err : goal.returns-in-Err
returns-in-Err g c = record { answered = by_ending c.in-Err.ending c.in-Err.ensures.ending c.in-Err.ensures.count c.tell_ending.ensures.told c.tell_ending.ensures.status; once = c.run.ensures.once }
