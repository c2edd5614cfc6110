use Rattle.headline.proofs.Answered.{answer_where_some, answer_serial, answer_decodes}
use Rattle.headline.proofs.laws.plain_answer_is_serializability.Goals as goal

pub returns : goal.returns
returns c = record { some = answer_where_some; each = answer_serial; decodes = answer_decodes }
