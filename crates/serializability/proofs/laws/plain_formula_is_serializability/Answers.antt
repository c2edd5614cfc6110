use Rattle.serializability.proofs.PlainLaws.{plain_where_serial, plain_serial, plain_decodes}
use Rattle.serializability.proofs.laws.plain_formula_is_serializability.Goals as goal

pub returns : goal.returns
returns c = record { some = plain_where_serial; each = plain_serial; decodes = plain_decodes }
