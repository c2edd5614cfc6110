use Rattle.order_laws.proofs.Satisfied.{decoded_fits, formula_decodes}
use Rattle.order_laws.proofs.laws.satisfying_order_fits.Goals as goal

pub returns : goal.returns
returns c = record { each = decoded_fits; decodes = formula_decodes }
