use Rattle.chain_laws.proofs.Coalesced.{chains_fit, bipaths_fit}
use Rattle.chain_laws.proofs.laws.fits_chains_exactly_when_bipaths.Goals as goal

pub returns : goal.returns
returns c = λ log clean order. (chains_fit log clean order, bipaths_fit log clean order)
