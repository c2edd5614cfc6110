use Rattle.prune_ledger.proofs.Grown.{opens}
use Rattle.prune_ledger.proofs.laws.opening_state_is_opening.Goals as goal

pub returns : goal.returns
returns c = opens
