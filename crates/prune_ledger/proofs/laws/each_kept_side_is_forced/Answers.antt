use Rattle.prune_ledger.proofs.Prelude.{[]}
use Rattle.prune_ledger.proofs.Grown.{each_forced, grown_opening}
use Rattle.prune_ledger.proofs.laws.each_kept_side_is_forced.Goals as goal

pub returns : goal.returns
returns c = λ p whole sides f start o history legal. each_forced p whole sides f [] start (grown_opening p whole start o) history legal
