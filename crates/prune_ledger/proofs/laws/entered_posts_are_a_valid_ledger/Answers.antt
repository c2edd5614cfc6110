use Rattle.prune_ledger.proofs.Prelude.{[]}
use Rattle.prune_ledger.proofs.Grown.{ran, grown_opening}
use Rattle.prune_ledger.proofs.laws.entered_posts_are_a_valid_ledger.Goals as goal

pub returns : goal.returns
returns c = λ p whole start o history legal. (ran p whole [] start (grown_opening p whole start o) history legal).shown
