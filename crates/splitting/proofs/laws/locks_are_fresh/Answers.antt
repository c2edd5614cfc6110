use Rattle.splitting.proofs.Fresh.{locks_are_fresh}
use Rattle.splitting.proofs.laws.locks_are_fresh.Goals as goal

pub returns : goal.returns
returns c = locks_are_fresh
