use Rattle.level_laws.proofs.Examples.{splits_causal}
use Rattle.level_laws.proofs.laws.splits_causal.Goals as goal

pub returns : goal.returns
returns c = splits_causal
