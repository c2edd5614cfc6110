use Rattle.level_laws.proofs.Ladder.{atomic_where_causal}
use Rattle.level_laws.proofs.laws.atomic_where_causal.Goals as goal

pub returns : goal.returns
returns c = atomic_where_causal
