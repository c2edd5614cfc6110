use Rattle.known_graph.proofs.Prelude.{refl, row_len}
use Rattle.known_graph.proofs.bits.row_len.Goals as goal

pub returns-clause-value : goal.returns-clause-value
unfolding row_len
returns-clause-value c = refl
