use Rattle.log_lines.proofs.Nodes.{placed_rows}
use Rattle.log_lines.proofs.laws.nodes_have_their_rows.Goals as goal

pub returns : goal.returns
returns c = λ log. placed_rows log
