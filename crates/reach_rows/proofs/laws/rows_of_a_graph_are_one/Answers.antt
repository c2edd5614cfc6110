use Rattle.reach_rows.proofs.Same.{rows_are_one}
use Rattle.reach_rows.proofs.laws.rows_of_a_graph_are_one.Goals as goal

pub returns : goal.returns
returns c = rows_are_one
