use Rattle.reach_rows.proofs.Prelude.{arith, row_len_small}
use Rattle.reach_rows.proofs.parts.work_of.Goals as goal

pub overflow_add-work : goal.overflow_add-work
overflow_add-work c = omega (arith, c.row_words-word-items.ensures.len, row_len_small c.args.known.now.nodes c.nodes-invariant.ensures.graph.few)

pub returns : goal.returns
returns c = record { few = omega (arith, c.row_words-word-items.ensures.len, row_len_small c.args.known.now.nodes c.nodes-invariant.ensures.graph.few) }
