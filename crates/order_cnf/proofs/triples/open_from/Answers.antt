use Rattle.order_cnf.proofs.Cycles.{from_word}
use Rattle.order_cnf.proofs.triples.open_from.Goals as goal

pub returns : goal.returns
returns c = record {
  word = from_word c.args.relation.now c.args.u c.args.v c.args.from c.args.place c.open_cycles.result c.nodes_from.result c.open_cycles.ensures.word c.nodes_from.ensures.word;
}
