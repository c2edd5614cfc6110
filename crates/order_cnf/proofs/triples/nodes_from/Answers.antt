use Rattle.order_cnf.proofs.WordBits.{all_from, some_from}
use Rattle.order_cnf.proofs.triples.nodes_from.Goals as goal

pub returns-then-from-place : goal.returns-then-from-place
returns-then-from-place c = record { word = all_from c.args.from c.args.place c.if-from-place.true }

pub returns-else-from-place : goal.returns-else-from-place
returns-else-from-place c = record { word = some_from c.args.from c.args.place c.if-from-place.false c.requires.behind }
