use Rattle.order_cnf.proofs.Prelude.{◌+◌, ap}
use Rattle.order_cnf.proofs.Walks.{begun}
use Rattle.order_cnf.proofs.triples.Triples.new.Goals as goal

pub returns : goal.returns
returns c = record { value = begun c.args.relation.now c.args.start (c.nodes.result + 1) c.requires.within (ap (λ n. n + 1) c.nodes.ensures.count) }
