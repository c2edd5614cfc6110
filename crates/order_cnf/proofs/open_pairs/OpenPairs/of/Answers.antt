use Rattle.order_cnf.proofs.open_pairs.OpenPairs.of.Goals as goal

pub set_open-requires-clause-none : goal.set_open-requires-clause-none
set_open-requires-clause-none c e = (c.in_ok-by_first.ensures.edges e, c.in_ok-by_second.ensures.edges e)
