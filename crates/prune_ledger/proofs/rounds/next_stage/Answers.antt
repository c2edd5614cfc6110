use Rattle.prune_ledger.proofs.Prelude.{refl, false≢true}
use Rattle.prune_ledger.proofs.rounds.next_stage.Goals as goal

pub with_cycle-requires-clause-cyclic : goal.with_cycle-requires-clause-cyclic
with_cycle-requires-clause-cyclic g c = (c.if-has_cycle.ensures.cycle c.args.progress.own c.rows.ensures.rows).0 refl

pub one_round-requires-clause-acyclic : goal.one_round-requires-clause-acyclic
one_round-requires-clause-acyclic g c = λ _ _ cycle. false≢true ((c.if-has_cycle.ensures.cycle c.args.progress.own c.rows.ensures.rows).1 cycle)
