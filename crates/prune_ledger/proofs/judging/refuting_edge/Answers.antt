use Rattle.prune_ledger.proofs.Prelude.{refl, take_all}
use Rattle.prune_ledger.proofs.Turns.{not_refuted_by, refutes_by}
use Rattle.prune_ledger.proofs.judging.refuting_edge.Goals as goal

pub returns-then-reaches : goal.returns-then-reaches
returns-then-reaches c = λ graph is. refutes_by graph c.args.side.now c.loop-edge.edge-index c.edge-item.result c.target.result c.source.result c.loop-edge-test.true c.edge-item.is c.target.ensures c.source.ensures ((c.if-reaches.ensures.reach graph is).0 refl)

pub returns : goal.returns
returns c = λ graph is. not_refuted_by c.args.rows.now graph c.args.side.now is (let t = c.loop-edge-test.false in rw (take_all) at c.loop-edge.invariant)
