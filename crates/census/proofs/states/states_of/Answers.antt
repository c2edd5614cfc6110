use Rattle.census.proofs.Prelude.{ap, ◌∙◌, take_all, state_of, state_in}
use Rattle.census.proofs.Along.{one_more}
use Rattle.census.proofs.states.states_of.Goals as goal

pub loop-op-preserved : goal.loop-op-preserved
loop-op-preserved c = λ k.
    one_more k c.args.ops.now c.loop-op.op-index c.op-item.result (state_of c.loop-op.states k) (state_of c.take.new.self k)
    c.loop-op-test.true c.op-item.is (c.loop-op.invariant k) (c.in_ok-take.ensures k)

pub returns : goal.returns
returns c = record {
  each = λ k. c.loop-op.invariant k ∙ ap (state_in k) (take_all c.loop-op.op-index c.args.ops.now c.loop-op-test.false);
}
