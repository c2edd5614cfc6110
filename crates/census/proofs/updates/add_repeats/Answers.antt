use Rattle.census.proofs.Prelude.{◌||◌, List, ap, ◌∙◌, list_any, take_all, Op, has_version, at_read, updates_in}
use Rattle.census.proofs.Truth.{grown, or_none}
use Rattle.census.proofs.updates.add_repeats.Goals as goal

pub loop-op-init : goal.loop-op-init
loop-op-init c = λ k w. or_none (has_version c.args.versions.now k w)

pub loop-op-preserved : goal.loop-op-preserved
loop-op-preserved c = λ k w.
    grown (at_read (updates_in c.args.before.now c.args.states.now) k w) c.args.ops.now c.loop-op.op-index c.op-item.result
    (has_version c.args.versions.now k w) (has_version c.loop-op.versions k w) (has_version c.add_repeat.new.versions k w)
    c.loop-op-test.true c.op-item.is (c.loop-op.invariant k w) (c.in_ok-add_repeat.ensures k w)

pub returns : goal.returns
returns c = λ k w.
    c.loop-op.invariant k w
    ∙ ap (λ (l : List Op). has_version c.args.versions.now k w || list_any (at_read (updates_in c.args.before.now c.args.states.now) k w) l) (take_all c.loop-op.op-index c.args.ops.now c.loop-op-test.false)
