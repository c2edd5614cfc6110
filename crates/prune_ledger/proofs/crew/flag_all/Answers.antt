use Rattle.prune_ledger.proofs.Prelude.{take_all}
use Rattle.prune_ledger.proofs.Flags.{flagged_more, flagged_contains}
use Rattle.prune_ledger.proofs.crew.flag_all.Goals as goal

pub loop-choice-preserved : goal.loop-choice-preserved
loop-choice-preserved c =
    flagged_more c.args.flags.now c.loop-choice.flags c.flag.new.flags c.args.passed.now c.loop-choice.choice-index c.choice-item.result c.loop-choice-test.true c.choice-item.is c.loop-choice.invariant c.flag.ensures.flags c.flag.ensures.len

pub returns-clause-flags : goal.returns-clause-flags
returns-clause-flags c = flagged_contains c.args.flags.now c.loop-choice.flags c.args.passed.now (let t = c.loop-choice-test.false in rw (take_all) at c.loop-choice.invariant)
