use Rattle.prune_ledger.proofs.Prelude.{◌∙◌}
use Rattle.prune_ledger.proofs.Turns.{handled_turn}
use Rattle.prune_ledger.proofs.KeptUp.{extends_then}
use Rattle.prune_ledger.proofs.round.turns.Goals as goal

pub returns-then-not-branch-clause-handled : goal.returns-then-not-branch-clause-handled
returns-then-not-branch-clause-handled g c = handled_turn _ _ _ _ _ c.loop-number.invariant.handled c.in_ok-turn.ensures.turned

pub loop-number-preserved : goal.loop-number-preserved
loop-number-preserved g c = record {
  number = c.in_ok-turn.ensures.number ∙ c.loop-number.invariant.number;
  handled = handled_turn _ _ _ _ _ c.loop-number.invariant.handled c.in_ok-turn.ensures.turned;
  more = extends_then c.args.task.now.start.now c.loop-number.own c.turn.new.own c.loop-number.invariant.more c.in_ok-turn.ensures.more;
  each = c.turn.ensures.each c.args.task.now.start.now c.loop-number.invariant.more c.loop-number.invariant.each;
}

pub returns-in_err-turn-clause-each : goal.returns-in_err-turn-clause-each
returns-in_err-turn-clause-each g c = c.turn.ensures.each c.args.task.now.start.now c.loop-number.invariant.more c.loop-number.invariant.each

pub returns-then-not-branch-clause-each : goal.returns-then-not-branch-clause-each
returns-then-not-branch-clause-each g c = c.turn.ensures.each c.args.task.now.start.now c.loop-number.invariant.more c.loop-number.invariant.each
