use Rattle.prune_ledger.proofs.Prelude.{sym, ◌∙◌, false, arith}
use Rattle.prune_ledger.proofs.Flags.{given_none, given_step, given_all}
use Rattle.prune_ledger.proofs.machine.give_back.Goals as goal

pub loop-k-init : goal.loop-k-init
loop-k-init c = sym (given_none c.args.marks.now)

pub loop-k-preserved : goal.loop-k-preserved
loop-k-preserved c = given_step c.loop-k.k c.args.marks.now c.loop-k.marks c.given.result (record { one = false; two = false; handed = false }) c.loop-k.invariant (let t = c.loop-k-test.true in let a = c.loop-k.auto.marks in omega (arith, t, a)) c.given.ensures

pub returns : goal.returns
returns c = c.loop-k.invariant ∙ given_all c.loop-k.k c.args.marks.now c.loop-k-test.false
