use Rattle.proof_checks.proofs.Prelude.{numbers_at, proof_of}
use Rattle.proof_checks.proofs.Places.{numbers_step, numbers_stop, numbers_end, map_onto_none}
use Rattle.proof_checks.proofs.lrat.resolve.Goals as goal

pub loop-id-init : goal.loop-id-init
loop-id-init c = map_onto_none (numbers_at (proof_of c.args.checker.now c.args.added.now) c.args.ids.now) c.clear.new.self.items c.clear.ensures.items

pub loop-id-preserved : goal.loop-id-preserved
loop-id-preserved c = numbers_step (proof_of c.args.checker.now c.args.added.now) c.loop-id.numbers.items c.push.new.self.items c.args.ids.now c.loop-id.id-index _ c.in-Some.number c.loop-id-test.true c.loop-id.invariant c.in-Some.ensures c.in_ok-push-in-Some.ensures.items

pub returns-in-None : goal.returns-in-None
returns-in-None c = numbers_stop (proof_of c.args.checker.now c.args.added.now) c.loop-id.numbers.items c.args.ids.now c.loop-id.id-index _ c.loop-id-test.true c.loop-id.invariant c.in-None.ensures

pub returns : goal.returns
returns c = numbers_end (proof_of c.args.checker.now c.args.added.now) c.loop-id.numbers.items c.args.ids.now c.loop-id.id-index c.loop-id-test.false c.loop-id.invariant
