use Rattle.proof_checks.proofs.Hints.{others_more, others_whole}
use Rattle.proof_checks.proofs.search.Search.forces.Goals as goal

pub returns : goal.returns
returns c = λ t. others_whole c.args.checker.now.clauses c.in-Some.clause.now c.args.literal c.loop-other.other-index c.args.reason c.has.result c.loop-other-test.false c.loop-other.invariant c.in-Some.ensures c.has.ensures t

pub loop-other-preserved : goal.loop-other-preserved
loop-other-preserved c = others_more c.args.checker.now.clauses c.in-Some.clause.now c.args.literal c.loop-other.other-index _ c.loop-other-test.true c.loop-other.invariant (c.is_it_or_false.ensures c.if-not-is_it_or_false.false)
