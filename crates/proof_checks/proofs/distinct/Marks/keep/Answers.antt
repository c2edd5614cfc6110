use Rattle.proof_checks.proofs.Once.{kept_more, none_kept}
use Rattle.proof_checks.proofs.distinct.Marks.keep.Goals as goal

pub loop-literal-preserved : goal.loop-literal-preserved
loop-literal-preserved c = record {
  kept = kept_more c.loop-literal.kept.items c.keep_one.new.kept.items c.args.literals.now c.loop-literal.literal-index _ c.loop-literal-test.true c.loop-literal.invariant.kept c.in_ok-keep_one.ensures.kept;
  marks = c.in_ok-keep_one.ensures.marked;
}

pub loop-literal-init : goal.loop-literal-init
loop-literal-init c = record {
  kept = none_kept c.clear-2.new.self.items c.args.literals.now c.clear-2.ensures.items;
  marks = rw c.clear-2.ensures.items c.clear.ensures;
}
