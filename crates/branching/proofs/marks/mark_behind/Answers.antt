use Rattle.branching.proofs.Marked.{keeps_then, behind_more}
use Rattle.branching.proofs.marks.mark_behind.Goals as goal

pub loop-entry-preserved : goal.loop-entry-preserved
loop-entry-preserved c = record {
  keeps = keeps_then c.args.marks.now c.loop-entry.marks c.mark_source.new.marks c.loop-entry.invariant.keeps c.mark_source.ensures.keeps;
  marked = behind_more c.args.rows.now.edges c.args.v c.args.list.now c.loop-entry.marks c.mark_source.new.marks c.loop-entry.entry-index c.entry-item.result c.loop-entry-test.true c.entry-item.is
      c.loop-entry.invariant.marked c.mark_source.ensures.keeps c.mark_source.ensures.marked;
}
