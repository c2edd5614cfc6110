use Rattle.branching.proofs.Prelude.{◌<◌, length, refl, subst, arith, List, slice_get_read, SideEdge, MarksTarget}
use Rattle.branching.proofs.Marked.{keeps_then, below_more, all_marked, none_to_mark}
use Rattle.branching.proofs.marks.mark_refuted.Goals as goal

pub returns-then-reaches-clause-marked : goal.returns-then-reaches-clause-marked
returns-then-reaches-clause-marked c = λ graph is. none_to_mark graph c.args.u c.args.v c.args.incoming.now c.args.marks.now ((c.if-reaches.ensures.reach graph is).0 refl)

pub loop-number-preserved : goal.loop-number-preserved
loop-number-preserved c =
    let k = c.loop-number.number in
    let within : k < length c.args.incoming.now = omega (arith, c.loop-number-test.true, c.requires.lists, c.nodes-number-end.ensures.count) in
    let edges = c.args.rows.now.edges in
    let marked = subst (λ n. MarksTarget edges n c.args.u c.args.v c.deref.result.now c.mark_target.new.marks) c.node.ensures.value c.mark_target.ensures.marked in
    record {
      keeps = keeps_then c.args.marks.now c.loop-number.marks c.mark_target.new.marks c.loop-number.invariant.keeps c.mark_target.ensures.keeps;
      marked = below_more edges c.args.u c.args.v c.args.incoming.now k c.index-incoming-number.result c.loop-number.marks c.mark_target.new.marks
          (slice_get_read c.args.incoming.now (length c.args.incoming.now) k c.index-incoming-number.result refl within c.index-incoming-number.is)
          c.loop-number.invariant.marked c.mark_target.ensures.keeps
          (subst (λ (l : List SideEdge). MarksTarget edges k c.args.u c.args.v l c.mark_target.new.marks) c.deref.ensures.value marked);
    }

pub returns-clause-marked : goal.returns-clause-marked
returns-clause-marked c = λ graph is.
    all_marked c.args.rows.now graph c.args.u c.args.v c.args.incoming.now c.loop-number.number c.loop-number.marks is
    (omega (arith, c.loop-number-test.false, c.requires.lists, c.nodes-number-end.ensures.count)) c.loop-number.invariant.marked
