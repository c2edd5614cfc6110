use Rattle.std.proofs.Common.{◌∙◌, ap, sym}
use Rattle.std.specs.Prelude.{slice_set}
use Rattle.std.proofs.lemmas.List.Edits.{map_over_more}
use Rattle.gather.specs.Steps.{released}
use Rattle.gather.proofs.machine.release_all.Goals as goal

pub loop-mark-preserved : goal.loop-mark-preserved
loop-mark-preserved c =
    let l = c.loop-mark in let m = c.mark-item in
    ap (slice_set l.marks l.mark-index) (c.released.ensures ∙ ap (released c.args.seat) (sym m.is))
    ∙ map_over_more (released c.args.seat) c.args.marks.now l.marks l.mark-index m.result c.loop-mark-test.true l.invariant m.is
