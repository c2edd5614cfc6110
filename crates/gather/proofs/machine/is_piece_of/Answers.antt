use Rattle.std.proofs.Common.{arith}
use Rattle.session_log.proofs.Lying.{lies}
use Rattle.gather.proofs.machine.is_piece_of.Goals as goal

pub slice_bounds-eq-count : goal.slice_bounds-eq-count
slice_bounds-eq-count c = let l = lies c.args.log.now c.args.block.now c.requires in omega (arith, l.start)

pub slice_bounds-eq-start : goal.slice_bounds-eq-start
slice_bounds-eq-start c = let l = lies c.args.log.now c.args.block.now c.requires in omega (arith, l.start)

pub slice_bounds-eq-end : goal.slice_bounds-eq-end
slice_bounds-eq-end c = let l = lies c.args.log.now c.args.block.now c.requires in omega (arith, l.stop)
