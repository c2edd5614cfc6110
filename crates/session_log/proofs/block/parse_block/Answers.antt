use Rattle.session_log.proofs.Prelude.{arith, ◌-◌, drop, length-take}
use Rattle.session_log.proofs.Lying.{lies}
use Rattle.session_log.proofs.block.parse_block.Goals as goal

pub slice_bounds-parse_lines-count : goal.slice_bounds-parse_lines-count
slice_bounds-parse_lines-count c = let l = lies c.args.log.now c.args.block.now c.requires in omega (arith, l.start)

pub slice_bounds-parse_lines-start : goal.slice_bounds-parse_lines-start
slice_bounds-parse_lines-start c = let l = lies c.args.log.now c.args.block.now c.requires in omega (arith, l.start)

pub slice_bounds-parse_lines-end : goal.slice_bounds-parse_lines-end
slice_bounds-parse_lines-end c = let l = lies c.args.log.now c.args.block.now c.requires in omega (arith, l.stop)

pub parse_lines-requires-clause-block : goal.parse_lines-requires-clause-block
parse_lines-requires-clause-block c = (lies c.args.log.now c.args.block.now c.requires).block

pub parse_lines-requires-clause-room : goal.parse_lines-requires-clause-room
parse_lines-requires-clause-room c = let l = lies c.args.log.now c.args.block.now c.requires in omega (arith, l.line, l.start, l.stop, length-take (c.args.block.now.stop - c.args.block.now.start) (drop c.args.block.now.start c.args.log.now))
