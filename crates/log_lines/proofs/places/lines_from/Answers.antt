use Rattle.std.proofs.Common.{◌+◌, refl, arith}
use Rattle.std.proofs.lemmas.Iterator.{items_from_collect, YieldsList-from_range}
use Rattle.log_lines.proofs.places.lines_from.Goals as goal

pub returns : goal.returns
returns c =
    let first = c.args.first in
    record { lines = items_from_collect c.collect.result c.collect.ensures.ran (YieldsList-from_range first (first + c.args.count) c.args.count refl (omega arith)) }
