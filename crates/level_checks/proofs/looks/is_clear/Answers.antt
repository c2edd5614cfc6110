use Rattle.level_checks.proofs.Rows.{none_walked}
use Rattle.level_checks.proofs.looks.is_clear.Goals as goal

pub returns-then-none_between : goal.returns-then-none_between
returns-then-none_between c t noted marked of bound xs chain = none_walked of c.args.row.now c.args.marks.now c.args.mark c.args.look.source c.args.front.now xs (c.none_between.ensures c.if-none_between.true of bound xs chain) marked
