use Rattle.level_checks.proofs.Rows.{noted_more}
use Rattle.level_checks.proofs.noted.Noted.add.Goals as goal

pub returns-in_ok-insert-2 : goal.returns-in_ok-insert-2
returns-in_ok-insert-2 c entries kept is =
    noted_more entries c.args.self.now.spots c.insert.new.self c.args.passed.now c.in_ok-insert.ensures.updates.0 c.in_ok-insert.ensures.updates.1 (kept is)
