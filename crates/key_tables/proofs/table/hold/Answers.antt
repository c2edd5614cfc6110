use Rattle.key_tables.proofs.Marked.{updated}
use Rattle.key_tables.proofs.table.hold.Goals as goal

pub returns-clause-held : goal.returns-clause-held
returns-clause-held c = updated c.args.table.now c.insert.new.self c.args.key.now c.mark_of.result c.args.value c.mark_of.ensures.mark c.in_ok-insert.ensures.updates
