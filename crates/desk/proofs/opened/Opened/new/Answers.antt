use Rattle.desk.proofs.Prelude.{sym, ◌∙◌}
use Rattle.desk.proofs.Seating.{length-names_of}
use Rattle.desk.proofs.opened.Opened.new.Goals as goal

pub returns-clause-seats : goal.returns-clause-seats
returns-clause-seats g c = let h = c.in_ok-rows.ensures in length-names_of c.in_ok-rows.rows.items ∙ sym c.in_ok-rows.rows.ok.0 ∙ h.1
