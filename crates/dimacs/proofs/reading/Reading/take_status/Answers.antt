use Rattle.dimacs.proofs.Prelude.{refl, ◌∙◌, sym}
use Rattle.dimacs.proofs.Items.{takes_broken, takes_second_status, takes_status}
use Rattle.dimacs.proofs.reading.Reading.take_status.Goals as goal

pub returns-in_default : goal.returns-in_default
returns-in_default c = λ vars before known.
    rw c.in_default.ensures (takes_broken vars before _ _)

pub returns-then-is_some : goal.returns-then-is_some
returns-then-is_some c = λ vars before known.
    rw c.in-Some.ensures (takes_second_status vars before _ _ _ _ known (sym c.is_some.ensures ∙ c.if-is_some.true))

pub returns : goal.returns
returns c = λ vars before known.
    rw c.in-Some.ensures (takes_status vars before _ _ _ _ known (sym c.is_some.ensures ∙ c.if-is_some.false) refl refl refl refl)
