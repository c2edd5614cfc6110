use Rattle.dimacs.proofs.Prelude.{refl, arith, ◌∙◌, sym}
use Rattle.dimacs.proofs.Items.{takes_out_of_range, takes_both_signs, takes_literal, knows_vars}
use Rattle.dimacs.proofs.reading.Reading.take_literal.Goals as goal

pub returns-then-variable-len : goal.returns-then-variable-len
returns-then-variable-len c = λ vars before known.
    takes_out_of_range vars before _ _ _ _ (omega (arith, knows_vars vars before _ known))

pub returns-then-has_stood : goal.returns-then-has_stood
returns-then-has_stood c = λ vars before known.
    takes_both_signs vars before _ _ _ _ _ known c.requires (omega (arith, knows_vars vars before _ known)) (sym c.has_stood.ensures ∙ c.if-has_stood.true)

pub returns : goal.returns
returns c = λ vars before known.
    takes_literal vars before _ _ _ _ _ known c.requires (omega (arith, knows_vars vars before _ known)) (sym c.if-has_stood.false ∙ c.has_stood.ensures)
    c.mark.ensures.status c.mark.ensures.here c.mark.ensures.opposite refl
