use Rattle.dimacs.proofs.Prelude.{◌∙◌, sym, ap, bytes_eq, is_blank}
use Rattle.dimacs.proofs.Items.{takes_indented, takes_unknown}
use Rattle.dimacs.proofs.reading.Reading.take_line.Goals as goal

pub returns-then-is_blank : goal.returns-then-is_blank
returns-then-is_blank c = λ vars before known.
    takes_indented vars before _ _ _ _ _ _ c.first_byte.ensures c.if-first_byte-eq99.false c.in-Some.ensures.steps
    (ap is_blank (sym c.first_byte-2.ensures) ∙ sym c.is_blank.ensures ∙ c.if-is_blank.true)

pub returns : goal.returns
returns c = λ vars before known.
    takes_unknown vars before _ _ _ _ _ _ c.first_byte.ensures c.if-first_byte-eq99.false c.in-Some.ensures.steps
    (ap is_blank (sym c.first_byte-2.ensures) ∙ sym c.is_blank.ensures ∙ c.if-is_blank.false)
    (ap (bytes_eq c.in-Some.first.now) (sym c.as_slice.ensures) ∙ sym c.if-eq.ensures)
    (ap (bytes_eq c.in-Some.first.now) (sym c.as_slice-2.ensures) ∙ sym c.if-eq-2.ensures)
