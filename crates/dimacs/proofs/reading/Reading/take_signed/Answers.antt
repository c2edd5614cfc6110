use Rattle.dimacs.proofs.Prelude.{Some, refl, arith, ap, ◌∙◌, sym}
use Rattle.dimacs.proofs.Items.{takes_broken_number, takes_large_number, takes_zero_number, knows_vars}
use Rattle.dimacs.proofs.reading.Reading.take_signed.Goals as goal

pub returns-then-not-is_number : goal.returns-then-not-is_number
returns-then-not-is_number c = λ vars before known.
    takes_broken_number vars before _ c.args.positive c.args.digits.now _ (sym c.is_number.ensures ∙ c.if-not-is_number.true)

pub returns-in-None : goal.returns-in-None
returns-in-None c = λ vars before known.
    let trues = c.args.self.now.trues in
    takes_large_number vars before _ c.args.positive c.args.digits.now _ (sym c.is_number.ensures ∙ c.if-not-is_number.false) c.in-None.ensures
    (omega (arith, knows_vars vars before _ known, trues.ok.0, trues.ok.1, trues.small))

pub returns-in-Some-eq0 : goal.returns-in-Some-eq0
returns-in-Some-eq0 c = λ vars before known.
    let none = ap Some (sym c.in-Some-eq0.field-0-test) ∙ c.in-Some-eq0.ensures in
    takes_zero_number vars before _ c.args.positive c.args.digits.now _ _ (sym c.is_number.ensures ∙ c.if-not-is_number.false) none known refl refl refl refl
