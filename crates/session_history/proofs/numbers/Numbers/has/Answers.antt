use Rattle.session_history.proofs.Prelude.{ap, ◌∙◌, sym, refl, Some, length, slice_get, ltb-true, slice_get_read, bytes_eq-Decides}
use Rattle.session_history.proofs.numbers.Numbers.has.Goals as goal

pub returns-in-Some : goal.returns-in-Some
returns-in-Some c = λ same.
    let texts = c.deref.result.now in
    let at = c.in-Some.ensures.lookup in
    ap (λ xs. slice_get xs c.args.number) (sym c.deref.ensures.value)
    ∙ slice_get_read texts (length texts) c.args.number c.in-Some.text.now refl (ltb-true c.args.number (length texts) (sym at.0)) at.1
    ∙ ap (λ k. Some k) ((bytes_eq-Decides c.in-Some.text.now c.args.key.now).0 (sym c.eq.ensures ∙ same))
