use Rattle.part_reasons.proofs.Prelude.{◌≡◌, Some, map, ap, ◌∙◌, subst, view, first_line, One, list_fault}
use Rattle.part_reasons.specs.Why.{limit}
use Rattle.part_reasons.proofs.Faults.{some_fault}
use Rattle.part_reasons.proofs.serial.text_of_part.Goals as goal

pub returns : goal.returns
returns g c =
    let f = c.in-Err.fault in
    let same = c.in_ok-copy_log.ensures ∙ ap (map view) c.deref-2.ensures.value in
    record {
      told = limit f (subst (λ ss. list_fault (first_line One) ss ≡ Some f) same
          (some_fault f (list_fault (first_line One) (map view c.in_ok-copy_log.field-0.items)) c.in-Err.ensures.fault c.in_default.not-Memory));
    }
