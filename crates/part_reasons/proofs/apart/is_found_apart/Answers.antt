use Rattle.part_reasons.proofs.Prelude.{◌≡◌, map, subst, refl, ◌∙◌, inl, inr, Some, view, first_line, One, list_fault, IsFound, limit}
use Rattle.part_reasons.proofs.Faults.{some_fault}
use Rattle.part_reasons.proofs.apart.is_found_apart.Goals as goal

pub returns-in_ok-found-in-Ok : goal.returns-in_ok-found-in-Ok
returns-in_ok-found-in-Ok g c =
    let same = c.in-Ok.ensures.history ∙ c.requires.apart in
    record { found = inl (subst (λ ss. IsFound c.args.means.now.budget ss c.in_ok-found-in-Ok.found) same c.in_ok-found-in-Ok.ensures.found) }

pub returns-in_default : goal.returns-in_default
returns-in_default g c =
    let f = c.in-Err.fault in
    record {
      found = inr (
        refl,
        limit f (subst (λ ss. list_fault (first_line One) ss ≡ Some f) c.requires.apart
            (some_fault f (list_fault (first_line One) (map view c.args.apart.items)) c.in-Err.ensures.fault c.in_default.not-Memory)),
      );
    }
