-- What a source gave, as the first bytes of what it had.
use Rattle.cobra_calls.proofs.Prelude.{◌≡◌, ℕ, zero, suc, ◌+◌, ◌-◌, ◌≤◌, List, [], ◌++◌, length, take, Option, None, Some, arith, refl, sym, ap, ◌∙◌, take-append-add, append-nil, IsReadUpTo}
use Rattle.cobra_answers.specs.Sources.{IsReadWhole}

none_left : (k limit : ℕ) (text rest : List ℕ) → k ≡ limit + 1 - length text → (length text ≤ limit → rest ≡ []) → take k rest ≡ []
none_left zero limit text rest is whole = refl
none_left (suc k) limit text rest is whole = rw (whole (omega (arith, is))) refl

whole_text : (bytes text rest : List ℕ) (limit : ℕ) → bytes ≡ text ++ rest → length text ≤ limit + 1 → (length text ≤ limit → rest ≡ []) → text ≡ take (limit + 1) bytes
whole_text bytes text rest limit e most whole =
    let k = limit + 1 - length text in
    let n : length text + k ≡ limit + 1 = omega (arith, most) in
    let all : take (length text + k) (text ++ rest) ≡ text ++ take k rest = take-append-add text rest k in
    let cut : text ++ take k rest ≡ text = ap (λ (r : List ℕ). text ++ r) (none_left k limit text rest refl whole) ∙ append-nil text in
    let at : take (limit + 1) bytes ≡ take (length text + k) (text ++ rest) = rw (e, n) refl in
    sym (at ∙ all ∙ cut)

pub read_up_to : (old new : Option (List ℕ)) (limit : ℕ) (text : List ℕ) → IsReadWhole old new limit text → IsReadUpTo old limit text
read_up_to None new limit text h = tt
read_up_to (Some bytes) None limit text h = absurd h.taken.front
read_up_to (Some bytes) (Some rest) limit text h = whole_text bytes text rest limit h.taken.front h.most (λ le. (h.whole le).empty)
