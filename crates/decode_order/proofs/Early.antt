-- Orders in which no node stands before an earlier one of its session.
use Rattle.decode_order.proofs.Prelude.{◌≡◌, ℕ, ◌<◌, ◌∙◌, Bool, true, false, cond, List, [], ◌∷◌, Option, Some, None, refl, ap, inl, inr, list_any, cases_Bool, cond-false}
use Rattle.decode_order.proofs.Prelude.{Has, any_found, first_early, first_before_ended}
use Rattle.serializability.proofs.Timed.{InTime, is_early, earlier_parts}

pub early_is : (session : ℕ → ℕ) (order : List ℕ) → first_early session order ≡ first_before_ended (is_early session) order
early_is session [] = refl
early_is session (v ∷ behind) = ap (λ o. cond (list_any (λ u. is_early session u v) behind) (Some v) o) (early_is session behind)

-- a node with no earlier one of its session behind it is passed over
pub early_further : (session : ℕ → ℕ) (v : ℕ) (behind : List ℕ) → ((u : ℕ) → Has u behind → u < v → session u ≡ session v → ⊥) → first_early session (v ∷ behind) ≡ first_early session behind
early_further session v behind h = elim (cases_Bool (list_any (λ u. is_early session u v) behind)) [
  | inl t ↦
      let r = any_found (λ u. is_early session u v) behind t in
      let both = earlier_parts session r.0 v r.1.0 in
      absurd (h r.0 r.1.1 both.0 both.1)
  | inr f ↦ cond-false (list_any (λ u. is_early session u v) behind) (Some v) (first_early session behind) f
]

-- ---- none stands before an earlier one exactly where none is found
none_parts : (t : Bool) (v : ℕ) (rest : Option ℕ) → cond t (Some v) rest ≡ None → (t ≡ false) × (rest ≡ None)
none_parts true v rest e = cc
none_parts false v rest e = (refl, e)

pub in_time : (earlier : ℕ → ℕ → Bool) (order : List ℕ) → first_before_ended earlier order ≡ None → InTime earlier order
in_time earlier [] e = tt
in_time earlier (v ∷ behind) e =
    let parts = none_parts (list_any (λ u. earlier u v) behind) v (first_before_ended earlier behind) e in
    (parts.0, in_time earlier behind parts.1)

pub none_before : (earlier : ℕ → ℕ → Bool) (order : List ℕ) → InTime earlier order → first_before_ended earlier order ≡ None
none_before earlier [] k = refl
none_before earlier (v ∷ behind) k = cond-false (list_any (λ u. earlier u v) behind) (Some v) (first_before_ended earlier behind) k.0 ∙ none_before earlier behind k.1
