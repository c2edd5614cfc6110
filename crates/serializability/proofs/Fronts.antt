-- The front of an order, and one node more.
use Rattle.serializability.proofs.Prelude.{◌≡◌, ℕ, ◌+◌, ◌<◌, List, [], ◌∷◌, ◌++◌, length, get_or, take, drop, sym, ap, ◌∙◌, inl, inr, take_more, take-append-drop, at_drop_more}
use Rattle.serializability.proofs.Places.{Has, Apart, Has-append_cases}

pub front_more : (order : List ℕ) (i v : ℕ) → i < length order → get_or order i v ≡ v → take (i + 1) order ≡ take i order ++ v ∷ []
front_more order i v lt e = take_more order i v lt ∙ ap (λ u. take i order ++ u ∷ []) e

pub rest_from : (order : List ℕ) (i v : ℕ) → i < length order → get_or order i v ≡ v → drop i order ≡ v ∷ drop (i + 1) order
rest_from order i v lt e = at_drop_more (λ l. l) order i v lt ∙ ap (λ u. u ∷ drop (i + 1) order) e

pub around : (order : List ℕ) (i v : ℕ) → i < length order → get_or order i v ≡ v → order ≡ take i order ++ v ∷ drop (i + 1) order
around order i v lt e = sym (take-append-drop i order) ∙ ap (λ l. take i order ++ l) (rest_from order i v lt e)

pub Apart-push : (xs : List ℕ) (v : ℕ) → Apart xs → (Has v xs → ⊥) → Apart (xs ++ v ∷ [])
Apart-push [] v a absent = (λ h. h, tt)
Apart-push (x ∷ xs) v a absent = (
  λ h. elim (Has-append_cases x xs (v ∷ []) h) [
    | inl k ↦ a.0 k
    | inr k ↦ elim k [ inl e ↦ absent (inl (sym e)) | inr none ↦ none ]
  ],
  Apart-push xs v a.1 (λ h. absent (inr h)),
)
