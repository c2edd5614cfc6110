-- Elements by their numbers, and tests of lists.
use Rattle.cube_machine.proofs.Prelude.{◌≡◌, ◌⊎◌, ℕ, zero, suc, Bool, true, false, ◌||◌, List, [], ◌∷◌, ◌++◌, length, Some, refl, sym, ap, ◌∙◌, inl, inr, slice_get, slice_set, list_any, false≢true, or_cases, or_comm, or-false, or_assoc}
use Rattle.cube_machine.proofs.Prelude.{same_Some, either_way, none-some}

-- ---- elements
pub get_pushed : {A : Type 0} (xs : List A) (j : ℕ) (y x : A) → slice_get (xs ++ y ∷ []) j ≡ Some x → ((j ≡ length xs) × (x ≡ y)) ⊎ (slice_get xs j ≡ Some x)
get_pushed [] zero y x e = inl (refl, sym (same_Some y x e))
get_pushed [] (suc j) y x e = absurd (none-some x e)
get_pushed (z ∷ zs) zero y x e = inr e
get_pushed (z ∷ zs) (suc j) y x e = elim (get_pushed zs j y x e) [ inl p ↦ inl (ap suc p.0, p.1) | inr q ↦ inr q ]

-- ---- tests
pub any_found : {A : Type 0} (t : A → Bool) (xs : List A) → list_any t xs ≡ true → (k : ℕ) × ((x : A) × ((slice_get xs k ≡ Some x) × (t x ≡ true)))
any_found t [] h = absurd (false≢true h)
any_found t (z ∷ zs) h = elim (or_cases (t z) (list_any t zs) h) [
  | inl a ↦ (0, (z, (refl, a)))
  | inr b ↦ (let r = any_found t zs b in (suc r.0, r.1))
]

-- a test after a write over an element that failed it
pub any_written : {A : Type 0} (t : A → Bool) (xs : List A) (k : ℕ) (x y : A) → slice_get xs k ≡ Some x → t x ≡ false → list_any t (slice_set xs k y) ≡ (list_any t xs || t y)
any_written t [] k x y e f = absurd (none-some x e)
any_written t (z ∷ zs) zero x y e f =
    let g : t z ≡ false = ap t (same_Some z x e) ∙ f in
    or_comm (t y) (list_any t zs) ∙ ap (λ b. (b || list_any t zs) || t y) (sym g)
any_written t (z ∷ zs) (suc k) x y e f = ap (λ b. t z || b) (any_written t zs k x y e f) ∙ sym (or_assoc (t z) (list_any t zs) (t y))

pub any_unchanged : {A : Type 0} (t : A → Bool) (xs : List A) (k : ℕ) (x y : A) → slice_get xs k ≡ Some x → t x ≡ false → t y ≡ false → list_any t (slice_set xs k y) ≡ list_any t xs
any_unchanged t xs k x y e f g = any_written t xs k x y e f ∙ ap (λ b. list_any t xs || b) g ∙ or-false (list_any t xs)

pub any_pushed : {A : Type 0} (t : A → Bool) (xs : List A) (y : A) → t y ≡ false → list_any t (xs ++ y ∷ []) ≡ list_any t xs
any_pushed t [] y f = ap (λ b. b || false) f
any_pushed t (z ∷ zs) y f = ap (λ b. t z || b) (any_pushed t zs y f)

pub any_either : {A : Type 0} (s t : A → Bool) (xs : List A) → list_any (λ x. s x || t x) xs ≡ (list_any s xs || list_any t xs)
any_either s t [] = refl
any_either s t (z ∷ zs) = ap (λ b. (s z || t z) || b) (any_either s t zs) ∙ either_way (s z) (t z) (list_any s zs) (list_any t zs)
