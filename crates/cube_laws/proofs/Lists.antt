-- Elements of lists.
use Rattle.cube_laws.proofs.Prelude.{◌≡◌, ◌⊎◌, ℕ, zero, suc, ◌+◌, ◌<◌, Bool, false, List, [], ◌∷◌, ◌++◌, length, map, Some, refl, sym, ap, ◌∙◌, inl, inr, arith, slice_get, slice_set, slice_index_or, option_map_or, list_any, or_parts}
use Rattle.cube_laws.proofs.Prelude.{same_Some}

module _ {A : Type 0} where
  pub within : (xs : List A) (k : ℕ) (x : A) → slice_get xs k ≡ Some x → k < length xs
  within [] k x e = absurd (cc)
  within (y ∷ ys) zero x e = omega arith
  within (y ∷ ys) (suc k) x e = let r = within ys k x e in omega (arith, r)

  pub there : (xs : List A) (k : ℕ) → k < length xs → (x : A) × (slice_get xs k ≡ Some x)
  there [] k lt = absurd (omega (arith, lt))
  there (y ∷ ys) zero lt = (y, refl)
  there (y ∷ ys) (suc k) lt = there ys k (omega (arith, lt))

  pub set_here : (xs : List A) (k : ℕ) (y : A) → k < length xs → slice_get (slice_set xs k y) k ≡ Some y
  set_here [] k y lt = absurd (omega (arith, lt))
  set_here (z ∷ zs) zero y lt = refl
  set_here (z ∷ zs) (suc k) y lt = set_here zs k y (omega (arith, lt))

  pub set_apart : (xs : List A) (k j : ℕ) (y x : A) → (j ≡ k → ⊥) → slice_get xs j ≡ Some x → slice_get (slice_set xs k y) j ≡ Some x
  set_apart [] k j y x ne e = absurd (cc)
  set_apart (z ∷ zs) zero zero y x ne e = absurd (ne refl)
  set_apart (z ∷ zs) zero (suc j) y x ne e = e
  set_apart (z ∷ zs) (suc k) zero y x ne e = e
  set_apart (z ∷ zs) (suc k) (suc j) y x ne e = set_apart zs k j y x (λ f. ne (ap suc f)) e

  pub set_self : (xs : List A) (k : ℕ) (y : A) → slice_get xs k ≡ Some y → slice_set xs k y ≡ xs
  set_self [] k y e = absurd (cc)
  set_self (z ∷ zs) zero y e = ap (λ w. w ∷ zs) (same_Some y z (sym e))
  set_self (z ∷ zs) (suc k) y e = ap (λ l. z ∷ l) (set_self zs k y e)

  pub append_left : (xs ys : List A) (k : ℕ) (x : A) → slice_get xs k ≡ Some x → slice_get (xs ++ ys) k ≡ Some x
  append_left [] ys k x e = absurd (cc)
  append_left (z ∷ zs) ys zero x e = e
  append_left (z ∷ zs) ys (suc k) x e = append_left zs ys k x e

  pub append_cases : (xs ys : List A) (k : ℕ) (x : A) → slice_get (xs ++ ys) k ≡ Some x → (slice_get xs k ≡ Some x) ⊎ ((j : ℕ) × (k ≡ length xs + j) × (slice_get ys j ≡ Some x))
  append_cases [] ys k x e = inr (k, omega arith, e)
  append_cases (z ∷ zs) ys zero x e = inl e
  append_cases (z ∷ zs) ys (suc k) x e = elim (append_cases zs ys k x e) [ inl p ↦ inl p | inr q ↦ inr (q.0, (let r = q.1 in omega (arith, r)), q.2) ]

  pub append_at : (xs ys : List A) (n j : ℕ) → n ≡ length xs + j → slice_get (xs ++ ys) n ≡ slice_get ys j
  append_at [] ys n j e = ap (λ i. slice_get ys i) (omega (arith, e))
  append_at (z ∷ zs) ys zero j e = absurd (omega (arith, e))
  append_at (z ∷ zs) ys (suc n) j e = append_at zs ys n j (omega (arith, e))

  pub any_false : (f : A → Bool) (xs : List A) (k : ℕ) (x : A) → list_any f xs ≡ false → slice_get xs k ≡ Some x → f x ≡ false
  any_false f [] k x n e = absurd (cc)
  any_false f (y ∷ ys) zero x n e = ap f (same_Some x y (sym e)) ∙ (or_parts (f y) (list_any f ys) n).0
  any_false f (y ∷ ys) (suc k) x n e = any_false f ys k x (or_parts (f y) (list_any f ys) n).1 e

module _ {A B : Type 0} (f : A → B) where
  pub map_some : (xs : List A) (k : ℕ) (x : A) → slice_get xs k ≡ Some x → slice_get (map f xs) k ≡ Some (f x)
  map_some [] k x e = absurd (cc)
  map_some (y ∷ ys) zero x e = ap (λ z. Some (f z)) (same_Some y x e)
  map_some (y ∷ ys) (suc k) x e = map_some ys k x e

  pub some_map : (xs : List A) (k : ℕ) (y : B) → slice_get (map f xs) k ≡ Some y → (x : A) × (slice_get xs k ≡ Some x) × (f x ≡ y)
  some_map [] k y e = absurd (cc)
  some_map (x ∷ xs) zero y e = (x, refl, same_Some (f x) y e)
  some_map (x ∷ xs) (suc k) y e = some_map xs k y e

  pub map_length : (xs : List A) → length (map f xs) ≡ length xs
  map_length [] = refl
  map_length (x ∷ xs) = ap suc (map_length xs)

  pub map_append : (xs ys : List A) → map f (xs ++ ys) ≡ map f xs ++ map f ys
  map_append [] ys = refl
  map_append (x ∷ xs) ys = ap (λ l. f x ∷ l) (map_append xs ys)

  pub or_map : (xs : List A) (k : ℕ) (d : B) → option_map_or f (slice_get xs k) d ≡ slice_index_or (map f xs) k d
  or_map [] k d = refl
  or_map (x ∷ xs) zero d = refl
  or_map (x ∷ xs) (suc k) d = or_map xs k d
