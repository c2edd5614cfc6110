-- What holds of each pair of a range.
use Rattle.serializability.proofs.Prelude.{◌≡◌, ℕ, ◌+◌, Bool, true, false, cond, ◌∷◌, zero, suc, ◌<◌, ◌≤◌, refl, arith, sym, ◌∙◌, subst, inl, inr, map, AllByRecursion, range_with_len, filter, false≢true, cases_eq, pairs_of}
use Rattle.serializability.proofs.Places.{each_from_append, each_from_map, each_from_filter, each_from_range, each_of_append, each_of_map, each_of_filter, each_of_range}

pub pair_from_step : (P : (ℕ × ℕ) → Type 0) (p : ℕ → Bool) (a n : ℕ) (t : Bool) → p a ≡ t → (p a ≡ true → AllByRecursion (λ b. P (a, b)) (filter p (range_with_len (a + 1) n))) → AllByRecursion P (pairs_of (filter p (range_with_len (a + 1) n))) → AllByRecursion P (pairs_of (cond t (a ∷ filter p (range_with_len (a + 1) n)) (filter p (range_with_len (a + 1) n))))
pair_from_step P p a n true e row rest' =
    let rest = filter p (range_with_len (a + 1) n) in
    each_from_append P (map (λ b. (a, b)) rest) (pairs_of rest) (each_from_map P (λ b. (a, b)) rest (row e)) rest'
pair_from_step P p a n false e row rest' = rest'

pub each_pair_from : (P : (ℕ × ℕ) → Type 0) (p : ℕ → Bool) (a n : ℕ) → ((u v : ℕ) → a ≤ u → u < v → v < a + n → p u ≡ true → p v ≡ true → P (u, v)) → AllByRecursion P (pairs_of (filter p (range_with_len a n)))
each_pair_from P p a zero h = tt
each_pair_from P p a (suc n) h =
    pair_from_step P p a n (p a) refl
    (λ pa. each_from_filter (λ b. P (a, b)) p (range_with_len (a + 1) n)
    (each_from_range (λ b. p b ≡ true → P (a, b)) (a + 1) n (λ v lo hi pv. h a v (omega arith) (omega arith) (omega arith) pa pv)))
    (each_pair_from P p (a + 1) n (λ u v lo lt hi pu pv. h u v (omega arith) lt (omega arith) pu pv))

pub pair_of_step : (P : (ℕ × ℕ) → Type 0) (p : ℕ → Bool) (a n : ℕ) (t : Bool) → p a ≡ t → AllByRecursion P (pairs_of (cond t (a ∷ filter p (range_with_len (a + 1) n)) (filter p (range_with_len (a + 1) n)))) → (p a ≡ true → AllByRecursion (λ b. P (a, b)) (filter p (range_with_len (a + 1) n))) × AllByRecursion P (pairs_of (filter p (range_with_len (a + 1) n)))
pair_of_step P p a n true e h =
    let rest = filter p (range_with_len (a + 1) n) in
    let parts = each_of_append P (map (λ b. (a, b)) rest) (pairs_of rest) h in
    (λ _. each_of_map P (λ b. (a, b)) rest parts.0, parts.1)
pair_of_step P p a n false e h = (λ t. absurd (false≢true (sym e ∙ t)), h)

pub each_pair_of : (P : (ℕ × ℕ) → Type 0) (p : ℕ → Bool) (a n : ℕ) → AllByRecursion P (pairs_of (filter p (range_with_len a n))) → (u v : ℕ) → a ≤ u → u < v → v < a + n → p u ≡ true → p v ≡ true → P (u, v)
each_pair_of P p a zero h u v lo lt hi pu pv = absurd (omega arith)
each_pair_of P p a (suc n) h u v lo lt hi pu pv =
    let step = pair_of_step P p a n (p a) refl h in
    elim (cases_eq a u) [
      | inl e ↦
          let row = each_of_filter (λ b. P (a, b)) p (range_with_len (a + 1) n) (step.0 (subst (λ k. p k ≡ true) (sym e) pu)) in
          let at = each_of_range (λ b. p b ≡ true → P (a, b)) (a + 1) n row v (omega (arith, e)) (omega arith) pv in
          subst (λ k. P (k, v)) e at
      | inr ne ↦ each_pair_of P p (a + 1) n step.1 u v (omega (arith, ne)) lt (omega arith) pu pv
    ]
