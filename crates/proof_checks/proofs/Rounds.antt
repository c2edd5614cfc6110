-- Marks by rounds.
use Rattle.proof_checks.proofs.Prelude.{◌≡◌, ℕ, zero, suc, ◌<◌, ◌≤◌, Bool, true, false, ◌||◌, eqb, List, [], ◌∷◌, ◌++◌, length, replicate, refl, sym, ap, ◌∙◌, get_or, slice_index, slice_set, get_or-set_other, get_or-set_same, take}
use Rattle.proof_checks.proofs.Prelude.{take_all, inl, inr, arith, eqb-true, eqb-false, eq-eqb, cases_eq, list_any-append, or-true, or-false, Literal, code_of, is_same, is_among, AreMarks}

zeros : (n k : ℕ) → ◌≡◌ {A = ℕ} (get_or (replicate n 0) k 0) 0
zeros zero k = refl
zeros (suc n) zero = refl
zeros (suc n) (suc k) = zeros n k

-- marks behind the end are none
pub padded : (xs : List ℕ) (n k : ℕ) → get_or (xs ++ replicate n 0) k 0 ≡ get_or xs k 0
padded [] n k = zeros n k
padded (x ∷ xs) n zero = refl
padded (x ∷ xs) n (suc k) = padded xs n k

-- a longer list of marks
pub longer : (old new : List ℕ) (n m k : ℕ) → length old ≤ n → new ≡ take n old ++ replicate m 0 → slice_index new k ≡ slice_index old k
longer old new n m k le e = ap (λ (xs : List ℕ). get_or xs k 0) (e ∙ ap (λ (t : List ℕ). t ++ replicate m 0) (take_all n old le)) ∙ padded old m k

-- a literal more is marked
pub marks_more : (old long : List ℕ) (round : ℕ) (marked : List Literal) (l : Literal) → AreMarks old round marked → ((k : ℕ) → slice_index long k ≡ slice_index old k) → code_of l < length long → AreMarks (slice_set long (code_of l) round) round (marked ++ l ∷ [])
marks_more old long round marked l are same within = record {
  rounds_are = record { begun = are.rounds_are.begun; passed = at_most };
  exactly = exact;
}
  where
    other : (k : ℕ) → (k ≡ code_of l → ⊥) → slice_index (slice_set long (code_of l) round) k ≡ slice_index old k
    other k ne = get_or-set_other long (code_of l) k round 0 ne ∙ same k

    here : (k : ℕ) → k ≡ code_of l → slice_index (slice_set long (code_of l) round) k ≡ round
    here k e = ap (slice_index (slice_set long (code_of l) round)) e ∙ get_or-set_same long (code_of l) round 0 within

    at_most : (k : ℕ) → slice_index (slice_set long (code_of l) round) k ≤ round
    at_most k = elim (cases_eq k (code_of l)) [
      | inl e ↦ let at = here k e in omega (arith, at)
      | inr ne ↦ let at = other k ne in let le = are.rounds_are.passed k in omega (arith, at, le)
    ]

    whole : (m : Literal) → is_among (marked ++ l ∷ []) m ≡ (is_among marked m || (is_same m l || false))
    whole m = list_any-append (is_same m) marked (l ∷ [])

    by_test : (m : Literal) (b : Bool) → is_same m l ≡ b → eqb (slice_index (slice_set long (code_of l) round) (code_of m)) round ≡ is_among (marked ++ l ∷ []) m
    by_test m true e =
        eq-eqb (slice_index (slice_set long (code_of l) round) (code_of m)) round (here (code_of m) (eqb-true (code_of m) (code_of l) e))
        ∙ sym (whole m ∙ ap (λ b. is_among marked m || (b || false)) e ∙ or-true (is_among marked m))
    by_test m false e =
        ap (λ v. eqb v round) (other (code_of m) (eqb-false (code_of m) (code_of l) e)) ∙ are.exactly m
        ∙ sym (whole m ∙ ap (λ b. is_among marked m || (b || false)) e ∙ or-false (is_among marked m))

    exact : (m : Literal) → eqb (slice_index (slice_set long (code_of l) round) (code_of m)) round ≡ is_among (marked ++ l ∷ []) m
    exact m = by_test m (is_same m l) refl
