-- Places in an order that lists nodes 1 to n once each.
use Rattle.serializability.proofs.Prelude.{◌≡◌, ◌≢◌, ℕ, suc, ◌+◌, ◌<◌, ◌≤◌, true, false, eqb, List, [], ◌∷◌, length, get_or, sym, ◌∙◌, subst, inl, inr, arith, eqb-true, eq-eqb, list_any, AllByRecursion, IsDistinct, nat_eq, cases_eq}
use Rattle.serializability.proofs.Prelude.{cases_lt, cases_Bool, cond-true, false≢true, or_cases, or_parts, length-le_from_distinct_below, place_of, ListsOnce}
use Rattle.serializability.proofs.Places.{Has, Has-from_Contains, place_of-further}

abbrev pub at : List ℕ → ℕ → ℕ
at order v = place_of (0 ∷ order) v

place_of-lt : (v : ℕ) (xs : List ℕ) → Has v xs → place_of xs v < length xs
place_of-lt v [] h = absurd h
place_of-lt v (u ∷ us) h = elim (cases_eq u v) [
  | inl e ↦ let z : place_of (u ∷ us) v ≡ 0 = cond-true (eqb u v) 0 _ (eq-eqb u v e) in omega (arith, z)
  | inr ne ↦ elim h [
    | inl e ↦ absurd (ne e)
    | inr k ↦ omega (arith, place_of-further u v us ne, place_of-lt v us k)
  ]
]

place_of-apart : (xs : List ℕ) (u v : ℕ) → place_of xs u < length xs → place_of xs u ≡ place_of xs v → u ≡ v
place_of-apart [] u v h e = absurd (omega arith)
place_of-apart (x ∷ xs) u v h e = elim (cases_eq x u) [
  | inl xu ↦ elim (cases_eq x v) [
    | inl xv ↦ sym xu ∙ xv
    | inr nv ↦ let z : place_of (x ∷ xs) u ≡ 0 = cond-true (eqb x u) 0 _ (eq-eqb x u xu) in
        absurd (omega (arith, z, e, place_of-further x v xs nv))
  ]
  | inr nu ↦ elim (cases_eq x v) [
    | inl xv ↦ let z : place_of (x ∷ xs) v ≡ 0 = cond-true (eqb x v) 0 _ (eq-eqb x v xv) in
        absurd (omega (arith, z, e, place_of-further x u xs nu))
    | inr nv ↦ place_of-apart xs u v (omega (arith, h, place_of-further x u xs nu)) (omega (arith, e, place_of-further x u xs nu, place_of-further x v xs nv))
  ]
]

listed : (n : ℕ) (order : List ℕ) → ListsOnce n order → (u : ℕ) → u ≤ n → at order u < length (0 ∷ order)
listed n order once u hu = elim (cases_lt 0 u) [
  | inl lo ↦ place_of-lt u (0 ∷ order) (inr (Has-from_Contains order u (once.each u lo hu)))
  | inr z ↦ place_of-lt u (0 ∷ order) (inl (omega arith))
]

pub places_apart : (n : ℕ) (order : List ℕ) → ListsOnce n order → (u v : ℕ) → u ≤ n → u ≢ v → at order u ≢ at order v
places_apart n order once u v hu ne e = ne (place_of-apart (0 ∷ order) u v (listed n order once u hu) e)

-- ---- no more than n nodes
pub any_index : (q : ℕ) (xs : List ℕ) → list_any (eqb q) xs ≡ true → (i : ℕ) × ((i < length xs) × (get_or xs i q ≡ q))
any_index q [] e = absurd (false≢true e)
any_index q (x ∷ xs) e = elim (or_cases (eqb q x) (list_any (eqb q) xs) e) [
  | inl t ↦ (0, (omega arith, sym (eqb-true q x t)))
  | inr t ↦ let r = any_index q xs t in (suc r.0, (omega (arith, r.1.0), r.1.1))
]

pub absent_apart : (p : ℕ) (xs : List ℕ) → list_any (eqb p) xs ≡ false → AllByRecursion (λ y. nat_eq p y ≡ false) xs
absent_apart p [] e = tt
absent_apart p (x ∷ xs) e = let b = or_parts (eqb p x) (list_any (eqb p) xs) e in (b.0, absent_apart p xs b.1)

pub cons_distinct : (p : ℕ) (xs : List ℕ) → list_any (eqb p) xs ≡ false → IsDistinct nat_eq xs → IsDistinct nat_eq (p ∷ xs)
unfolding IsDistinct
cons_distinct p xs e d = (absent_apart p xs e, d)

node_at : (n : ℕ) (order : List ℕ) → ListsOnce n order → (q : ℕ) → list_any (eqb q) order ≡ true → (0 < q) × (q ≤ n)
node_at n order once q t =
    let a = any_index q order t in
    let P : ℕ → Type 0 = λ v. (0 < v) × (v ≤ n) in
    subst P a.1.1 (once.only a.0 q a.1.0)

no_zero : (n : ℕ) (order : List ℕ) → ListsOnce n order → list_any (eqb 0) order ≡ false
no_zero n order once = elim (cases_Bool (list_any (eqb 0) order)) [
  | inl t ↦ absurd (omega (arith, (node_at n order once 0 t).0))
  | inr f ↦ f
]

below : (n : ℕ) (order : List ℕ) → ListsOnce n order → (q : ℕ) → list_any (eqb q) (0 ∷ order) ≡ true → q < n + 1
below n order once q t = elim (or_cases (eqb q 0) (list_any (eqb q) order) t) [
  | inl e ↦ omega (arith, eqb-true q 0 e)
  | inr h ↦ omega (arith, (node_at n order once q h).1)
]

pub place_within : (n : ℕ) (order : List ℕ) → ListsOnce n order → (u : ℕ) → u ≤ n → at order u ≤ n
place_within n order once u hu =
    let many = length-le_from_distinct_below (0 ∷ order) (n + 1) (cons_distinct 0 order (no_zero n order once) once.distinct) (below n order once) in
    omega (arith, many, listed n order once u hu)
