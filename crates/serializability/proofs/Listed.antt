-- Lists that have each of nodes 1 to n once.
use Rattle.serializability.proofs.Prelude.{◌≡◌, ℕ, zero, suc, ◌+◌, ◌<◌, ◌≤◌, true, false, eqb, List, [], ◌∷◌, length, get_or, refl, sym, ◌∙◌, subst, inl, inr, arith, eqb-true, eq-eqb, ne_eqb, nat_eq, list_any, range_with_len}
use Rattle.serializability.proofs.Prelude.{AllByRecursion, IsDistinct, cases_Bool, false≢true, length-range_with_len, length-le_from_distinct_below, ListsOnce}
use Rattle.std.proofs.lemmas.Cmp.{nat_eq_equiv}
use Rattle.std.proofs.lemmas.Map.Made.{length-le_from_is_member}
use Rattle.serializability.proofs.Places.{Has, Apart, Apart-from_IsDistinct, Has-from_Contains, Contains-from_Has}
use Rattle.serializability.proofs.Sources.{any_found, any_from, range-from_Has}
use Rattle.serializability.proofs.Serial.{node_of}

-- ---- membership
pub Has-from_any : (v : ℕ) (xs : List ℕ) → list_any (nat_eq v) xs ≡ true → Has v xs
Has-from_any v xs t = let r = any_found (eqb v) xs t in subst (λ u. Has u xs) (sym (eqb-true v r.0 r.1.0)) r.1.1

pub any-from_Has : (v : ℕ) (xs : List ℕ) → Has v xs → list_any (nat_eq v) xs ≡ true
any-from_Has v xs h = any_from (eqb v) xs v (eq-eqb v v refl) h

pub Has_get : (xs : List ℕ) (k d : ℕ) → k < length xs → Has (get_or xs k d) xs
Has_get [] k d lt = absurd (omega arith)
Has_get (x ∷ xs) zero d lt = inl refl
Has_get (x ∷ xs) (suc k) d lt = inr (Has_get xs k d (omega arith))

differs : (x : ℕ) (xs : List ℕ) → (Has x xs → ⊥) → AllByRecursion (λ y. nat_eq x y ≡ false) xs
differs x [] a = tt
differs x (y ∷ ys) a = (ne_eqb x y (λ e. a (inl (sym e))), differs x ys (λ h. a (inr h)))

pub IsDistinct-from_Apart : (xs : List ℕ) → Apart xs → IsDistinct nat_eq xs
unfolding IsDistinct
IsDistinct-from_Apart [] a = tt
IsDistinct-from_Apart (x ∷ xs) a = (differs x xs a.0, IsDistinct-from_Apart xs a.1)

pub Apart_range : (a n : ℕ) → Apart (range_with_len a n)
Apart_range a zero = tt
Apart_range a (suc n) = (λ h. (let r = range-from_Has a (a + 1) n h in omega (arith, r.0)), Apart_range (a + 1) n)

-- ---- as many nodes as there are
-- different numbers up to n are at most n + 1
few_below : (n : ℕ) (xs : List ℕ) → Apart xs → ((v : ℕ) → Has v xs → v ≤ n) → length xs ≤ n + 1
few_below n xs a within =
    length-le_from_distinct_below xs (n + 1) (IsDistinct-from_Apart xs a) (λ q t. omega (arith, within q (Has-from_any q xs t)))

pub once_apart : (n : ℕ) (order : List ℕ) → ListsOnce n order → Apart order
once_apart n order once = Apart-from_IsDistinct order once.distinct

-- with node 0 before them
with_zero : (order : List ℕ) → Apart order → ((v : ℕ) → Has v order → 0 < v) → Apart (0 ∷ order)
with_zero order a lo = (λ h. (let z = lo 0 h in omega (arith, z)), a)

zero_or_within : (n : ℕ) (order : List ℕ) → ((v : ℕ) → Has v order → (0 < v) × (v ≤ n)) → (v : ℕ) → Has v (0 ∷ order) → v ≤ n
zero_or_within n order within v (inl e) = omega (arith, e)
zero_or_within n order within v (inr h) = (within v h).1

pub once_length : (n : ℕ) (order : List ℕ) → ListsOnce n order → length order ≡ n
once_length n order once =
    let within = node_of n order once in
    let most = few_below n (0 ∷ order) (with_zero order (once_apart n order once) (λ v h. (within v h).0)) (zero_or_within n order within) in
    let least = length-le_from_is_member nat_eq_equiv (range_with_len 1 n) order (IsDistinct-from_Apart (range_with_len 1 n) (Apart_range 1 n)) (λ q t.
    (let r = range-from_Has q 1 n (Has-from_any q (range_with_len 1 n) t) in
    any-from_Has q order (Has-from_Contains order q (once.each q (omega (arith, r.0)) (omega (arith, r.1)))))) in
    omega (arith, most, least, length-range_with_len 1 n)

-- n different nodes of 1 to n are all of them
pub once_from : (n : ℕ) (order : List ℕ) → length order ≡ n → Apart order → ((v : ℕ) → Has v order → (0 < v) × (v ≤ n)) → ListsOnce n order
once_from n order long a within = record {
  only = λ k d lt. within (get_or order k d) (Has_get order k d lt);
  each = λ v lo hi. elim (cases_Bool (list_any (nat_eq v) order)) [
    | inl t ↦ Contains-from_Has order v (Has-from_any v order t)
    | inr f ↦
        let absent : Has v order → ⊥ = λ h. false≢true (sym f ∙ any-from_Has v order h) in
        let apart : Apart (v ∷ 0 ∷ order) = (one_more v order lo absent, with_zero order a (λ u h. (within u h).0)) in
        absurd (omega (arith, few_below n (v ∷ 0 ∷ order) apart (this_or_within n v order hi within), long))
  ];
  distinct = IsDistinct-from_Apart order a;
}
  where
    one_more : (v : ℕ) (order : List ℕ) → 0 < v → (Has v order → ⊥) → Has v (0 ∷ order) → ⊥
    one_more v order lo absent (inl e) = omega (arith, e)
    one_more v order lo absent (inr h) = absent h

    this_or_within : (n v : ℕ) (order : List ℕ) → v ≤ n → ((u : ℕ) → Has u order → (0 < u) × (u ≤ n)) → (u : ℕ) → Has u (v ∷ 0 ∷ order) → u ≤ n
    this_or_within n v order hi within u (inl e) = omega (arith, e)
    this_or_within n v order hi within u (inr h) = zero_or_within n order within u h

pub not_once_outside : (n : ℕ) (order : List ℕ) (i v : ℕ) → i < length order → get_or order i v ≡ v → (0 < v → v ≤ n → ⊥) → ListsOnce n order → ⊥
not_once_outside n order i v lt e outside once =
    let within = node_of n order once v (subst (λ u. Has u order) e (Has_get order i v lt)) in
    outside within.0 within.1
