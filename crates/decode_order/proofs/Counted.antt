-- The test by counting that a list has each of nodes 1 to n once.
use Rattle.decode_order.proofs.Prelude.{◌≡◌, ℕ, ◌+◌, ◌<◌, ◌≤◌, Bool, true, eqb, cond, List, [], ◌∷◌, get_or, refl, sym, ◌∙◌, subst, inl, inr, arith, eqb-true, eq-eqb, ne_eqb, nat_eq, nat_lt, nat_le, ◌&&◌, list_any, list_all, count_by}
use Rattle.decode_order.proofs.Prelude.{range_with_len, cases_Bool, cond-true, cond-false, false≢true, and_from, and_parts, ltb-true, leb-true, lt-ltb, le-leb, ListsOnce, Has, Apart, Has-from_Contains, Contains-from_Has, Has-from_range}
use Rattle.decode_order.proofs.Prelude.{range-from_Has, node_of, lists_once, Has_get, Has-from_any, any-from_Has, IsDistinct-from_Apart, once_apart}
use Rattle.std.proofs.lemmas.List.Sums.{sum_by-cons}

-- ---- the test by counting
all_each : (p : ℕ → Bool) (xs : List ℕ) → list_all p xs ≡ true → (v : ℕ) → Has v xs → p v ≡ true
all_each p [] t v h = absurd h
all_each p (x ∷ xs) t v (inl e) = subst (λ u. p u ≡ true) e (and_parts (p x) (list_all p xs) t).0
all_each p (x ∷ xs) t v (inr h) = all_each p xs (and_parts (p x) (list_all p xs) t).1 v h

all_from : (p : ℕ → Bool) (xs : List ℕ) → ((v : ℕ) → Has v xs → p v ≡ true) → list_all p xs ≡ true
all_from p [] h = refl
all_from p (x ∷ xs) h = and_from (p x) (list_all p xs) (h x (inl refl)) (all_from p xs (λ v k. h v (inr k)))

count_more : (v x : ℕ) (xs : List ℕ) → count_by (nat_eq v) (x ∷ xs) ≡ cond (eqb v x) 1 0 + count_by (nat_eq v) xs
count_more v x xs = sum_by-cons (λ y. cond (eqb v y) 1 0) x xs

count_here : (v x : ℕ) (xs : List ℕ) → v ≡ x → count_by (nat_eq v) (x ∷ xs) ≡ 1 + count_by (nat_eq v) xs
count_here v x xs e = omega (arith, count_more v x xs, cond-true {A = ℕ} (eqb v x) 1 0 (eq-eqb v x e))

count_further : (v x : ℕ) (xs : List ℕ) → (v ≡ x → ⊥) → count_by (nat_eq v) (x ∷ xs) ≡ count_by (nat_eq v) xs
count_further v x xs ne = omega (arith, count_more v x xs, cond-false {A = ℕ} (eqb v x) 1 0 (ne_eqb v x ne))

count_absent : (v : ℕ) (xs : List ℕ) → (Has v xs → ⊥) → count_by (nat_eq v) xs ≡ 0
count_absent v [] absent = refl
count_absent v (x ∷ xs) absent = count_further v x xs (λ e. absent (inl (sym e))) ∙ count_absent v xs (λ h. absent (inr h))

count_once : (v : ℕ) (xs : List ℕ) → Apart xs → Has v xs → count_by (nat_eq v) xs ≡ 1
count_once v [] a h = absurd h
count_once v (x ∷ xs) a (inl e) = omega (arith, count_here v x xs (sym e), count_absent v xs (λ k. a.0 (subst (λ u. Has u xs) (sym e) k)))
count_once v (x ∷ xs) a (inr k) = count_further v x xs (λ e. a.0 (subst (λ u. Has u xs) e k)) ∙ count_once v xs a.1 k

Has-from_count : (v : ℕ) (xs : List ℕ) → 0 < count_by (nat_eq v) xs → Has v xs
Has-from_count v xs h = elim (cases_Bool (list_any (nat_eq v) xs)) [
  | inl t ↦ Has-from_any v xs t
  | inr f ↦ absurd (omega (arith, h, count_absent v xs (λ k. false≢true (sym f ∙ any-from_Has v xs k))))
]

count_grows : (v x : ℕ) (xs : List ℕ) → count_by (nat_eq v) xs ≤ count_by (nat_eq v) (x ∷ xs)
count_grows v x xs = omega (arith, count_more v x xs)

count_pos : (v : ℕ) (xs : List ℕ) → Has v xs → 0 < count_by (nat_eq v) xs
count_pos v [] h = absurd h
count_pos v (x ∷ xs) (inl e) = omega (arith, count_here v x xs (sym e))
count_pos v (x ∷ xs) (inr h) = omega (arith, count_pos v xs h, count_grows v x xs)

apart_from_counts : (xs : List ℕ) → ((v : ℕ) → Has v xs → count_by (nat_eq v) xs ≤ 1) → Apart xs
apart_from_counts [] h = tt
apart_from_counts (x ∷ xs) h = (
  λ k. omega (arith, h x (inl refl), count_here x x xs refl, count_pos x xs k),
  apart_from_counts xs (λ v k. (let here = h v (inr k) in omega (arith, here, count_grows v x xs))),
)

pub lists_once_is : (n : ℕ) (order : List ℕ) → lists_once n order ≡ true → ListsOnce n order
lists_once_is n order t =
    let parts = and_parts (list_all (λ v. eqb (count_by (nat_eq v) order) 1) (range_with_len 1 n)) (list_all (λ v. nat_lt 0 v && nat_le v n) order) t in
    let within : (v : ℕ) → Has v order → (0 < v) × (v ≤ n) = λ v h. (
    let both = and_parts (nat_lt 0 v) (nat_le v n) (all_each (λ v. nat_lt 0 v && nat_le v n) order parts.1 v h) in
    (ltb-true 0 v both.0, leb-true v n both.1)) in
    let once : (v : ℕ) → 0 < v → v ≤ n → count_by (nat_eq v) order ≡ 1 = λ v lo hi.
    eqb-true _ 1 (all_each (λ v. eqb (count_by (nat_eq v) order) 1) (range_with_len 1 n) parts.0 v (Has-from_range v 1 n (omega arith) (omega arith))) in
    record {
      only = λ k d lt. within (get_or order k d) (Has_get order k d lt);
      each = λ v lo hi. Contains-from_Has order v (Has-from_count v order (omega (arith, once v lo hi)));
      distinct = IsDistinct-from_Apart order (apart_from_counts order (λ v h. omega (arith, once v (within v h).0 (within v h).1)));
    }

pub lists_once_from : (n : ℕ) (order : List ℕ) → ListsOnce n order → lists_once n order ≡ true
lists_once_from n order once =
    and_from (list_all (λ v. eqb (count_by (nat_eq v) order) 1) (range_with_len 1 n)) (list_all (λ v. nat_lt 0 v && nat_le v n) order)
    (all_from (λ v. eqb (count_by (nat_eq v) order) 1) (range_with_len 1 n) (λ v h.
    (let r = range-from_Has v 1 n h in
    eq-eqb _ 1 (count_once v order (once_apart n order once) (Has-from_Contains order v (once.each v (omega (arith, r.0)) (omega (arith, r.1))))))))
    (all_from (λ v. nat_lt 0 v && nat_le v n) order (λ v h.
    and_from (nat_lt 0 v) (nat_le v n) (lt-ltb 0 v (node_of n order once v h).0) (le-leb v n (node_of n order once v h).1)))
