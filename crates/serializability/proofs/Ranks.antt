-- Counting what stands before each node, in a strict total order of nodes 0 to n.
use Rattle.serializability.proofs.Prelude.{◌≡◌, ℕ, zero, suc, ◌+◌, ◌-◌, ◌<◌, ◌≤◌, Bool, true, false, eqb, cond, List, [], ◌∷◌, length, get_or, refl, sym, ap, ◌∙◌, subst, inl, inr, arith, eqb-true, eq-eqb, ne_eqb, count_by, list_any}
use Rattle.serializability.proofs.Prelude.{range_with_len, All, Contains, IsDistinct, nat_eq, map, cases_eq, cases_lt, cases_Bool, cond-true, cond-false, false≢true, true≢false, or_cases, sum_by-cons, count_by-le-length, get_or_default}
use Rattle.serializability.proofs.Prelude.{length-range_with_len, length-map-range_with_len, get_or-map-range_with_len, length-le_from_distinct_below, place_of, Before, ListsOnce, IsOrder}
use Rattle.std.proofs.lemmas.Map.Keys.{IsDistinct-from_apart}
use Rattle.serializability.proofs.Places.{Has, Apart, Apart-from_IsDistinct, Has_at, place_of-here, place_of-further}
use Rattle.serializability.proofs.Sources.{Has-from_range, range-from_Has}
use Rattle.serializability.proofs.Once.{any_index, cons_distinct}

-- ---- two counts over one list
count-cons : (p : ℕ → Bool) (x : ℕ) (xs : List ℕ) → count_by p (x ∷ xs) ≡ cond (p x) 1 0 + count_by p xs
count-cons p x xs = sum_by-cons (λ y. cond (p y) 1 0) x xs

one_le : (a b : Bool) → (a ≡ true → b ≡ true) → cond a 1 0 ≤ cond b 1 0
one_le true true h = omega arith
one_le true false h = absurd (false≢true (h refl))
one_le false true h = omega arith
one_le false false h = omega arith

pub count-le : (p q : ℕ → Bool) (xs : List ℕ) → ((x : ℕ) → Has x xs → p x ≡ true → q x ≡ true) → count_by p xs ≤ count_by q xs
count-le p q [] h = omega arith
count-le p q (x ∷ xs) h =
    omega (arith, count-cons p x xs, count-cons q x xs, one_le (p x) (q x) (h x (inl refl)), count-le p q xs (λ y k. h y (inr k)))

one_lt : (a b : Bool) → a ≡ false → b ≡ true → cond a 1 0 < cond b 1 0
one_lt true b e h = absurd (true≢false e)
one_lt false true e h = omega arith
one_lt false false e h = absurd (false≢true h)

pub count-lt : (p q : ℕ → Bool) (xs : List ℕ) → ((x : ℕ) → Has x xs → p x ≡ true → q x ≡ true) → (y : ℕ) → Has y xs → p y ≡ false → q y ≡ true → count_by p xs < count_by q xs
count-lt p q [] h y k e t = absurd k
count-lt p q (x ∷ xs) h y (inl here) e t =
    let e' = subst (λ n. p n ≡ false) (sym here) e in
    let t' = subst (λ n. q n ≡ true) (sym here) t in
    omega (arith, count-cons p x xs, count-cons q x xs, one_lt (p x) (q x) e' t', count-le p q xs (λ z k. h z (inr k)))
count-lt p q (x ∷ xs) h y (inr k) e t =
    omega (arith, count-cons p x xs, count-cons q x xs, one_le (p x) (q x) (h x (inl refl)), count-lt p q xs (λ z k'. h z (inr k')) y k e t)

count-none : (p : ℕ → Bool) (xs : List ℕ) → ((x : ℕ) → Has x xs → p x ≡ false) → count_by p xs ≡ 0
count-none p [] h = refl
count-none p (x ∷ xs) h = omega (arith, count-cons p x xs, cond-false {A = ℕ} (p x) 1 0 (h x (inl refl)), count-none p xs (λ y k. h y (inr k)))

-- ---- a strict total order of nodes 0 to n, in which 0 is the first
abbrev pub rank : ℕ → (ℕ → ℕ → Bool) → ℕ → ℕ
rank n r v = count_by (λ u. r u v) (range_with_len 0 (n + 1))

in_range : (n u : ℕ) → Has u (range_with_len 0 (n + 1)) → u ≤ n
in_range n u h = omega (arith, (range-from_Has u 0 (n + 1) h).1)

range_has : (n u : ℕ) → u ≤ n → Has u (range_with_len 0 (n + 1))
range_has n u h = Has-from_range u 0 (n + 1) (omega arith) (omega arith)

pub rank-lt : (n : ℕ) (r : ℕ → ℕ → Bool) → IsOrder n r → (u v : ℕ) → u ≤ n → v ≤ n → r u v ≡ true → rank n r u < rank n r v
rank-lt n r o u v hu hv t = count-lt (λ x. r x u) (λ x. r x v) (range_with_len 0 (n + 1))
    (λ x h p. o.transitive x u v (in_range n x h) hu hv p t) u (range_has n u hu) (o.irreflexive u) t

pub rank-apart : (n : ℕ) (r : ℕ → ℕ → Bool) → IsOrder n r → (u v : ℕ) → u ≤ n → v ≤ n → rank n r u ≡ rank n r v → u ≡ v
rank-apart n r o u v hu hv e = elim (cases_eq u v) [
  | inl same ↦ same
  | inr ne ↦ elim (o.total u v hu hv ne) [
    | inl t ↦ absurd (omega (arith, rank-lt n r o u v hu hv t, e))
    | inr t ↦ absurd (omega (arith, rank-lt n r o v u hv hu t, e))
  ]
]

-- a node does not stand before itself
pub rank-le : (n : ℕ) (r : ℕ → ℕ → Bool) → IsOrder n r → (v : ℕ) → v ≤ n → rank n r v ≤ n
rank-le n r o v hv =
    let fewer = count-lt (λ x. r x v) (λ x. true) (range_with_len 0 (n + 1)) (λ x h p. refl) v (range_has n v hv) (o.irreflexive v) refl in
    omega (arith, fewer, count_by-le-length (λ x. true) (range_with_len 0 (n + 1)), length-range_with_len 0 (n + 1))

pub rank-zero : (n : ℕ) (r : ℕ → ℕ → Bool) → IsOrder n r → rank n r 0 ≡ 0
rank-zero n r o = count-none (λ u. r u 0) (range_with_len 0 (n + 1)) (λ u h.
    elim (cases_lt 0 u) [
      | inl lo ↦ o.apart 0 u (omega arith) (in_range n u h) (o.zero_first u lo (in_range n u h))
      | inr z ↦ let e : u ≡ 0 = omega arith in subst (λ x. r x 0 ≡ false) (sym e) (o.irreflexive 0)
    ])

pub rank-pos : (n : ℕ) (r : ℕ → ℕ → Bool) → IsOrder n r → (v : ℕ) → 0 < v → v ≤ n → 0 < rank n r v
rank-pos n r o v lo hi = omega (arith, rank-lt n r o 0 v (omega arith) hi (o.zero_first v lo hi))

-- ---- each place is taken
abbrev ranks : ℕ → (ℕ → ℕ → Bool) → List ℕ
ranks n r = map (rank n r) (range_with_len 0 (n + 1))

ranks_at : (n : ℕ) (r : ℕ → ℕ → Bool) (i d : ℕ) → i ≤ n → get_or (ranks n r) i d ≡ rank n r i
ranks_at n r i d h = get_or-map-range_with_len (rank n r) 0 (n + 1) i i d (omega arith) (omega arith)

ranks_below : (n : ℕ) (r : ℕ → ℕ → Bool) → IsOrder n r → (q : ℕ) → list_any (eqb q) (ranks n r) ≡ true → q < n + 1
ranks_below n r o q t =
    let a = any_index q (ranks n r) t in
    let i : a.0 ≤ n = omega (arith, a.1.0, length-map-range_with_len (rank n r) 0 (n + 1)) in
    omega (arith, a.1.1, ranks_at n r a.0 q i, rank-le n r o a.0 i)

ranks_distinct : (n : ℕ) (r : ℕ → ℕ → Bool) → IsOrder n r → IsDistinct nat_eq (ranks n r)
ranks_distinct n r o = IsDistinct-from_apart nat_eq (ranks n r) (λ i j d lt h.
    let len = length-map-range_with_len (rank n r) 0 (n + 1) in
    let hi : i ≤ n = omega (arith, len) in
    let hj : j ≤ n = omega (arith, len) in
    ne_eqb _ _ (λ e.
    let same = rank-apart n r o i j hi hj (sym (ranks_at n r i d hi) ∙ e ∙ ranks_at n r j d hj) in
    omega (arith, same)))

one_more_below : (p n : ℕ) (xs : List ℕ) → p < n → ((q : ℕ) → list_any (eqb q) xs ≡ true → q < n) → (q : ℕ) → list_any (eqb q) (p ∷ xs) ≡ true → q < n
one_more_below p n xs h below q t = elim (or_cases (eqb q p) (list_any (eqb q) xs) t) [
  | inl e ↦ omega (arith, eqb-true q p e)
  | inr e ↦ below q e
]

-- some node has p nodes before it
pub rank-onto : (n : ℕ) (r : ℕ → ℕ → Bool) → IsOrder n r → (p : ℕ) → p ≤ n → (v : ℕ) × ((v ≤ n) × (rank n r v ≡ p))
rank-onto n r o p h = elim (cases_Bool (list_any (eqb p) (ranks n r))) [
  | inl t ↦
      let a = any_index p (ranks n r) t in
      let i : a.0 ≤ n = omega (arith, a.1.0, length-map-range_with_len (rank n r) 0 (n + 1)) in
      (a.0, (i, sym (ranks_at n r a.0 p i) ∙ a.1.1))
  | inr f ↦
      let many = length-le_from_distinct_below (p ∷ ranks n r) (n + 1) (cons_distinct p (ranks n r) f (ranks_distinct n r o))
      (one_more_below p (n + 1) (ranks n r) (omega arith) (ranks_below n r o)) in
      absurd (omega (arith, many, length-map-range_with_len (rank n r) 0 (n + 1)))
]

-- ---- the order in which the node at place p has p nodes before it
pub record IsRanked (n : ℕ) (r : ℕ → ℕ → Bool) (order : List ℕ) : Type 0 where
  pub places : length order ≡ n
  pub nodes : All (λ v. (0 < v) × (v ≤ n)) order
  pub each : (p : ℕ) → p < length order → rank n r (get_or order p 0) ≡ p + 1

-- each node stands at the place that its rank says
at_rank : (n : ℕ) (r : ℕ → ℕ → Bool) → IsOrder n r → (order : List ℕ) → IsRanked n r order → (v p d : ℕ) → v ≤ n → rank n r v ≡ p + 1 → p < length order → get_or order p d ≡ v
at_rank n r o order k v p d hv e h =
    get_or_default order p d 0 h ∙ rank-apart n r o (get_or order p 0) v (k.nodes p 0 h).1 hv (k.each p h ∙ sym e)

place_of-at : (xs : List ℕ) (v p : ℕ) → Apart xs → p < length xs → get_or xs p 0 ≡ v → place_of xs v ≡ p
place_of-at [] v p a h e = absurd (omega arith)
place_of-at (x ∷ xs) v zero a h e = cond-true (eqb x v) 0 _ (eq-eqb x v e)
place_of-at (x ∷ xs) v (suc p) a h e =
    let ne : x ≡ v → ⊥ = λ same. (let lt : p < length xs = omega arith in a.0 (Has_at xs x p lt (get_or_default xs p x 0 lt ∙ e ∙ sym same))) in
    place_of-further x v xs ne ∙ ap suc (place_of-at xs v p a.1 (omega arith) e)

ranked_distinct : (n : ℕ) (r : ℕ → ℕ → Bool) → (order : List ℕ) → IsRanked n r order → IsDistinct nat_eq order
ranked_distinct n r order k = IsDistinct-from_apart nat_eq order (λ i j d lt h.
    let hi : i < length order = omega arith in
    ne_eqb _ _ (λ e.
    let same : rank n r (get_or order i 0) ≡ rank n r (get_or order j 0) =
    ap (rank n r) (get_or_default order i 0 d hi ∙ e ∙ get_or_default order j d 0 h) in
    omega (arith, k.each i hi, k.each j h, same)))

ranked_each : (n : ℕ) (r : ℕ → ℕ → Bool) → IsOrder n r → (order : List ℕ) → IsRanked n r order → (v : ℕ) → 0 < v → v ≤ n → Contains order v
ranked_each n r o order k v lo hi =
    let p = rank n r v - 1 in
    let e : rank n r v ≡ p + 1 = omega (arith, rank-pos n r o v lo hi) in
    let h : p < length order = omega (arith, rank-pos n r o v lo hi, rank-le n r o v hi, k.places) in
    (p, h, at_rank n r o order k v p v hi e h)

pub ranked_once : (n : ℕ) (r : ℕ → ℕ → Bool) → IsOrder n r → (order : List ℕ) → IsRanked n r order → ListsOnce n order
ranked_once n r o order k = record { only = k.nodes; each = ranked_each n r o order k; distinct = ranked_distinct n r order k }

place_is_rank : (n : ℕ) (r : ℕ → ℕ → Bool) → IsOrder n r → (order : List ℕ) → IsRanked n r order → (v : ℕ) → v ≤ n → place_of (0 ∷ order) v ≡ rank n r v
place_is_rank n r o order k v hi = elim (cases_lt 0 v) [
  | inl lo ↦
      let p = rank n r v - 1 in
      let e : rank n r v ≡ p + 1 = omega (arith, rank-pos n r o v lo hi) in
      let h : p < length order = omega (arith, rank-pos n r o v lo hi, rank-le n r o v hi, k.places) in
      let there = place_of-further 0 v order (λ z. omega (arith, z)) in
      let at = place_of-at order v p (Apart-from_IsDistinct order (ranked_distinct n r order k)) h (at_rank n r o order k v p 0 hi e h) in
      omega (arith, there, at, e)
  | inr z ↦
      let e : v ≡ 0 = omega arith in
      subst (λ x. place_of (0 ∷ order) x ≡ rank n r x) (sym e) (place_of-here 0 order ∙ sym (rank-zero n r o))
]

pub ranked_before : (n : ℕ) (r : ℕ → ℕ → Bool) → IsOrder n r → (order : List ℕ) → IsRanked n r order → (u v : ℕ) → u ≤ n → v ≤ n → r u v ≡ true → Before order u v
ranked_before n r o order k u v hu hv t =
    omega (arith, place_is_rank n r o order k u hu, place_is_rank n r o order k v hv, rank-lt n r o u v hu hv t)
