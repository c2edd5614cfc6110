-- The nodes of a part by their numbers.
use Rattle.point_laws.proofs.Prelude.{◌≡◌, ℕ, zero, suc, ◌<◌, ◌≤◌, List, [], length, Option, Some, None, refl, ap, subst, arith, slice_get, option_and_then, option_map, option_map_or, Committed, node_in, done, left, kept, IsSublist}
use Rattle.point_laws.proofs.Prelude.{IsNodePart, AreNodes}
use Rattle.point_laws.proofs.Parted.{of_some}
use Rattle.point_laws.proofs.Left.{AreKept}

-- ---- places in the two lists, from 0
abbrev place_at : {nodes parts : List Committed} → AreNodes nodes parts → ℕ → ℕ
place_at done i = 0
place_at (left x xs ys h) i = suc (place_at h i)
place_at (kept x y xs ys r h) zero = 0
place_at (kept x y xs ys r h) (suc i) = suc (place_at h i)

abbrev place_back : {nodes parts : List Committed} → AreNodes nodes parts → ℕ → Option ℕ
place_back done j = None
place_back (left x xs ys h) zero = None
place_back (left x xs ys h) (suc j) = place_back h j
place_back (kept x y xs ys r h) zero = Some 0
place_back (kept x y xs ys r h) (suc j) = option_map suc (place_back h j)

place_to : {nodes parts : List Committed} (h : AreNodes nodes parts) (i : ℕ) → i < length parts → (place_back h (place_at h i) ≡ Some i) × (place_at h i < length nodes)
place_to done i lt = absurd (omega (arith, lt))
place_to (left x xs ys h) i lt = let r = place_to h i lt in (r.0, omega (arith, r.1))
place_to (kept x y xs ys r h) zero lt = (refl, omega arith)
place_to (kept x y xs ys r h) (suc i) lt = let s = place_to h i (omega (arith, lt)) in (ap (option_map suc) s.0, omega (arith, s.1))

place_from : {nodes parts : List Committed} (h : AreNodes nodes parts) (j i : ℕ) → place_back h j ≡ Some i → (j ≡ place_at h i) × (i < length parts)
place_from done j i e = cc
place_from (left x xs ys h) zero i e = cc
place_from (left x xs ys h) (suc j) i e = let r = place_from h j i e in (ap suc r.0, r.1)
place_from (kept x y xs ys r h) zero zero e = (refl, omega arith)
place_from (kept x y xs ys r h) zero (suc i) e = cc
place_from (kept x y xs ys r h) (suc j) i e =
    let s = of_some suc (place_back h j) i e in
    let t = place_from h j s.0 s.1 in
    subst (λ k. (suc j ≡ place_at (kept x y xs ys r h) k) × (k < suc (length ys))) s.2 (ap suc t.0, omega (arith, t.1))

place_rises : {nodes parts : List Committed} (h : AreNodes nodes parts) (i k : ℕ) → i < k → k < length parts → place_at h i < place_at h k
place_rises done i k lt hi = absurd (omega (arith, hi))
place_rises (left x xs ys h) i k lt hi = let r = place_rises h i k lt hi in omega (arith, r)
place_rises (kept x y xs ys r h) i zero lt hi = absurd (omega (arith, lt))
place_rises (kept x y xs ys r h) zero (suc k) lt hi = omega arith
place_rises (kept x y xs ys r h) (suc i) (suc k) lt hi = let s = place_rises h i k (omega (arith, lt)) (omega (arith, hi)) in omega (arith, s)

record Pair (nodes parts : List Committed) (j i : ℕ) : Type 0 where
  pub node : Committed
  pub part : Committed
  pub at : slice_get nodes j ≡ Some node
  pub at_part : slice_get parts i ≡ Some part
  pub is : IsNodePart node part

place_pair : {nodes parts : List Committed} (h : AreNodes nodes parts) (i : ℕ) → i < length parts → Pair nodes parts (place_at h i) i
place_pair done i lt = absurd (omega (arith, lt))
place_pair (left x xs ys h) i lt = let r = place_pair h i lt in record { node = r.node; part = r.part; at = r.at; at_part = r.at_part; is = r.is }
place_pair (kept x y xs ys r h) zero lt = record { node = x; part = y; at = refl; at_part = refl; is = r }
place_pair (kept x y xs ys r h) (suc i) lt = let s = place_pair h i (omega (arith, lt)) in record { node = s.node; part = s.part; at = s.at; at_part = s.at_part; is = s.is }

-- ---- numbers, from 1
abbrev pub number_at : {nodes parts : List Committed} → AreNodes nodes parts → ℕ → ℕ
number_at h zero = 0
number_at h (suc i) = suc (place_at h i)

abbrev pub number_back : {nodes parts : List Committed} → AreNodes nodes parts → ℕ → Option ℕ
number_back h zero = None
number_back h (suc j) = option_map suc (place_back h j)

pub are_kept : {nodes parts : List Committed} (h : AreNodes nodes parts) → AreKept (number_back h) (number_at h) (length nodes) (length parts)
are_kept {nodes} {parts} h = record { to = to; from = from }
  where
    to : (v : ℕ) → 0 < v → v ≤ length parts → (number_back h (number_at h v) ≡ Some v) × (0 < number_at h v) × (number_at h v ≤ length nodes)
    to zero lo hi = absurd (omega (arith, lo))
    to (suc i) lo hi = let r = place_to h i (omega (arith, hi)) in (ap (option_map suc) r.0, omega arith, omega (arith, r.1))

    from : (u v : ℕ) → number_back h u ≡ Some v → (u ≡ number_at h v) × (0 < v) × (v ≤ length parts)
    from zero v e = cc
    from (suc j) v e =
        let r = of_some suc (place_back h j) v e in
        let s = place_from h j r.0 r.1 in
        subst (λ k. (suc j ≡ number_at h k) × (0 < k) × (k ≤ length parts)) r.2 (ap suc s.0, omega arith, omega (arith, s.1))

pub number_rises : {nodes parts : List Committed} (h : AreNodes nodes parts) (a b : ℕ) → 0 < a → a < b → b ≤ length parts → number_at h a < number_at h b
number_rises h zero b lo lt hi = absurd (omega (arith, lo))
number_rises h (suc i) zero lo lt hi = absurd (omega (arith, lt))
number_rises h (suc i) (suc k) lo lt hi = let r = place_rises h i k (omega (arith, lt)) (omega (arith, hi)) in omega (arith, r)

-- what a node of the part has of the node that it is
pub record AreOf (nodes parts : List Committed) (u v : ℕ) : Type 0 where
  pub session : option_map_or (λ (c : Committed). c.session) (node_in parts v) 0 ≡ option_map_or (λ (c : Committed). c.session) (node_in nodes u) 0
  pub begun : option_and_then (λ (c : Committed). c.begun) (node_in parts v) ≡ option_and_then (λ (c : Committed). c.begun) (node_in nodes u)
  pub ended : option_and_then (λ (c : Committed). c.ended) (node_in parts v) ≡ option_and_then (λ (c : Committed). c.ended) (node_in nodes u)
  pub ops : IsSublist (option_map_or (λ (c : Committed). c.ops) (node_in nodes u) []) (option_map_or (λ (c : Committed). c.ops) (node_in parts v) [])

pub are_of : {nodes parts : List Committed} (h : AreNodes nodes parts) (v : ℕ) → 0 < v → v ≤ length parts → AreOf nodes parts (number_at h v) v
are_of h zero lo hi = absurd (omega (arith, lo))
are_of h (suc i) lo hi =
    let r = place_pair h i (omega (arith, hi)) in
    let e = r.at in
    let f = r.at_part in
    record { session = rw (e, f) r.is.session; begun = rw (e, f) r.is.begun; ended = rw (e, f) r.is.ended; ops = rw (e, f) r.is.ops }
