-- Nodes in the order of what they reach.
use Rattle.branching.proofs.Prelude.{◌≡◌, ℕ, zero, suc, ◌+◌, ◌-◌, ◌<◌, ◌≤◌, eqb, List, [], ◌∷◌, ◌++◌, length, get_or, map, sym, ap, ◌∙◌, subst, inl, inr, arith, eq-eqb, Contains, All, range_with_len, cases_eq, cases_lt, cond-true}
use Rattle.branching.proofs.Prelude.{get_or-map, length-map, map_push, IsPermutation-map, length_permutation, Contains-permutation, place_of, Has, Has-from_Contains, Contains-from_Has, place_of-further, place_within, Has-from_range, Graph}
use Rattle.branching.proofs.Prelude.{Ranked, unreached, IsOrderByReach}
use Rattle.std.specs.List.Sorted.{IsPermutation, IsNonDecreasingBy}
use Rattle.std.proofs.lemmas.List.FromFn.{length-range_with_len}

-- ---- one more node is listed
range_more : (a n : ℕ) → range_with_len a (suc n) ≡ range_with_len a n ++ (a + n) ∷ []
range_more a zero = let e : a ≡ a + 0 = omega arith in ap (λ k. k ∷ []) e
range_more a (suc n) = let e : a + 1 + n ≡ a + suc n = omega arith in ap (λ l. a ∷ l) (range_more (a + 1) n ∙ ap (λ k. range_with_len (a + 1) n ++ k ∷ []) e)

pub listed_more : (all new : List Ranked) (x : Ranked) (number : ℕ) → 1 ≤ number → new ≡ all ++ x ∷ [] → x.node ≡ number → map (λ (y : Ranked). y.node) all ≡ range_with_len 1 (number - 1)
    → map (λ (y : Ranked). y.node) new ≡ range_with_len 1 (number + 1 - 1)
listed_more all new x number lo e node h =
    let last : number ≡ 1 + (number - 1) = omega (arith, lo) in
    let more : suc (number - 1) ≡ number + 1 - 1 = omega (arith, lo) in
    ap (map (λ (y : Ranked). y.node)) e
    ∙ map_push (λ (y : Ranked). y.node) all x
    ∙ ap (λ l. l ++ x.node ∷ []) h
    ∙ ap (λ k. range_with_len 1 (number - 1) ++ k ∷ []) (node ∙ last)
    ∙ sym (range_more 1 (number - 1))
    ∙ ap (range_with_len 1) more

-- ---- the place of a node

pub place_get : (xs : List ℕ) (v : ℕ) → Has v xs → get_or xs (place_of xs v) 0 ≡ v
place_get [] v h = absurd h
place_get (x ∷ xs) v h = elim (cases_eq x v) [
  | inl e ↦ ap (λ k. get_or (x ∷ xs) k 0) (cond-true {A = ℕ} (eqb x v) 0 _ (eq-eqb x v e)) ∙ e
  | inr ne ↦ elim h [
    | inl e ↦ absurd (ne e)
    | inr k ↦ ap (λ n. get_or (x ∷ xs) n 0) (place_of-further x v xs ne) ∙ place_get xs v k
  ]
]

-- ---- sorted by a count, a node of a lesser count stands first
pub record Rises (count : ℕ → ℕ) (order : List ℕ) : Type 0 where
  pub each : (i j : ℕ) → i ≤ j → j < length order → count (get_or order i 0) ≤ count (get_or order j 0)

pub places_rise : (count : ℕ → ℕ) (order : List ℕ) (u v : ℕ) → Rises count order → Has u order → Has v order → count u < count v → place_of order u < place_of order v
places_rise count order u v r hu hv lt = elim (cases_lt (place_of order u) (place_of order v)) [
  | inl less ↦ less
  | inr ge ↦
      (let up = r.each (place_of order v) (place_of order u) ge (place_within order u hu) in
      let a = ap count (place_get order u hu) in
      let b = ap count (place_get order v hv) in
      absurd (omega (arith, up, a, b, lt)))
]

node_read : (xs : List Ranked) (i : ℕ) (d : Ranked) → i < length xs → get_or (map (λ (x : Ranked). x.node) xs) i 0 ≡ (get_or xs i d).node
node_read xs i d h = get_or-map (λ (x : Ranked). x.node) xs i d 0 h

pub rises_sorted : (rows : Graph) (xs : List Ranked) → IsNonDecreasingBy (λ (x : Ranked). x.unreached) xs → All (λ (x : Ranked). x.unreached ≡ unreached rows x.node) xs → Rises (unreached rows) (map (λ (x : Ranked). x.node) xs)
rises_sorted rows xs up counts = record {
  each = λ i j le lt.
      let d : Ranked = record { unreached = 0; node = 0 } in
      let size = length-map xs (λ (x : Ranked). x.node) in
      let hj : j < length xs = omega (arith, lt, size) in
      let hi : i < length xs = omega (arith, hj, le) in
      let u = up i j d le hj in
      let a = counts i d hi in
      let b = counts j d hj in
      let p = ap (unreached rows) (node_read xs i d hi) in
      let q = ap (unreached rows) (node_read xs j d hj) in
      omega (arith, u, a, b, p, q);
}

pub ordered : (rows : Graph) (all xs : List Ranked) (order : List ℕ) → map (λ (x : Ranked). x.node) all ≡ range_with_len 1 rows.nodes → IsPermutation all xs → IsNonDecreasingBy (λ (x : Ranked). x.unreached) xs
    → All (λ (x : Ranked). x.unreached ≡ unreached rows x.node) xs → order ≡ map (λ (x : Ranked). x.node) xs → IsOrderByReach rows order
ordered rows all xs order nodes p up counts e =
    let m = IsPermutation-map (λ (x : Ranked). x.node) all xs p in
    let r = subst (λ (l : List ℕ). Rises (unreached rows) l) (sym e) (rises_sorted rows xs up counts) in
    record {
      places = ap (λ (l : List ℕ). length l) e ∙ length_permutation (map (λ (x : Ranked). x.node) all) (map (λ (x : Ranked). x.node) xs) m ∙ ap (λ (l : List ℕ). length l) nodes ∙ length-range_with_len 1 rows.nodes;
      each = λ v lo hi.
          let within : Contains (range_with_len 1 rows.nodes) v = Contains-from_Has (range_with_len 1 rows.nodes) v (Has-from_range v 1 rows.nodes (omega arith) (omega arith)) in
          subst (λ (l : List ℕ). Contains l v) (sym e)
          (Contains-permutation (map (λ (x : Ranked). x.node) all) (map (λ (x : Ranked). x.node) xs) v m (subst (λ (l : List ℕ). Contains l v) (sym nodes) within));
      sorted = λ u v hu hv lt. places_rise (unreached rows) order u v r (Has-from_Contains order u hu) (Has-from_Contains order v hv) lt;
    }
