-- An assignment made of an order, and the clauses that it satisfies.
use Rattle.serializability.proofs.Prelude.{◌≡◌, ◌≢◌, ◌⊎◌, ℕ, zero, suc, ◌+◌, ◌-◌, ◌<◌, ◌≤◌, Bool, true, false, eqb, ltb, cond, not, ◌&&◌, List, [], ◌∷◌, ◌++◌, get_or, refl, sym, ap, ◌∙◌, inl, inr, arith, eqb-true, eq-eqb, filter, list_any}
use Rattle.serializability.proofs.Prelude.{range_with_len, AllByRecursion, map, cases_lt, cases_order, cases_Bool, cond-true, cond-false, false≢true, or_parts, and_parts, and_from, not_from_false, lt-ltb, le-ltb, or_left, or_right, Before}
use Rattle.serializability.proofs.Prelude.{ListsOnce, Edge, pairs_of, Literal, value_of, clause_true, Known, is_free, free_pairs, pair_place, edge_literal, edge_clause, triple_clauses, triples_of, order_clauses}
use Rattle.serializability.proofs.Places.{each_from_append, each_from_flat_map, each_from_map, each_from_range, each_of_filter}
use Rattle.serializability.proofs.Once.{at, places_apart}
use Rattle.serializability.proofs.Tournament.{lit, lit_up, lit_down, AnyEdge, each_pair_of}

-- ---- the place of a pair
abbrev pub HasPair : ℕ → ℕ → List (ℕ × ℕ) → Type 0
HasPair i j [] = ⊥
HasPair i j (p ∷ ps) = ((p.0 ≡ i) × (p.1 ≡ j)) ⊎ HasPair i j ps

each_in : (Q : (ℕ × ℕ) → Type 0) (ps : List (ℕ × ℕ)) → ((i j : ℕ) → HasPair i j ps → Q (i, j)) → AllByRecursion Q ps
each_in Q [] h = tt
each_in Q (p ∷ ps) h = (h p.0 p.1 (inl (refl, refl)), each_in Q ps (λ i j k. h i j (inr k)))

pub pair_free : (known : Known) (low m i j : ℕ) → low ≤ i → i < j → j < low + m → is_free known (i, j) ≡ true → HasPair i j (free_pairs known (range_with_len low m))
pair_free known low m i j lo lt hi t =
    let all = pairs_of (range_with_len low m) in
    let P : (ℕ × ℕ) → Type 0 = λ p. HasPair p.0 p.1 (free_pairs known (range_with_len low m)) in
    each_pair_of (λ p. is_free known p ≡ true → P p) low m
    (each_of_filter P (is_free known) all (each_in P (free_pairs known (range_with_len low m)) (λ u v h. h))) i j lo lt hi t

abbrev same_pair : (ℕ × ℕ) → ℕ → ℕ → Bool
same_pair p i j = eqb p.0 i && eqb p.1 j

pub get_pair : (f : (ℕ × ℕ) → Bool) (ps : List (ℕ × ℕ)) (extra : List Bool) (i j : ℕ) (d : Bool) → HasPair i j ps → get_or (map f ps ++ extra) (pair_place ps i j) d ≡ f (i, j)
get_pair f [] extra i j d h = absurd h
get_pair f (p ∷ ps) extra i j d h = elim (cases_Bool (same_pair p i j)) [
  | inl t ↦
      let b = and_parts (eqb p.0 i) (eqb p.1 j) t in
      let e0 : p.0 ≡ i = eqb-true p.0 i b.0 in
      let e1 : p.1 ≡ j = eqb-true p.1 j b.1 in
      let here : pair_place (p ∷ ps) i j ≡ 0 = cond-true (same_pair p i j) 0 (suc (pair_place ps i j)) t in
      ap (λ k. get_or (map f (p ∷ ps) ++ extra) k d) here ∙ ap (λ a. f (a, p.1)) e0 ∙ ap (λ b. f (i, b)) e1
  | inr n ↦
      let there : pair_place (p ∷ ps) i j ≡ suc (pair_place ps i j) = cond-false (same_pair p i j) 0 (suc (pair_place ps i j)) n in
      ap (λ k. get_or (map f (p ∷ ps) ++ extra) k d) there ∙ elim h [
        | inl e ↦ absurd (false≢true (sym n ∙ and_from (eqb p.0 i) (eqb p.1 j) (eq-eqb p.0 i e.0) (eq-eqb p.1 j e.1)))
        | inr k ↦ get_pair f ps extra i j d k
      ]
]

-- ---- the assignment
abbrev pub in_order : List ℕ → (ℕ × ℕ) → Bool
in_order order p = ltb (at order p.0) (at order p.1)

abbrev pub made : Known → List ℕ → List ℕ → List Bool → List Bool
made known nodes order extra = map (in_order order) (free_pairs known nodes) ++ extra

-- what is known agrees with the order
abbrev pub Agrees : Known → List ℕ → Type 0
Agrees known order = (u v : ℕ) → known u v ≡ true → Before order u v

unknown : (known : Known) (order : List ℕ) → Agrees known order → (u v : ℕ) → Before order u v → known v u ≡ false
unknown known order agrees u v b = elim (cases_Bool (known v u)) [
  | inl t ↦ absurd (let back = agrees v u t in omega (arith, b, back))
  | inr f ↦ f
]

pub value_at : (values : List Bool) (k : ℕ) → value_of values (suc k) ≡ get_or values k false
value_at values k = let e : suc k - 1 ≡ k = omega arith in ap (λ q. get_or values q false) e

pub lit_made : (known : Known) (low m : ℕ) (order : List ℕ) (extra : List Bool) → Agrees known order → (u v : ℕ) → low ≤ u → low ≤ v → u < low + m → v < low + m → Before order u v → known u v ≡ false → lit (free_pairs known (range_with_len low m)) (made known (range_with_len low m) order extra) u v ≡ true
lit_made known low m order extra agrees u v lu lv hu hv b f =
    let pairs = free_pairs known (range_with_len low m) in
    let values = made known (range_with_len low m) order extra in
    let g = unknown known order agrees u v b in
    elim (cases_order u v) [
      | inl e ↦ absurd (let same = ap (at order) e in omega (arith, same, b))
      | inr o ↦ elim o [
        | inl lt ↦
            let free : is_free known (u, v) ≡ true = and_from (not (known u v)) (not (known v u)) (not_from_false _ f) (not_from_false _ g) in
            lit_up pairs values u v lt
            ∙ value_at values (pair_place pairs u v)
            ∙ get_pair (in_order order) pairs extra u v false (pair_free known low m u v lu lt hv free)
            ∙ lt-ltb _ _ b
        | inr lt ↦
            let free : is_free known (v, u) ≡ true = and_from (not (known v u)) (not (known u v)) (not_from_false _ g) (not_from_false _ f) in
            lit_down pairs values v u lt
            ∙ ap not (value_at values (pair_place pairs v u)
            ∙ get_pair (in_order order) pairs extra v u false (pair_free known low m v u lv lt hu free)
            ∙ le-ltb (at order v) (at order u) (omega (arith, b)))
      ]
    ]

-- ---- clauses of edges
abbrev InRange : ℕ → ℕ → Edge → Type 0
InRange low m e = (low ≤ e.0) × (low ≤ e.1) × (e.0 < low + m) × (e.1 < low + m)

none_known : (known : Known) (e : Edge) (edges : List Edge) → list_any (λ e. known e.0 e.1) (e ∷ edges) ≡ false → (known e.0 e.1 ≡ false) × (list_any (λ e. known e.0 e.1) edges ≡ false)
none_known known e edges f = or_parts (known e.0 e.1) (list_any (λ e. known e.0 e.1) edges) f

literal_made : (known : Known) (low m : ℕ) (order : List ℕ) (extra : List Bool) → Agrees known order → (edges : List Edge) → AllByRecursion (InRange low m) edges → list_any (λ e. known e.0 e.1) edges ≡ false → AnyEdge (λ e. Before order e.0 e.1) edges →
    clause_true (made known (range_with_len low m) order extra) (map (λ e. edge_literal (free_pairs known (range_with_len low m)) e.0 e.1) (filter (λ e. not (known e.1 e.0)) edges)) ≡ true
literal_made known low m order extra agrees [] w f any = absurd any
literal_made known low m order extra agrees (e ∷ edges) w f (inl b) =
    let in' : not (known e.1 e.0) ≡ true = not_from_false (known e.1 e.0) (unknown known order agrees e.0 e.1 b) in
    let l = lit_made known low m order extra agrees e.0 e.1 w.0.0 w.0.1 w.0.2 w.0.3 b (none_known known e edges f).0 in
    rw in' (or_left _ _ l)
literal_made known low m order extra agrees (e ∷ edges) w f (inr any) =
    let rest = literal_made known low m order extra agrees edges w.1 (none_known known e edges f).1 any in
    elim (cases_Bool (not (known e.1 e.0))) [
      | inl t ↦ rw t (or_right _ _ rest)
      | inr n ↦ rw n rest
    ]

pub clause_from : (P : List Literal → Type 0) (b : Bool) (c : List Literal) → (b ≡ false → P c) → AllByRecursion P (cond b [] (c ∷ []))
clause_from P true c h = tt
clause_from P false c h = (h refl, tt)

clause_made : (known : Known) (low m : ℕ) (order : List ℕ) (extra : List Bool) → Agrees known order → (edges : List Edge) → AllByRecursion (InRange low m) edges → AnyEdge (λ e. Before order e.0 e.1) edges →
    AllByRecursion (λ c. clause_true (made known (range_with_len low m) order extra) c ≡ true) (edge_clause known (free_pairs known (range_with_len low m)) edges)
clause_made known low m order extra agrees edges w any =
    clause_from (λ c. clause_true (made known (range_with_len low m) order extra) c ≡ true) (list_any (λ e. known e.0 e.1) edges) _
    (λ f. literal_made known low m order extra agrees edges w f any)

-- of three nodes on a circle some one stands before the one behind it
turn_broken : (n : ℕ) (order : List ℕ) → ListsOnce n order → (i j k : ℕ) → i ≤ n → i ≢ k → AnyEdge (λ e. Before order e.0 e.1) ((j, i) ∷ (k, j) ∷ (i, k) ∷ [])
turn_broken n order once i j k hi ik = elim (cases_lt (at order j) (at order i)) [
  | inl h ↦ inl h
  | inr g ↦ elim (cases_lt (at order k) (at order j)) [
    | inl h ↦ inr (inl h)
    | inr g' ↦ inr (inr (inl (omega (arith, places_apart n order once i k hi ik, g, g'))))
  ]
]

turn_broken' : (n : ℕ) (order : List ℕ) → ListsOnce n order → (i j k : ℕ) → i ≤ n → i ≢ k → AnyEdge (λ e. Before order e.0 e.1) ((i, j) ∷ (j, k) ∷ (k, i) ∷ [])
turn_broken' n order once i j k hi ik = elim (cases_lt (at order i) (at order j)) [
  | inl h ↦ inl h
  | inr g ↦ elim (cases_lt (at order j) (at order k)) [
    | inl h ↦ inr (inl h)
    | inr g' ↦ inr (inr (inl (omega (arith, places_apart n order once i k hi ik, g, g'))))
  ]
]

pub each_pair_from : (P : (ℕ × ℕ) → Type 0) (a n : ℕ) → ((u v : ℕ) → a ≤ u → u < v → v < a + n → P (u, v)) → AllByRecursion P (pairs_of (range_with_len a n))
each_pair_from P a zero h = tt
each_pair_from P a (suc n) h =
    each_from_append P (map (λ b. (a, b)) (range_with_len (a + 1) n)) (pairs_of (range_with_len (a + 1) n))
    (each_from_map P (λ b. (a, b)) (range_with_len (a + 1) n) (each_from_range (λ b. P (a, b)) (a + 1) n (λ v lo hi. h a v (omega arith) (omega arith) (omega arith))))
    (each_pair_from P (a + 1) n (λ u v lo lt hi. h u v (omega arith) lt (omega arith)))

pub each_triple_from : (P : (ℕ × ℕ × ℕ) → Type 0) (a n : ℕ) → ((u v w : ℕ) → a ≤ u → u < v → v < w → w < a + n → P (u, v, w)) → AllByRecursion P (triples_of (range_with_len a n))
each_triple_from P a zero h = tt
each_triple_from P a (suc n) h =
    each_from_append P (map (λ p. (a, p.0, p.1)) (pairs_of (range_with_len (a + 1) n))) (triples_of (range_with_len (a + 1) n))
    (each_from_map P (λ p. (a, p.0, p.1)) (pairs_of (range_with_len (a + 1) n)) (each_pair_from (λ p. P (a, p.0, p.1)) (a + 1) n (λ v w lo lt hi. h a v w (omega arith) (omega arith) lt (omega arith))))
    (each_triple_from P (a + 1) n (λ u v w lo lt lt' hi. h u v w (omega arith) lt lt' (omega arith)))

pub order_clauses_made : (known : Known) (n low m : ℕ) (order : List ℕ) (extra : List Bool) → low + m ≡ n + 1 → ListsOnce n order → Agrees known order →
    AllByRecursion (λ c. clause_true (made known (range_with_len low m) order extra) c ≡ true) (order_clauses known (range_with_len low m))
order_clauses_made known n low m order extra top once agrees =
    let P : List Literal → Type 0 = λ c. clause_true (made known (range_with_len low m) order extra) c ≡ true in
    let pairs = free_pairs known (range_with_len low m) in
    each_from_flat_map P (triple_clauses known pairs) (triples_of (range_with_len low m))
    (each_triple_from (λ t. AllByRecursion P (triple_clauses known pairs t)) low m (λ i j k lo ij jk hi.
    let hn : i ≤ n = omega (arith, top) in
    let ne : i ≢ k = λ e. omega (arith, e) in
    let wij : InRange low m (i, j) = (omega arith, omega arith, omega arith, omega arith) in
    let wji : InRange low m (j, i) = (omega arith, omega arith, omega arith, omega arith) in
    let wjk : InRange low m (j, k) = (omega arith, omega arith, omega arith, omega arith) in
    let wkj : InRange low m (k, j) = (omega arith, omega arith, omega arith, omega arith) in
    let wik : InRange low m (i, k) = (omega arith, omega arith, omega arith, omega arith) in
    let wki : InRange low m (k, i) = (omega arith, omega arith, omega arith, omega arith) in
    each_from_append P (edge_clause known pairs ((j, i) ∷ (k, j) ∷ (i, k) ∷ [])) (edge_clause known pairs ((i, j) ∷ (j, k) ∷ (k, i) ∷ []))
    (clause_made known low m order extra agrees ((j, i) ∷ (k, j) ∷ (i, k) ∷ []) (wji, (wkj, (wik, tt))) (turn_broken n order once i j k hn ne))
    (clause_made known low m order extra agrees ((i, j) ∷ (j, k) ∷ (k, i) ∷ []) (wij, (wjk, (wki, tt))) (turn_broken' n order once i j k hn ne))))
