-- An assignment that satisfies the clauses of an order puts nodes 0 to n in an order.
use Rattle.serializability.proofs.Prelude.{◌≡◌, ◌≢◌, ◌⊎◌, ℕ, zero, suc, ◌+◌, ◌<◌, ◌≤◌, Bool, true, false, eqb, ltb, cond, not, List, [], ◌∷◌, refl, sym, ap, ◌∙◌, subst, inl, inr, arith, eq-eqb, ne_eqb, filter, list_any, range_with_len}
use Rattle.serializability.proofs.Prelude.{AllByRecursion, map, cases_eq, cases_lt, cases_order, cases_Bool, false≢true, or_cases, and_parts, and_from, not-true, not_from_false, not_from_true, lt-ltb, le-ltb, and_left, or_left, or_right}
use Rattle.serializability.proofs.Prelude.{Edge, pairs_of, Literal, value_of, literal_true, clause_true, Known, free_pairs, pair_place, edge_literal, edge_clause, triple_clauses, triples_of, order_clauses, is_before, IsOrder}
use Rattle.serializability.proofs.Places.{each_of_append, each_of_flat_map, each_of_map, each_of_range}

abbrev pub lit : List (ℕ × ℕ) → List Bool → ℕ → ℕ → Bool
lit pairs values u v = literal_true values (edge_literal pairs u v)

pub lit_up : (pairs : List (ℕ × ℕ)) (values : List Bool) (u v : ℕ) → u < v → lit pairs values u v ≡ value_of values (suc (pair_place pairs u v))
lit_up pairs values u v h = let t : ltb u v ≡ true = lt-ltb u v h in rw t refl

pub lit_down : (pairs : List (ℕ × ℕ)) (values : List Bool) (u v : ℕ) → u < v → lit pairs values v u ≡ not (value_of values (suc (pair_place pairs u v)))
lit_down pairs values u v h = let t : ltb v u ≡ false = le-ltb v u (omega arith) in rw t refl

not_not : (b : Bool) → not (not b) ≡ b
not_not true = refl
not_not false = refl

pub lit_flip : (pairs : List (ℕ × ℕ)) (values : List Bool) (u v : ℕ) → u ≢ v → lit pairs values v u ≡ not (lit pairs values u v)
lit_flip pairs values u v ne = elim (cases_order u v) [
  | inl e ↦ absurd (ne e)
  | inr o ↦ elim o [
    | inl h ↦ lit_down pairs values u v h ∙ ap not (sym (lit_up pairs values u v h))
    | inr h ↦ lit_up pairs values v u h ∙ sym (ap not (lit_down pairs values v u h) ∙ not_not (value_of values (suc (pair_place pairs v u))))
  ]
]

-- what is known is a strict order
pub record IsKnown (known : Known) : Type 0 where
  pub irreflexive : (u : ℕ) → known u u ≡ false
  pub transitive : (u v w : ℕ) → known u v ≡ true → known v w ≡ true → known u w ≡ true

pub known_apart : (known : Known) → IsKnown known → (u v : ℕ) → known u v ≡ true → known v u ≡ false
known_apart known k u v t = elim (cases_Bool (known v u)) [
  | inl b ↦ absurd (false≢true (sym (k.irreflexive u) ∙ k.transitive u v u t b))
  | inr f ↦ f
]

pub known_other : (known : Known) → IsKnown known → (u v : ℕ) → known u v ≡ true → u ≢ v
known_other known k u v t e = false≢true (sym (k.irreflexive u) ∙ subst (λ x. known u x ≡ true) (sym e) t)

-- ---- what stands before what
abbrev r : Known → List (ℕ × ℕ) → List Bool → ℕ → ℕ → Bool
r known pairs values u v = is_before known pairs values u v

other_nodes : (u v : ℕ) → u ≢ v → not (eqb u v) ≡ true
other_nodes u v ne = not_from_false (eqb u v) (ne_eqb u v ne)

pub before_known : (known : Known) (pairs : List (ℕ × ℕ)) (values : List Bool) (u v : ℕ) → u ≢ v → known u v ≡ true → is_before known pairs values u v ≡ true
before_known known pairs values u v ne t =
    and_from (not (eqb u v)) _ (other_nodes u v ne) (or_left (known u v) _ t)

pub before_lit : (known : Known) (pairs : List (ℕ × ℕ)) (values : List Bool) (u v : ℕ) → u ≢ v → known v u ≡ false → lit pairs values u v ≡ true → is_before known pairs values u v ≡ true
before_lit known pairs values u v ne f t =
    and_from (not (eqb u v)) _ (other_nodes u v ne) (or_right (known u v) _ (and_from (not (known v u)) (lit pairs values u v) (not_from_false (known v u) f) t))

record Puts (known : Known) (pairs : List (ℕ × ℕ)) (values : List Bool) (u v : ℕ) : Type 0 where
  pub apart : u ≢ v
  pub why : (known u v ≡ true) ⊎ ((known v u ≡ false) × (lit pairs values u v ≡ true))

puts : (known : Known) (pairs : List (ℕ × ℕ)) (values : List Bool) (u v : ℕ) → is_before known pairs values u v ≡ true → Puts known pairs values u v
puts known pairs values u v t =
    let p = and_parts (not (eqb u v)) _ t in
    record {
      apart = λ e. false≢true (sym (not_from_true (eqb u v) (eq-eqb u v e)) ∙ p.0);
      why = elim (or_cases (known u v) _ p.1) [
        | inl k ↦ inl k
        | inr l ↦ let q = and_parts (not (known v u)) (lit pairs values u v) l in inr (not-true (known v u) q.0, q.1)
      ];
    }

before_total : (known : Known) (pairs : List (ℕ × ℕ)) (values : List Bool) (u v : ℕ) → u ≢ v → (is_before known pairs values u v ≡ true) ⊎ (is_before known pairs values v u ≡ true)
before_total known pairs values u v ne =
    let ne' : v ≢ u = λ e. ne (sym e) in
    elim (cases_Bool (known u v)) [
      | inl t ↦ inl (before_known known pairs values u v ne t)
      | inr f ↦ elim (cases_Bool (known v u)) [
        | inl t ↦ inr (before_known known pairs values v u ne' t)
        | inr g ↦ elim (cases_Bool (lit pairs values u v)) [
          | inl t ↦ inl (before_lit known pairs values u v ne g t)
          | inr l ↦ inr (before_lit known pairs values v u ne' f (lit_flip pairs values u v ne ∙ ap not l))
        ]
      ]
    ]

never_both : (known : Known) (pairs : List (ℕ × ℕ)) (values : List Bool) → IsKnown known → (u v : ℕ) → is_before known pairs values u v ≡ true → is_before known pairs values v u ≡ true → ⊥
never_both known pairs values k u v a b =
    let p = puts known pairs values u v a in
    let q = puts known pairs values v u b in
    elim p.why [
      | inl t ↦ elim q.why [
        | inl t' ↦ false≢true (sym (known_apart known k u v t) ∙ t')
        | inr l ↦ false≢true (sym l.0 ∙ t)
      ]
      | inr l ↦ elim q.why [
        | inl t' ↦ false≢true (sym l.0 ∙ t')
        | inr l' ↦ false≢true (sym (lit_flip pairs values u v p.apart ∙ ap not l.1) ∙ l'.1)
      ]
    ]

not_before : (known : Known) (pairs : List (ℕ × ℕ)) (values : List Bool) → IsKnown known → (u v : ℕ) → is_before known pairs values u v ≡ true → is_before known pairs values v u ≡ false
not_before known pairs values k u v a = elim (cases_Bool (is_before known pairs values v u)) [
  | inl b ↦ absurd (never_both known pairs values k u v a b)
  | inr f ↦ f
]

before_itself : (known : Known) (pairs : List (ℕ × ℕ)) (values : List Bool) (u : ℕ) → is_before known pairs values u u ≡ false
before_itself known pairs values u = and_left (not (eqb u u)) _ (not_from_true (eqb u u) (eq-eqb u u refl))

-- ---- what a clause of edges says
abbrev pub AnyEdge : (Edge → Type 0) → List Edge → Type 0
AnyEdge P [] = ⊥
AnyEdge P (e ∷ edges) = P e ⊎ AnyEdge P edges

abbrev Said : Known → List (ℕ × ℕ) → List Bool → Edge → Type 0
Said known pairs values e = (known e.0 e.1 ≡ true) ⊎ ((known e.1 e.0 ≡ false) × (lit pairs values e.0 e.1 ≡ true))

some_known : (known : Known) (pairs : List (ℕ × ℕ)) (values : List Bool) (edges : List Edge) → list_any (λ e. known e.0 e.1) edges ≡ true → AnyEdge (Said known pairs values) edges
some_known known pairs values [] t = false≢true t
some_known known pairs values (e ∷ edges) t = elim (or_cases (known e.0 e.1) (list_any (λ e. known e.0 e.1) edges) t) [
  | inl h ↦ inl (inl h)
  | inr h ↦ inr (some_known known pairs values edges h)
]

some_literal : (known : Known) (pairs : List (ℕ × ℕ)) (values : List Bool) (edges : List Edge) → clause_true values (map (λ e. edge_literal pairs e.0 e.1) (filter (λ e. not (known e.1 e.0)) edges)) ≡ true → AnyEdge (Said known pairs values) edges
some_literal known pairs values [] t = false≢true t
some_literal known pairs values (e ∷ edges) t = elim (cases_Bool (known e.1 e.0)) [
  | inl k ↦
      let out : not (known e.1 e.0) ≡ false = not_from_true (known e.1 e.0) k in
      inr (some_literal known pairs values edges (rw out at t))
  | inr k ↦
      let in' : not (known e.1 e.0) ≡ true = not_from_false (known e.1 e.0) k in
      elim (or_cases (lit pairs values e.0 e.1) (clause_true values (map (λ e. edge_literal pairs e.0 e.1) (filter (λ e. not (known e.1 e.0)) edges))) (rw in' at t)) [
        | inl l ↦ inl (inr (k, l))
        | inr l ↦ inr (some_literal known pairs values edges l)
      ]
]

only_clause : (P : List Literal → Type 0) (b : Bool) (c : List Literal) → b ≡ false → AllByRecursion P (cond b [] (c ∷ [])) → P c
only_clause P true c e h = absurd (false≢true (sym e))
only_clause P false c e h = h.0

clause_says : (known : Known) (pairs : List (ℕ × ℕ)) (values : List Bool) (edges : List Edge) → AllByRecursion (λ c. clause_true values c ≡ true) (edge_clause known pairs edges) → AnyEdge (Said known pairs values) edges
clause_says known pairs values edges h = elim (cases_Bool (list_any (λ e. known e.0 e.1) edges)) [
  | inl t ↦ some_known known pairs values edges t
  | inr f ↦ some_literal known pairs values edges (only_clause (λ c. clause_true values c ≡ true) (list_any (λ e. known e.0 e.1) edges) _ f h)
]

said_before : (known : Known) (pairs : List (ℕ × ℕ)) (values : List Bool) (u v : ℕ) → u ≢ v → Said known pairs values (u, v) → is_before known pairs values u v ≡ true
said_before known pairs values u v ne (inl k) = before_known known pairs values u v ne k
said_before known pairs values u v ne (inr l) = before_lit known pairs values u v ne l.0 l.1

-- ---- no cycle of three
abbrev pub NoTurn : (ℕ → ℕ → Bool) → ℕ → ℕ → ℕ → Type 0
NoTurn b u v w = b u v ≡ true → b v w ≡ true → b w u ≡ true → ⊥

pub record NoTurns (b : ℕ → ℕ → Bool) (i j k : ℕ) : Type 0 where
  pub up : NoTurn b i j k
  pub down : NoTurn b j i k

turn_ends : (known : Known) (pairs : List (ℕ × ℕ)) (values : List Bool) → IsKnown known → (u v w : ℕ) → AnyEdge (Said known pairs values) ((v, u) ∷ (w, v) ∷ (u, w) ∷ []) → NoTurn (is_before known pairs values) u v w
turn_ends known pairs values k u v w any a b c =
    let p = puts known pairs values u v a in
    let q = puts known pairs values v w b in
    let s = puts known pairs values w u c in
    elim any [
      | inl h ↦ never_both known pairs values k u v a (said_before known pairs values v u (λ e. p.apart (sym e)) h)
      | inr any' ↦ elim any' [
        | inl h ↦ never_both known pairs values k v w b (said_before known pairs values w v (λ e. q.apart (sym e)) h)
        | inr any'' ↦ elim any'' [
          | inl h ↦ never_both known pairs values k w u c (said_before known pairs values u w (λ e. s.apart (sym e)) h)
          | inr none ↦ none
        ]
      ]
    ]

-- the third clause speaks of the turn j i k, whose edges it names in another order
turned : (P : Edge → Type 0) (a b c : Edge) → AnyEdge P (a ∷ b ∷ c ∷ []) → AnyEdge P (a ∷ c ∷ b ∷ [])
turned P a b c (inl h) = inl h
turned P a b c (inr (inl h)) = inr (inr (inl h))
turned P a b c (inr (inr (inl h))) = inr (inl h)
turned P a b c (inr (inr (inr h))) = absurd h

no_turns : (known : Known) (pairs : List (ℕ × ℕ)) (values : List Bool) → IsKnown known → (i j k : ℕ) → AllByRecursion (λ c. clause_true values c ≡ true) (triple_clauses known pairs (i, j, k)) → NoTurns (is_before known pairs values) i j k
no_turns known pairs values kn i j k h =
    let P : List Literal → Type 0 = λ c. clause_true values c ≡ true in
    let parts = each_of_append P (edge_clause known pairs ((j, i) ∷ (k, j) ∷ (i, k) ∷ [])) (edge_clause known pairs ((i, j) ∷ (j, k) ∷ (k, i) ∷ [])) h in
    record {
      up = turn_ends known pairs values kn i j k (clause_says known pairs values ((j, i) ∷ (k, j) ∷ (i, k) ∷ []) parts.0);
      down = turn_ends known pairs values kn j i k
          (turned (Said known pairs values) (i, j) (j, k) (k, i) (clause_says known pairs values ((i, j) ∷ (j, k) ∷ (k, i) ∷ []) parts.1));
    }

pub no_cycle : (b : ℕ → ℕ → Bool) (low n : ℕ) → ((i j k : ℕ) → low ≤ i → i < j → j < k → k ≤ n → NoTurns b i j k) → (u v w : ℕ) → low ≤ u → low ≤ v → low ≤ w → u ≤ n → v ≤ n → w ≤ n → u ≢ v → v ≢ w → u ≢ w → NoTurn b u v w
no_cycle r low n h u v w lu lv lw hu hv hw uv vw uw a b c =
    elim (cases_lt u v) [
      | inl l1 ↦ elim (cases_lt v w) [
        | inl l2 ↦ (h u v w lu l1 l2 hw).up a b c
        | inr g2 ↦ let wv : w < v = omega (arith, vw) in elim (cases_lt u w) [
          | inl l3 ↦ (h u w v lu l3 wv hv).down c a b
          | inr g3 ↦ (h w u v lw (omega (arith, uw)) l1 hv).up c a b
        ]
      ]
      | inr g1 ↦ let vu : v < u = omega (arith, uv) in elim (cases_lt u w) [
        | inl l2 ↦ (h v u w lv vu l2 hw).down a b c
        | inr g2 ↦ let wu : w < u = omega (arith, uw) in elim (cases_lt v w) [
          | inl l3 ↦ (h v w u lv l3 wu hu).up b c a
          | inr g3 ↦ (h w v u lw (omega (arith, vw)) vu hu).down b c a
        ]
      ]
    ]

-- ---- pairs and triples of nodes that follow each other
pub each_pair_of : (P : (ℕ × ℕ) → Type 0) (a n : ℕ) → AllByRecursion P (pairs_of (range_with_len a n)) → (u v : ℕ) → a ≤ u → u < v → v < a + n → P (u, v)
each_pair_of P a zero h u v lo lt hi = absurd (omega arith)
each_pair_of P a (suc n) h u v lo lt hi =
    let parts = each_of_append P (map (λ b. (a, b)) (range_with_len (a + 1) n)) (pairs_of (range_with_len (a + 1) n)) h in
    elim (cases_eq a u) [
      | inl e ↦ subst (λ q. P (q, v)) e (each_of_range (λ b. P (a, b)) (a + 1) n (each_of_map P (λ b. (a, b)) (range_with_len (a + 1) n) parts.0) v (omega (arith, e)) (omega arith))
      | inr ne ↦ each_pair_of P (a + 1) n parts.1 u v (omega (arith, ne)) lt (omega arith)
    ]

pub each_triple_of : (P : (ℕ × ℕ × ℕ) → Type 0) (a n : ℕ) → AllByRecursion P (triples_of (range_with_len a n)) → (u v w : ℕ) → a ≤ u → u < v → v < w → w < a + n → P (u, v, w)
each_triple_of P a zero h u v w lo lt lt' hi = absurd (omega arith)
each_triple_of P a (suc n) h u v w lo lt lt' hi =
    let parts = each_of_append P (map (λ p. (a, p.0, p.1)) (pairs_of (range_with_len (a + 1) n))) (triples_of (range_with_len (a + 1) n)) h in
    elim (cases_eq a u) [
      | inl e ↦ subst (λ q. P (q, v, w)) e (each_pair_of (λ p. P (a, p.0, p.1)) (a + 1) n (each_of_map P (λ p. (a, p.0, p.1)) (pairs_of (range_with_len (a + 1) n)) parts.0) v w (omega (arith, e)) lt' (omega arith))
      | inr ne ↦ each_triple_of P (a + 1) n parts.1 u v w (omega (arith, ne)) lt lt' (omega arith)
    ]

pub turns_kept : (known : Known) (values : List Bool) → IsKnown known → (low m : ℕ) → AllByRecursion (λ c. clause_true values c ≡ true) (order_clauses known (range_with_len low m)) → (i j k : ℕ) → low ≤ i → i < j → j < k → k < low + m → NoTurns (is_before known (free_pairs known (range_with_len low m)) values) i j k
turns_kept known values kn low m h i j k lo ij jk hi =
    let P : List Literal → Type 0 = λ c. clause_true values c ≡ true in
    let nodes = range_with_len low m in
    let pairs = free_pairs known nodes in
    no_turns known pairs values kn i j k
    (each_triple_of (λ t. AllByRecursion P (triple_clauses known pairs t)) low m
    (each_of_flat_map P (triple_clauses known pairs) (triples_of nodes) h) i j k lo ij jk hi)

-- ---- the order
pub is_order : (n : ℕ) (known : Known) (pairs : List (ℕ × ℕ)) (values : List Bool) → IsKnown known → ((v : ℕ) → 0 < v → v ≤ n → is_before known pairs values 0 v ≡ true) → ((i j k : ℕ) → 1 ≤ i → i < j → j < k → k ≤ n → NoTurns (is_before known pairs values) i j k) → IsOrder n (is_before known pairs values)
is_order n known pairs values kn first h = record {
  irreflexive = before_itself known pairs values;
  total = λ u v hu hv ne. before_total known pairs values u v ne;
  apart = λ u v hu hv t. not_before known pairs values kn u v t;
  transitive = λ u v w hu hv hw a b. (
      let B = is_before known pairs values in
      let p = puts known pairs values u v a in
      let q = puts known pairs values v w b in
      let uw : u ≢ w = λ e. never_both known pairs values kn u v a (subst (λ x. is_before known pairs values v x ≡ true) (sym e) b) in
      elim (before_total known pairs values u w uw) [
        | inl t ↦ t
        | inr c ↦ absurd (elim (cases_lt 0 u) [
          | inr z ↦ let e : u ≡ 0 = omega arith in
              let lw : 0 < w = omega (arith, uw, e) in
              never_both known pairs values kn 0 w (first w lw hw) (subst (λ x. is_before known pairs values w x ≡ true) e c)
          | inl lu ↦ elim (cases_lt 0 v) [
            | inr z ↦ let e : v ≡ 0 = omega arith in
                never_both known pairs values kn 0 u (first u lu hu) (subst (λ x. is_before known pairs values u x ≡ true) e a)
            | inl lv ↦ elim (cases_lt 0 w) [
              | inr z ↦ let e : w ≡ 0 = omega arith in
                  never_both known pairs values kn 0 v (first v lv hv) (subst (λ x. is_before known pairs values v x ≡ true) e b)
              | inl lw ↦ no_cycle B 1 n h u v w lu lv lw hu hv hw p.apart q.apart uw a b c
            ]
          ]
        ])
      ]);
  zero_first = first;
}
