-- The edges of a graph with a bit for each pair of nodes.
use Rattle.known_graph.proofs.Prelude.{◌≡◌, ◌≢◌, ◌⊎◌, ◌↔◌, ℕ, ◌+◌, ◌-◌, ◌*◌, ◌/◌, ◌%◌, ◌<◌, ◌≤◌, Bool, true, eqb, ◌||◌, ◌&&◌, List, length, get_or, take, drop, replicate, refl, sym, ap, ◌∙◌, subst, inl, inr, arith, eq-eqb, ne_eqb, eqb-true}
use Rattle.known_graph.proofs.Prelude.{Contains, filter, bit_at, mul_comm, cases_lt, false≢true, or_cases, and_parts, and_from, or_left, or_right, or_from, and_right, get_or-take, get_or-drop, length-take-le, length-drop, length-replicate}
use Rattle.known_graph.proofs.Prelude.{div_below, same_from_place, mul-add-lt, le-div, mul-le, same_bool, Edge, Graph, bit_of, row_len, all_pairs, bit_place, is_marked, marked_graph, IsMarked, IsBitGraph, IsKnownGraph}
use Rattle.known_graph.proofs.Words.{bit_of-past, bit_of-zeros, SetsBit}
use Rattle.known_graph.proofs.JoinedRows.{row_place_word, row_bit_is}
use Rattle.known_graph.proofs.Listed.{In-from_Contains, Contains-from_In, In-filter, In-of_filter, In-pairs, In-of_pairs, In, filter_same}

-- ---- places of bits
pub nodes_within_row : (n : ℕ) → n < row_len n * 64
unfolding row_len
nodes_within_row n = omega arith

pub node_word : (n u : ℕ) → u ≤ n → u / 64 < row_len n
node_word n u h = div_below u 64 (row_len n) (omega arith) (omega (arith, nodes_within_row n))

-- a place is a word of a row and a bit of that word
pub place_word : (n u v : ℕ) → bit_place n u v / 64 ≡ u * row_len n + v / 64
unfolding bit_place
place_word n u v = row_place_word (row_len n) u v

pub mark_is : (n : ℕ) (words : List ℕ) (u v : ℕ) → is_marked n words (u, v) ≡ eqb (bit_at (get_or words (u * row_len n + v / 64) 0) (v % 64)) 1
unfolding is_marked bit_place
mark_is n words u v = row_bit_is words (row_len n) u v

pub place_within : (n u v : ℕ) → u ≤ n → v ≤ n → bit_place n u v / 64 < (n + 1) * row_len n
place_within n u v hu hv =
    let w : v / 64 < row_len n = div_below v 64 (row_len n) (omega arith) (omega (arith, nodes_within_row n)) in
    omega (arith, place_word n u v, mul-add-lt u (row_len n) (v / 64) (n + 1) (omega arith) w, mul_comm (n + 1) (row_len n))

pub place_apart : (n u v a b : ℕ) → v < row_len n * 64 → b < row_len n * 64 → bit_place n u v ≡ bit_place n a b → (u ≡ a) × (v ≡ b)
unfolding bit_place
place_apart n u v a b hv hb e = same_from_place u v a b (row_len n * 64) hv hb e

pub row_end : (n u : ℕ) → u < n + 1 → u * row_len n + row_len n ≤ (n + 1) * row_len n
row_end n u h =
    let e : u * row_len n + row_len n ≡ (u + 1) * row_len n = omega arith in
    omega (arith, e, mul-le (u + 1) (row_len n) (n + 1) (row_len n) (omega arith) (omega arith))

-- ---- edges and their bits
pub record IsEdge (n : ℕ) (words : List ℕ) (u v : ℕ) : Type 0 where
  pub from : u ≤ n
  pub to : v ≤ n
  pub marked : is_marked n words (u, v) ≡ true

pub edge_of_Contains : (n : ℕ) (words : List ℕ) (u v : ℕ) → Contains (marked_graph n words).edges (u, v) → IsEdge n words u v
unfolding marked_graph
edge_of_Contains n words u v c =
    let e : Edge = (u, v) in
    let r = In-of_filter (is_marked n words) e (all_pairs n) (In-from_Contains (filter (is_marked n words) (all_pairs n)) e c) in
    let p = In-of_pairs e n r.0 in
    record { from = p.0; to = p.1; marked = r.1 }

pub Contains-of_edge : (n : ℕ) (words : List ℕ) (u v : ℕ) → IsEdge n words u v → Contains (marked_graph n words).edges (u, v)
unfolding marked_graph
Contains-of_edge n words u v h =
    let e : Edge = (u, v) in
    Contains-from_In (filter (is_marked n words) (all_pairs n)) e (In-filter (is_marked n words) e (all_pairs n) (In-pairs u v n h.from h.to) h.marked)

pub marked_nodes : (n : ℕ) (words : List ℕ) → (marked_graph n words).nodes ≡ n
unfolding marked_graph
marked_nodes n words = refl

pub bit_graph : (n : ℕ) (words : List ℕ) → IsMarked n words → IsBitGraph (marked_graph n words)
unfolding marked_graph
bit_graph n words m = record {
  few = m.few;
  test = is_marked n words;
  listed = refl;
  joined = λ e c. let h = edge_of_Contains n words e.0 e.1 c in (h.from, h.to);
}

pub node_in : (n : ℕ) (words : List ℕ) (g : Graph) (u : ℕ) → marked_graph n words ≡ g → u ≤ g.nodes → u ≤ n
node_in n words g u e h = omega (arith, marked_nodes n words, ap (λ x. x.nodes) e, h)

-- ---- no bits
pub none_marked : (n m : ℕ) (words : List ℕ) → n ≤ 1000 → m ≡ row_len n → words ≡ replicate ((n + 1) * m) 0 → IsMarked n words
unfolding is_marked
none_marked n m words few same e = record {
  few = few;
  places = ap length e ∙ length-replicate {A = ℕ} ((n + 1) * m) 0 ∙ ap (λ x. (n + 1) * x) same;
  clear = λ u v hu above small. ap (λ l. bit_of l (bit_place n u v)) e ∙ bit_of-zeros ((n + 1) * m) (bit_place n u v);
}

pub no_edges : (n m : ℕ) (words : List ℕ) → words ≡ replicate m 0 → (e : Edge) → Contains (marked_graph n words).edges e → ⊥
unfolding is_marked
no_edges n m words z e c =
    false≢true (sym (ap (λ l. bit_of l (bit_place n e.0 e.1)) z ∙ bit_of-zeros m (bit_place n e.0 e.1)) ∙ (edge_of_Contains n words e.0 e.1 c).marked)

-- ---- the words of a row
abbrev pub row_of : ℕ → List ℕ → ℕ → List ℕ
row_of n words u = take (row_len n) (drop (u * row_len n) words)

pub length-row_of : (n : ℕ) (words : List ℕ) (u : ℕ) → IsMarked n words → u ≤ n → length (row_of n words u) ≡ row_len n
length-row_of n words u m hu =
    let fits = row_end n u (omega arith) in
    length-take-le (row_len n) (drop (u * row_len n) words) (omega (arith, length-drop (u * row_len n) words, m.places, fits))

-- the same, as code cuts it
pub row_shown : (n : ℕ) (words : List ℕ) (u l : ℕ) (held : List ℕ) → l ≡ row_len n → held ≡ words → take (u * l + l - u * l) (drop (u * l) held) ≡ row_of n words u
row_shown n words u l held q r =
    let count : u * l + l - u * l ≡ l = omega arith in
    ap (λ k. take k (drop (u * l) held)) count ∙ ap (λ x. take x (drop (u * x) held)) q ∙ ap (λ x. take (row_len n) (drop (u * row_len n) x)) r

pub row_within : (n : ℕ) (words : List ℕ) (u l : ℕ) (held : List ℕ) → IsMarked n words → u ≤ n → l ≡ row_len n → held ≡ words → u * l + l ≤ length held
row_within n words u l held m hu q r =
    let e : u * l + l ≡ u * row_len n + row_len n = ap (λ x. u * x + x) q in
    omega (arith, e, row_end n u (omega arith), m.places, ap length r)

-- its place is a small number
pub row_small : (n u l : ℕ) → n ≤ 1000 → u ≤ n → l ≡ row_len n → u * l + l ≤ 16016
unfolding row_len
row_small n u l few hu e = omega (arith, mul-le u l 1000 16 (omega arith) (omega (arith, e)), e)

row_bit : (n : ℕ) (words : List ℕ) (u v : ℕ) → v < row_len n * 64 → bit_of (row_of n words u) v ≡ is_marked n words (u, v)
unfolding bit_of
row_bit n words u v h =
    let w : v / 64 < row_len n = div_below v 64 (row_len n) (omega arith) h in
    ap (λ x. eqb (bit_at x (v % 64)) 1) (get_or-take (row_len n) (drop (u * row_len n) words) (v / 64) 0 w ∙ get_or-drop (u * row_len n) words (v / 64) 0)
    ∙ sym (mark_is n words u v)

row_bit_edge : (n : ℕ) (words : List ℕ) (u v : ℕ) → IsMarked n words → u ≤ n → bit_of (row_of n words u) v ≡ true → IsEdge n words u v
row_bit_edge n words u v m hu t = elim (cases_lt v (row_len n * 64)) [
  | inl small ↦ elim (cases_lt n v) [
    | inl above ↦ absurd (false≢true (sym (m.clear u v hu above small) ∙ sym (row_bit n words u v small) ∙ t))
    | inr to ↦ record { from = hu; to = to; marked = sym (row_bit n words u v small) ∙ t }
  ]
  | inr large ↦
      let past : length (row_of n words u) ≤ v / 64 = omega (arith, length-row_of n words u m hu, le-div (row_len n) v 64 (omega arith) large) in
      absurd (false≢true (sym (bit_of-past (row_of n words u) v past) ∙ t))
]

edge_row_bit : (n : ℕ) (words : List ℕ) (u v : ℕ) → IsEdge n words u v → bit_of (row_of n words u) v ≡ true
edge_row_bit n words u v h = row_bit n words u v (omega (arith, h.to, nodes_within_row n)) ∙ h.marked

pub row_edges : (n : ℕ) (words : List ℕ) (u : ℕ) → IsMarked n words → u ≤ n → (v : ℕ) → ((bit_of (row_of n words u) v ≡ true) ↔ Contains (marked_graph n words).edges (u, v))
row_edges n words u m hu v = (
  λ t. Contains-of_edge n words u v (row_bit_edge n words u v m hu t),
  λ c. edge_row_bit n words u v (edge_of_Contains n words u v c),
)

-- ---- one edge more
pub sets_place : (n u v : ℕ) (old new held : List ℕ) (place : ℕ) → held ≡ old → place ≡ bit_place n u v → ((k : ℕ) → bit_of new k ≡ (eqb k place || bit_of held k)) → length new ≡ length held → SetsBit old new (bit_place n u v)
sets_place n u v old new held place e p bits len = record {
  bits = λ k. bits k ∙ ap (λ x. eqb k x || bit_of held k) p ∙ ap (λ l. eqb k (bit_place n u v) || bit_of l k) e;
  len = len ∙ ap length e;
}

pub set_keeps : (n : ℕ) (old new : List ℕ) (u v : ℕ) → IsMarked n old → u ≤ n → v ≤ n → SetsBit old new (bit_place n u v) → IsMarked n new
unfolding is_marked
set_keeps n old new u v m hu hv s = record {
  few = m.few;
  places = s.len ∙ m.places;
  clear = λ a b ha above small.
      (let apart : bit_place n a b ≢ bit_place n u v = λ e. (let same = (place_apart n a b u v small (omega (arith, nodes_within_row n)) e).1 in omega (arith, same)) in
      s.bits (bit_place n a b) ∙ or_from (eqb (bit_place n a b) (bit_place n u v)) (bit_of old (bit_place n a b)) (ne_eqb (bit_place n a b) (bit_place n u v) apart) (m.clear a b ha above small));
}

edge_after : (n : ℕ) (old new : List ℕ) (u v : ℕ) → u ≤ n → v ≤ n → SetsBit old new (bit_place n u v) → (a b : ℕ) → IsEdge n new a b → IsEdge n old a b ⊎ ((a ≡ u) × (b ≡ v))
unfolding is_marked
edge_after n old new u v hu hv s a b h =
    elim (or_cases (eqb (bit_place n a b) (bit_place n u v)) (bit_of old (bit_place n a b)) (sym (s.bits (bit_place n a b)) ∙ h.marked)) [
      | inl t ↦ inr (place_apart n a b u v (omega (arith, h.to, nodes_within_row n)) (omega (arith, nodes_within_row n)) (eqb-true (bit_place n a b) (bit_place n u v) t))
      | inr t ↦ inl (record { from = h.from; to = h.to; marked = t })
    ]

edge_before : (n : ℕ) (old new : List ℕ) (u v : ℕ) → SetsBit old new (bit_place n u v) → (a b : ℕ) → IsEdge n old a b → IsEdge n new a b
unfolding is_marked
edge_before n old new u v s a b h = record {
  from = h.from;
  to = h.to;
  marked = s.bits (bit_place n a b) ∙ or_right (eqb (bit_place n a b) (bit_place n u v)) (bit_of old (bit_place n a b)) h.marked;
}

edge_set : (n : ℕ) (old new : List ℕ) (u v : ℕ) → u ≤ n → v ≤ n → SetsBit old new (bit_place n u v) → IsEdge n new u v
unfolding is_marked
edge_set n old new u v hu hv s = record {
  from = hu;
  to = hv;
  marked = s.bits (bit_place n u v) ∙ or_left (eqb (bit_place n u v) (bit_place n u v)) (bit_of old (bit_place n u v)) (eq-eqb (bit_place n u v) (bit_place n u v) refl);
}

pub pair_same : (e : Edge) (u v : ℕ) → e.0 ≡ u → e.1 ≡ v → e ≡ (u, v)
pair_same e u v p q = ap (λ a. (let x : Edge = (a, e.1) in x)) p ∙ ap (λ b. (let x : Edge = (u, b) in x)) q

pub set_edges : (n : ℕ) (old new : List ℕ) (u v : ℕ) → u ≤ n → v ≤ n → SetsBit old new (bit_place n u v) → (e : Edge) → (Contains (marked_graph n new).edges e ↔ (Contains (marked_graph n old).edges e ⊎ (e ≡ (u, v))))
set_edges n old new u v hu hv s e = (
  λ c. elim (edge_after n old new u v hu hv s e.0 e.1 (edge_of_Contains n new e.0 e.1 c)) [
    | inl h ↦ inl (Contains-of_edge n old e.0 e.1 h)
    | inr h ↦ inr (pair_same e u v h.0 h.1)
  ],
  λ d. elim d [
    | inl c ↦ Contains-of_edge n new e.0 e.1 (edge_before n old new u v s e.0 e.1 (edge_of_Contains n old e.0 e.1 c))
    | inr h ↦ subst (Contains (marked_graph n new).edges) (sym h) (Contains-of_edge n new u v (edge_set n old new u v hu hv s))
  ],
)

-- ---- a row that is joined to another
pub record JoinsRow (n : ℕ) (old new : List ℕ) (to from : ℕ) : Type 0 where
  pub bits : (u v : ℕ) → v < row_len n * 64 → is_marked n new (u, v) ≡ (is_marked n old (u, v) || (eqb u to && is_marked n old (from, v)))
  pub len : length new ≡ length old

pub joins_row : (n len to from : ℕ) (old held new : List ℕ) → len ≡ row_len n → held ≡ old → ((u v : ℕ) → v < len * 64 → bit_of new (u * (len * 64) + v) ≡ (bit_of held (u * (len * 64) + v) || (eqb u to && bit_of held (from * (len * 64) + v))))
    → length new ≡ length held → JoinsRow n old new to from
unfolding is_marked bit_place
joins_row n len to from old held new same e bits count = grind arith

pub join_keeps : (n : ℕ) (old new : List ℕ) (to from : ℕ) → IsMarked n old → from ≤ n → JoinsRow n old new to from → IsMarked n new
join_keeps n old new to from m hf j = record {
  few = m.few;
  places = j.len ∙ m.places;
  clear = λ u v hu above small.
      j.bits u v small
      ∙ or_from (is_marked n old (u, v)) (eqb u to && is_marked n old (from, v)) (m.clear u v hu above small) (and_right (eqb u to) (is_marked n old (from, v)) (m.clear from v hf above small));
}

pub join_edges : (n : ℕ) (old new : List ℕ) (to from : ℕ) → to ≤ n → from ≤ n → JoinsRow n old new to from → (u v : ℕ) → (Contains (marked_graph n new).edges (u, v) ↔ (Contains (marked_graph n old).edges (u, v) ⊎ ((u ≡ to) × Contains (marked_graph n old).edges (from, v))))
join_edges n old new to from ht hf j u v =
    let small : v ≤ n → v < row_len n * 64 = λ h. omega (arith, h, nodes_within_row n) in (
      λ c. (let e = edge_of_Contains n new u v c in
          elim (or_cases (is_marked n old (u, v)) (eqb u to && is_marked n old (from, v)) (sym (j.bits u v (small e.to)) ∙ e.marked)) [
            | inl a ↦ inl (Contains-of_edge n old u v (record { from = e.from; to = e.to; marked = a }))
            | inr b ↦ (let p = and_parts (eqb u to) (is_marked n old (from, v)) b in
                inr (eqb-true u to p.0, Contains-of_edge n old from v (record { from = hf; to = e.to; marked = p.1 })))
          ]),
      λ d. elim d [
        | inl c ↦ (let e = edge_of_Contains n old u v c in
            Contains-of_edge n new u v (record { from = e.from; to = e.to; marked = j.bits u v (small e.to) ∙ or_left (is_marked n old (u, v)) (eqb u to && is_marked n old (from, v)) e.marked }))
        | inr p ↦ (let e = edge_of_Contains n old from v p.1 in
            Contains-of_edge n new u v (record {
              from = omega (arith, p.0);
              to = e.to;
              marked = j.bits u v (small e.to) ∙ or_right (is_marked n old (u, v)) (eqb u to && is_marked n old (from, v)) (and_from (eqb u to) (is_marked n old (from, v)) (eq-eqb u to p.0) e.marked);
            }))
      ],
    )

-- ---- a graph that is known
pub known_graph : (g : Graph) → IsBitGraph g → ((v : ℕ) → 0 < v → v ≤ g.nodes → Contains g.edges (0, v)) → IsKnownGraph g
known_graph g b initial = record { few = b.few; test = b.test; listed = b.listed; initial = initial; joined = b.joined }

-- the edges from node 0 to the nodes below v
pub record IsBegun (n v : ℕ) (g : Graph) : Type 0 where
  pub nodes : g.nodes ≡ n
  pub graph : IsBitGraph g
  pub edges : (e : Edge) → (Contains g.edges e ↔ ((e.0 ≡ 0) × (0 < e.1) × (e.1 < v)))

pub begun_none : (n : ℕ) (g : Graph) → g.nodes ≡ n → IsBitGraph g → ((e : Edge) → Contains g.edges e → ⊥) → IsBegun n 1 g
begun_none n g nodes graph none = record { nodes = nodes; graph = graph; edges = λ e. (λ c. absurd (none e c), λ p. absurd (omega (arith, p.2, p.1))) }

pub begun_more : (n v : ℕ) (g h : Graph) → 0 < v → IsBegun n v g → h.nodes ≡ g.nodes → IsBitGraph h → ((e : Edge) → (Contains h.edges e ↔ (Contains g.edges e ⊎ (e ≡ (0, v))))) → IsBegun n (v + 1) h
begun_more n v g h lo b nodes graph more = record {
  nodes = nodes ∙ b.nodes;
  graph = graph;
  edges = λ e. (
    λ c. elim ((more e).0 c) [
      | inl k ↦ (let p = (b.edges e).0 k in (p.0, p.1, omega (arith, p.2)))
      | inr s ↦ (let right = ap (λ (x : Edge). x.1) s in (ap (λ (x : Edge). x.0) s, omega (arith, right, lo), omega (arith, right)))
    ],
    λ p. elim (cases_lt e.1 v) [
      | inl lt ↦ (more e).1 (inl ((b.edges e).1 (p.0, p.1, lt)))
      | inr ge ↦ (more e).1 (inr (pair_same e 0 v p.0 (omega (arith, ge, p.2))))
    ],
  );
}

pub begun_known : (n v : ℕ) (g : Graph) → v ≡ n + 1 → IsBegun n v g → IsKnownGraph g
begun_known n v g end b = known_graph g b.graph (λ w lo hi. (b.edges (0, w)).1 (refl, lo, omega (arith, end, hi, b.nodes)))

pub begun_edges : (n v : ℕ) (g : Graph) → v ≡ n + 1 → IsBegun n v g → (e : Edge) → (Contains g.edges e ↔ ((e.0 ≡ 0) × (0 < e.1) × (e.1 ≤ n)))
begun_edges n v g end b e = (λ c. let p = (b.edges e).0 c in (p.0, p.1, omega (arith, p.2, end)), λ p. (b.edges e).1 (p.0, p.1, omega (arith, p.2, end)))

-- ---- graphs with the same edges
pub same_lists : (n : ℕ) (p q : Edge → Bool) → ((e : Edge) → (Contains (filter p (all_pairs n)) e ↔ Contains (filter q (all_pairs n)) e)) → filter p (all_pairs n) ≡ filter q (all_pairs n)
same_lists n p q h =
    let all = all_pairs n in
    let kept : (r : Edge → Bool) (e : Edge) → In e all → r e ≡ true → Contains (filter r all) e = λ r e i t. Contains-from_In (filter r all) e (In-filter r e all i t) in
    let passed : (r : Edge → Bool) (e : Edge) → Contains (filter r all) e → r e ≡ true = λ r e c. (In-of_filter r e all (In-from_Contains (filter r all) e c)).1 in
    filter_same p q all (λ e i. same_bool (p e) (q e) (λ t. passed q e ((h e).0 (kept p e i t))) (λ t. passed p e ((h e).1 (kept q e i t))))

pub same_graph : (g h : Graph) → IsKnownGraph g → IsKnownGraph h → g.nodes ≡ h.nodes → ((e : Edge) → (Contains g.edges e ↔ Contains h.edges e)) → g ≡ h
same_graph g h k l same edges =
    let there : h.edges ≡ filter l.test (all_pairs g.nodes) = l.listed ∙ ap (λ n. filter l.test (all_pairs n)) (sym same) in
    let lists = same_lists g.nodes k.test l.test (λ e. (
      λ c. subst (λ x. Contains x e) there ((edges e).0 (subst (λ x. Contains x e) (sym k.listed) c)),
      λ c. subst (λ x. Contains x e) k.listed ((edges e).1 (subst (λ x. Contains x e) (sym there) c)),
    )) in
    ap (λ m. (let x : Graph = record { nodes = m; edges = g.edges } in x)) same
    ∙ ap (λ x. (let r : Graph = record { nodes = h.nodes; edges = x } in r)) (k.listed ∙ lists ∙ sym there)
