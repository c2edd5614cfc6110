-- The edges of a graph, row after row.
use Rattle.known_graph.proofs.Prelude.{◌≡◌, ◌⊎◌, ℕ, ◌+◌, ◌-◌, ◌<◌, ◌≤◌, Bool, true, false, List, [], ◌∷◌, ◌++◌, sym, ap, ◌∙◌, subst, inl, inr, cond, arith, eqb, ◌&&◌, ◌||◌, map, Contains, filter, flat_map, range_with_len, cases_Bool}
use Rattle.known_graph.proofs.Prelude.{false≢true, append-nil, filter-append, list_any-append, Edge, Graph, all_pairs, IsKnownGraph, has_edge}
use Rattle.known_graph.proofs.Listed.{In-from_Contains, Contains-from_In, In-filter, In-of_filter, In-pairs}
use Rattle.known_graph.proofs.Rests.{up_to, up_to_first, Split}

-- the edges from one node to some, and those from some to nodes 0 to n
abbrev pub edges_to : (Edge → Bool) → ℕ → List ℕ → List Edge
edges_to test u nodes = filter test (map (λ v. (u, v)) nodes)

abbrev pub edges_from : (Edge → Bool) → ℕ → List ℕ → List Edge
edges_from test n nodes = filter test (flat_map (λ u. map (λ v. (u, v)) (range_with_len 0 (n + 1))) nodes)

pub edge_first : (test : Edge → Bool) (u v end : ℕ) → v < end → Split (edges_to test u (up_to v end)) (filter test ((u, v) ∷ [])) (edges_to test u (up_to (v + 1) end))
edge_first test u v end h = record {
  parts = ap (edges_to test u) (up_to_first v end h) ∙ filter-append test ((u, v) ∷ []) (map (λ w. (u, w)) (up_to (v + 1) end));
}

pub row_first : (test : Edge → Bool) (n u end : ℕ) → end ≡ n + 1 → u < end → Split (edges_from test n (up_to u end)) (edges_to test u (up_to 0 end)) (edges_from test n (up_to (u + 1) end))
row_first test n u end e h =
    let row : ℕ → List Edge = λ w. map (λ v. (w, v)) (range_with_len 0 (n + 1)) in
    let m : n + 1 ≡ end - 0 = omega (arith, e) in
    record {
      parts = ap (edges_from test n) (up_to_first u end h)
          ∙ filter-append test (row u) (flat_map row (up_to (u + 1) end))
          ∙ ap (λ k. edges_to test u (range_with_len 0 k) ++ edges_from test n (up_to (u + 1) end)) m;
    }

-- all of them
pub all_edges : (g : Graph) (k : IsKnownGraph g) (end : ℕ) → end ≡ g.nodes + 1 → edges_from k.test g.nodes (up_to 0 end) ≡ g.edges
unfolding all_pairs
all_edges g k end e =
    let m : end - 0 ≡ g.nodes + 1 = omega (arith, e) in
    ap (λ l. edges_from k.test g.nodes (range_with_len 0 l)) m ∙ sym k.listed

one_kept : (test : Edge → Bool) (e : Edge) → test e ≡ true → filter test (e ∷ []) ≡ e ∷ []
one_kept test e t = ap (λ b. cond b (e ∷ []) []) t

none_kept : (test : Edge → Bool) (e : Edge) → test e ≡ false → filter test (e ∷ []) ≡ []
none_kept test e t = ap (λ b. cond b (e ∷ []) []) t

-- what is added of one pair
pub pair_added : (g : Graph) (k : IsKnownGraph g) (u v a b : ℕ) (old new : List Edge) → a ≡ u → b ≡ v → u < g.nodes + 1 → v < g.nodes + 1 → (Contains g.edges (a, b) → new ≡ old ++ (a, b) ∷ []) → Contains g.edges (a, b) ⊎ (new ≡ old) → new ≡ old ++ filter k.test ((u, v) ∷ [])
pair_added g k u v a b old new p q hu hv added same =
    let e : Edge = (u, v) in
    let f : Edge = (a, b) in
    let here : f ≡ e = ap (λ x. (x, b)) p ∙ ap (λ y. (u, y)) q in
    let kept : k.test e ≡ true → Contains g.edges f = λ t.
    subst (λ x. Contains g.edges x) (sym here) (subst (λ l. Contains l e) (sym k.listed)
    (Contains-from_In (filter k.test (all_pairs g.nodes)) e (In-filter k.test e (all_pairs g.nodes) (In-pairs u v g.nodes (omega arith) (omega arith)) t))) in
    let tested : Contains g.edges f → k.test e ≡ true = λ c.
    (In-of_filter k.test e (all_pairs g.nodes) (In-from_Contains (filter k.test (all_pairs g.nodes)) e (subst (λ l. Contains l e) k.listed (subst (λ x. Contains g.edges x) here c)))).1 in
    elim (cases_Bool (k.test e)) [
      | inl t ↦ added (kept t) ∙ ap (λ x. old ++ x ∷ []) here ∙ ap (λ l. old ++ l) (sym (one_kept k.test e t))
      | inr n ↦ elim same [
        | inl c ↦ absurd (false≢true (sym n ∙ tested c))
        | inr s ↦ s ∙ sym (append-nil old) ∙ ap (λ l. old ++ l) (sym (none_kept k.test e n))
      ]
    ]

-- behind the last of a row, and behind the last row
none_left : (k end : ℕ) → end ≤ k → up_to k end ≡ []
none_left k end h = let e : end - k ≡ 0 = omega arith in ap (range_with_len k) e

pub row_ended : (test : Edge → Bool) (u v end : ℕ) → end ≤ v → (now rest all : List Edge) → now ++ (edges_to test u (up_to v end) ++ rest) ≡ all → now ++ rest ≡ all
row_ended test u v end h now rest all e = sym (ap (λ l. now ++ (edges_to test u l ++ rest)) (none_left v end h)) ∙ e

pub rows_ended : (test : Edge → Bool) (n u end : ℕ) → end ≤ u → (now all : List Edge) → now ++ edges_from test n (up_to u end) ≡ all → now ≡ all
rows_ended test n u end h now all e = sym (append-nil now) ∙ sym (ap (λ l. now ++ edges_from test n l) (none_left u end h)) ∙ e

pub edge_append : (xs ys : List Edge) (e : Edge) → has_edge (xs ++ ys) e ≡ (has_edge xs e || has_edge ys e)
edge_append xs ys e = list_any-append (λ (x : Edge). eqb x.0 e.0 && eqb x.1 e.1) xs ys
