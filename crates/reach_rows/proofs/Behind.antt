-- Rows of several nodes, one behind the other.
use Rattle.reach_rows.proofs.Prelude.{◌≡◌, ◌↔◌, ℕ, ◌+◌, ◌-◌, ◌*◌, ◌<◌, ◌≤◌, Bool, true, List, [], ◌∷◌, ◌++◌, length, take, refl, sym, ap, ◌∙◌, inl, inr, arith, length-append, cases_lt, cases_Bool, false≢true, get_or_append_left}
use Rattle.reach_rows.proofs.Prelude.{get_or-append-add, get_or-take, length-take-le, div_below, mul-add-lt, Graph, Walk, Reaches, bit_of, row_len, IsKnownGraph, is_marked, marked_graph, bit_place, IsMarked, bit_of-past, nodes_within_row}
use Rattle.reach_rows.proofs.Prelude.{node_word, mark_is, edge_of_Contains, Contains-of_edge, AreRowsOf, IsReachRow, AreReachRows}

mark_front : (n : ℕ) (xs ys : List ℕ) (u v rows : ℕ) → length xs ≡ rows * row_len n → u < rows → v < row_len n * 64 → is_marked n (xs ++ ys) (u, v) ≡ is_marked n xs (u, v)
mark_front n xs ys u v rows len hu hv = grind (arith, mul-add-lt, div_below, mark_is, get_or_append_left)

mark_back : (n : ℕ) (xs ys : List ℕ) (u v rows : ℕ) → length xs ≡ rows * row_len n → is_marked n (xs ++ ys) (rows + u, v) ≡ is_marked n ys (u, v)
mark_back n xs ys u v rows len = grind (arith, mark_is, get_or-append-add)

iff_along : (a b : Bool) (P : Type 0) → a ≡ b → ((b ≡ true) ↔ P) → ((a ≡ true) ↔ P)
iff_along a b P e h = (λ t. h.0 (sym e ∙ t), λ p. e ∙ h.1 p)

pub rows_none : (graph : Graph) (first : ℕ) → AreReachRows graph first first []
rows_none graph first = grind arith

pub rows_one : (graph : Graph) (u : ℕ) (row : List ℕ) → IsReachRow graph u row → AreReachRows graph u (u + 1) row
unfolding is_marked bit_place
rows_one graph u row h = grind (arith, iff_along)

-- a walk joins nodes of the graph
pub walk_nodes : (graph : Graph) → IsKnownGraph graph → (ws : List ℕ) (u v : ℕ) → Walk graph.edges u ws v → (u ≤ graph.nodes) × (v ≤ graph.nodes)
walk_nodes graph known [] u v w = known.joined (u, v) w
walk_nodes graph known (x ∷ ws) u v w = ((known.joined (u, x) w.0).0, (walk_nodes graph known ws x v w.1).1)

-- a row of a node, cut to the words of nodes
pub rows_cut : (graph : Graph) (u : ℕ) (row : List ℕ) → IsKnownGraph graph → row_len graph.nodes ≤ length row → ((v : ℕ) → ((bit_of row v ≡ true) ↔ Reaches graph.edges u v)) → IsReachRow graph u (take (row_len graph.nodes) row)
unfolding bit_of
rows_cut graph u row known long reach = grind (arith, length-take-le, cases_lt, get_or-take, iff_along, false≢true, bit_of-past, node_word, walk_nodes)

pub rows_joined : (graph : Graph) (a b c : ℕ) (xs ys : List ℕ) → a ≤ b → b ≤ c → AreReachRows graph a b xs → AreReachRows graph b c ys → AreReachRows graph a c (xs ++ ys)
rows_joined graph a b c xs ys ab bc p q =
    let n = graph.nodes in
    let whole : c - a ≡ (b - a) + (c - b) = omega arith in
    record {
      len = length-append xs ys ∙ (let e : length xs + length ys ≡ ((b - a) + (c - b)) * row_len n = omega (arith, p.len, q.len) in e) ∙ ap (λ k. k * row_len n) (sym whole);
      reach = λ u v lo hi small. elim (cases_lt u b) [
        | inl front ↦
            iff_along (is_marked n (xs ++ ys) (u - a, v)) (is_marked n xs (u - a, v)) (Reaches graph.edges u v)
            (mark_front n xs ys (u - a) v (b - a) p.len (omega arith) small) (p.reach u v lo front small)
        | inr back ↦
            let place : u - a ≡ (b - a) + (u - b) = omega arith in
            iff_along (is_marked n (xs ++ ys) (u - a, v)) (is_marked n ys (u - b, v)) (Reaches graph.edges u v)
            (ap (λ k. is_marked n (xs ++ ys) (k, v)) place ∙ mark_back n xs ys (u - b) v (b - a) p.len) (q.reach u v back hi small)
      ];
    }

pub rows_all : (graph : Graph) (words : List ℕ) → IsKnownGraph graph → AreReachRows graph 0 (graph.nodes + 1) words → AreRowsOf (marked_graph graph.nodes words) graph
unfolding marked_graph
rows_all graph words known h =
    let n = graph.nodes in
    record {
      nodes = refl;
      reach = λ u v. (
        λ c. (let e = edge_of_Contains n words u v c in
            let same : u - 0 ≡ u = omega arith in
            (h.reach u v (omega arith) (omega (arith, e.from)) (omega (arith, e.to, nodes_within_row n))).0 (ap (λ k. is_marked n words (k, v)) same ∙ e.marked)),
        λ r. (let ends = walk_nodes graph known r.0 u v r.1 in
            let same : u - 0 ≡ u = omega arith in
            Contains-of_edge n words u v (record {
              from = ends.0;
              to = ends.1;
              marked = ap (λ k. is_marked n words (k, v)) (sym same) ∙ (h.reach u v (omega arith) (omega (arith, ends.0)) (omega (arith, ends.1, nodes_within_row n))).1 r;
            })),
      );
      test = is_marked n words;
      listed = refl;
    }

-- the words fit, and no bit is set of a node above
pub rows_marked : (graph : Graph) (words : List ℕ) → IsKnownGraph graph → AreReachRows graph 0 (graph.nodes + 1) words → IsMarked graph.nodes words
rows_marked graph words known h =
    let n = graph.nodes in
    let all : n + 1 - 0 ≡ n + 1 = omega arith in
    record {
      few = known.few;
      places = h.len ∙ ap (λ k. k * row_len n) all;
      clear = λ u v hu above small. elim (cases_Bool (is_marked n words (u, v))) [
        | inl t ↦
            let same : u - 0 ≡ u = omega arith in
            let r = (h.reach u v (omega arith) (omega (arith, hu)) small).0 (ap (λ k. is_marked n words (k, v)) same ∙ t) in
            absurd (omega (arith, above, (walk_nodes graph known r.0 u v r.1).1))
        | inr f ↦ f
      ];
    }
