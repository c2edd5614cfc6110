-- More edges of a graph.
use Rattle.prune_ledger.proofs.Prelude.{◌≡◌, ◌⊎◌, ◌↔◌, ℕ, ◌+◌, ◌<◌, ◌≤◌, List, [], ◌∷◌, ◌++◌, length, get_or, take, sym, ap, ◌∙◌, subst, inl, inr, Contains, filter, take_more, same_bool, Edge, Graph, IsKnownGraph, all_pairs, In}
use Rattle.prune_ledger.proofs.Prelude.{In-from_Contains, Contains-from_In, In-append_left, In-append_right, In-append_cases, In-filter, In-of_filter, filter_same, In-pairs, has_edge, edge_in, has_in, listed, with_edges}

-- ---- more edges
-- these edges are the old ones and those of this part
pub record Added (old now : Graph) (part : List Edge) : Type 0 where
  pub nodes : now.nodes ≡ old.nodes
  pub from : (e : Edge) → In e now.edges → In e old.edges ⊎ In e part
  pub first : (e : Edge) → In e old.edges → In e now.edges
  pub second : (e : Edge) → In e part → In e now.edges

pub added_more : (old now next : Graph) (part : List Edge) (d : Edge) → Added old now part → next.nodes ≡ now.nodes → ((e : Edge) → (Contains next.edges e ↔ (Contains now.edges e ⊎ (e ≡ d)))) → Added old next (part ++ d ∷ [])
added_more old now next part d a n f = record {
  nodes = n ∙ a.nodes;
  from = λ e h. (elim ((f e).0 (Contains-from_In next.edges e h)) [
    | inl c ↦ (elim (a.from e (In-from_Contains now.edges e c)) [ inl x ↦ inl x | inr y ↦ inr (In-append_left e part (d ∷ []) y) ])
    | inr same ↦ inr (In-append_right e part (d ∷ []) (inl (sym same)))
  ]);
  first = λ e h. In-from_Contains next.edges e ((f e).1 (inl (Contains-from_In now.edges e (a.first e h))));
  second = λ e h. (elim (In-append_cases e part (d ∷ []) h) [
    | inl x ↦ In-from_Contains next.edges e ((f e).1 (inl (Contains-from_In now.edges e (a.second e x))))
    | inr y ↦ (elim y [ inl same ↦ In-from_Contains next.edges e ((f e).1 (inr (sym same))) | inr none ↦ absurd none ])
  ]);
}

pub added_step : (old now next : Graph) (side : List Edge) (k : ℕ) (d : Edge) (u v : ℕ) → k < length side → d ≡ get_or side k d → u ≡ d.0 → v ≡ d.1
    → Added old now (take k side) → next.nodes ≡ now.nodes → ((e : Edge) → (Contains next.edges e ↔ (Contains now.edges e ⊎ (e ≡ (u, v))))) → Added old next (take (k + 1) side)
added_step old now next side k d u v lt is p q a n f =
    let same : ◌≡◌ {A = Edge} (u, v) d = λ i. (p i, q i) in
    subst (Added old next) (ap (λ (x : Edge). take k side ++ x ∷ []) is ∙ sym (take_more side k d lt))
    (added_more old now next (take k side) d a n (subst (λ (x : Edge). (e : Edge) → (Contains next.edges e ↔ (Contains now.edges e ⊎ (e ≡ x)))) same f))

graph_is : (g : Graph) (n : ℕ) (edges : List Edge) → g.nodes ≡ n → g.edges ≡ edges → g ≡ record { nodes = n; edges = edges }
graph_is g n edges a b = λ i. (let r : Graph = record { nodes = a i; edges = b i } in r)

-- what is added to a graph of known edges is listed in its order
pub added_all : (old now : Graph) (part : List Edge) → IsKnownGraph now → Added old now part → now ≡ with_edges old part
unfolding listed
added_all old now part k a =
    graph_is now old.nodes (listed old.nodes (old.edges ++ part)) a.nodes
    (k.listed
    ∙ filter_same k.test (has_edge (old.edges ++ part)) (all_pairs now.nodes)
    (λ e h. same_bool (k.test e) (has_edge (old.edges ++ part) e)
    (λ t. has_in (old.edges ++ part) e
    (elim (a.from e (subst (In e) (sym k.listed) (In-filter k.test e (all_pairs now.nodes) h t))) [
      | inl x ↦ In-append_left e old.edges part x
      | inr y ↦ In-append_right e old.edges part y
    ]))
    (λ t. (In-of_filter k.test e (all_pairs now.nodes)
    (subst (In e) k.listed
    (elim (In-append_cases e old.edges part (In-from_Contains (old.edges ++ part) e (edge_in (old.edges ++ part) e t))) [
      | inl x ↦ a.first e x
      | inr y ↦ a.second e y
    ]))).1))
    ∙ ap (λ n. filter (has_edge (old.edges ++ part)) (all_pairs n)) a.nodes)

pub in_listed : (n : ℕ) (edges : List Edge) (e : Edge) → e.0 ≤ n → e.1 ≤ n → In e edges → In e (listed n edges)
unfolding listed
in_listed n edges e u v h = In-filter (has_edge edges) e (all_pairs n) (In-pairs e.0 e.1 n u v) (has_in edges e h)

pub in_of_listed : (n : ℕ) (edges : List Edge) (e : Edge) → In e (listed n edges) → In e edges
unfolding listed
in_of_listed n edges e h = In-from_Contains edges e (edge_in edges e (In-of_filter (has_edge edges) e (all_pairs n) h).1)
