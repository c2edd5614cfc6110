-- What is known where the known edges have no cycle, and node 0 is the first.
use Rattle.order_laws.proofs.Prelude.{◌≡◌, ◌≢◌, ℕ, suc, ◌+◌, ◌<◌, ◌≤◌, Bool, true, false, not, List, [], ◌∷◌, ◌++◌, refl, sym, ap, ◌∙◌, subst, inl, inr, arith, map, Contains, AllByRecursion, filter, range_with_len, cases_lt, cases_Bool}
use Rattle.order_laws.proofs.Prelude.{false≢true, and_left, not_from_true, Edge, Polygraph, Known, pairs_of, is_free, free_pairs, each_from_map, each_from_range, IsKnown, reach_joined, IsRefuted, order_nodes, IsReach, IsProper}
use Rattle.std.proofs.lemmas.List.Elements.{filter-append}
use Rattle.reach_laws.specs.Reach.{IsCyclic}

pub reach_known : (edges : List Edge) (known : Known) → IsReach edges known → (IsCyclic edges → ⊥) → IsKnown known
reach_known edges known is acyclic = record {
  irreflexive = λ u. elim (cases_Bool (known u u)) [
    | inl t ↦ absurd (acyclic (u, (is.each u u).0 t))
    | inr f ↦ f
  ];
  transitive = λ u v w a b. (is.each u w).1 (reach_joined edges u v w ((is.each u v).0 a) ((is.each v w).0 b));
}

pub edge_known : (edges : List Edge) (known : Known) → IsReach edges known → (e : Edge) → Contains edges e → known e.0 e.1 ≡ true
edge_known edges known is e c = (is.each e.0 e.1).1 ([], c)

-- no edge of a side that is not refuted is known the other way round
pub not_back : (edges : List Edge) (known : Known) → IsReach edges known → (side : List Edge) → (IsRefuted edges side → ⊥) → (e : Edge) → Contains side e → known e.1 e.0 ≡ false
not_back edges known is side unrefuted e c = elim (cases_Bool (known e.1 e.0)) [
  | inl back ↦ absurd (unrefuted (e.0, (e.1, (c, (is.each e.1 e.0).0 back))))
  | inr f ↦ f
]

-- node 0 is known to be the first
abbrev pub InitialKnown : ℕ → Known → Type 0
InitialKnown n known = (v : ℕ) → 0 < v → v ≤ n → known 0 v ≡ true

pub initial_known : (p : Polygraph) → IsProper p → (known : Known) → IsReach p.known known → InitialKnown p.nodes known
initial_known p proper known is v lo hi = edge_known p.known known is (0, v) (proper.initial v lo hi)

-- a node of which it is not known that it stands before another is not node 0
pub past_zero : (n : ℕ) (known : Known) → InitialKnown n known → (u v : ℕ) → u ≢ v → v ≤ n → known u v ≡ false → 1 ≤ u
past_zero n known initial u v ne hi f = elim (cases_lt 0 u) [
  | inl lo ↦ omega (arith, lo)
  | inr z ↦
      let u0 : u ≡ 0 = omega arith in
      absurd (false≢true (sym f ∙ subst (λ x. known x v ≡ true) (sym u0) (initial v (omega (arith, u0, ne)) hi)))
]

filter_none : {X : Type 0} (p : X → Bool) (xs : List X) → AllByRecursion (λ x. p x ≡ false) xs → filter p xs ≡ []
filter_none p [] h = refl
filter_none p (x ∷ xs) h = rw h.0 (filter_none p xs h.1)

-- so no pair of node 0 has a variable
pub same_pairs : (n : ℕ) (known : Known) → InitialKnown n known → free_pairs known (range_with_len 0 (n + 1)) ≡ free_pairs known (order_nodes n)
same_pairs n known initial =
    let nodes : List ℕ = range_with_len 1 n in
    let of_initial : List (ℕ × ℕ) = map (λ v. (0, v)) nodes in
    let one : n + 1 ≡ suc n = omega arith in
    let none : filter (is_free known) of_initial ≡ [] =
    filter_none (is_free known) of_initial
    (each_from_map (λ p. is_free known p ≡ false) (λ v. (0, v)) nodes
    (each_from_range (λ v. is_free known (0, v) ≡ false) 1 n (λ v lo hi.
    and_left (not (known 0 v)) (not (known v 0)) (not_from_true (known 0 v) (initial v (omega arith) (omega arith)))))) in
    ap (λ m. free_pairs known (range_with_len 0 m)) one
    ∙ filter-append (is_free known) of_initial (pairs_of nodes)
    ∙ ap (λ front. front ++ free_pairs known nodes) none
