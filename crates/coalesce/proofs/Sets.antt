-- Edges added to a graph, as sets.
use Rattle.coalesce.proofs.Prelude.{◌≡◌, ◌⊎◌, ◌↔◌, ℕ, List, [], ◌∷◌, ◌++◌, get_or, length, refl, sym, subst, inl, inr, arith, append_assoc, Contains, Log, Edge, Polygraph, Fits, arcs, bipath_polygraph, inner_edges, initial_first}
use Rattle.coalesce.proofs.Prelude.{chain_choices, chain_polygraph, edges_to, chains_fit, bipaths_fit, IsWith}
use Rattle.std.proofs.lemmas.List.Elements.{Contains-append_left, Contains-append_right, Contains-append_cases}
use Rattle.serializability.specs.Reads.{IsClean}
use Rattle.pruning_laws.proofs.Same.{same_both}
use Rattle.coalesce.proofs.Between.{no_readers}

pub one_in : {X : Type 0} (x y : X) → Contains (x ∷ []) y → y ≡ x
one_in x y c = let z : c.0 ≡ 0 = omega (arith, c.1) in sym (subst (λ i. get_or (x ∷ []) i y ≡ y) z c.2)

pub with_one : (old new : List Edge) (u v : ℕ) → ((e : Edge) → (Contains new e ↔ (Contains old e ⊎ (e ≡ (u, v))))) → IsWith old ((u, v) ∷ []) new
with_one old new u v h = record {
  each = λ e. (
    λ c. elim ((h e).0 c) [
      | inl k ↦ inl k
      | inr same ↦ inr (subst (Contains ((u, v) ∷ [])) (sym same) (0, omega arith, refl))
    ],
    λ k. elim k [
      | inl c ↦ (h e).1 (inl c)
      | inr c ↦ (h e).1 (inr (one_in (u, v) e c))
    ],
  );
}

pub with_more : (old mid new xs ys : List Edge) → IsWith old xs mid → IsWith mid ys new → IsWith old (xs ++ ys) new
with_more old mid new xs ys a b = record {
  each = λ e. (
    λ c. elim ((b.each e).0 c) [
      | inl m ↦ elim ((a.each e).0 m) [
        | inl o ↦ inl o
        | inr x ↦ inr (Contains-append_left xs ys e x)
      ]
      | inr y ↦ inr (Contains-append_right xs ys e y)
    ],
    λ k. elim k [
      | inl o ↦ (b.each e).1 (inl ((a.each e).1 (inl o)))
      | inr c ↦ elim (Contains-append_cases xs ys e c) [
        | inl x ↦ (b.each e).1 (inl ((a.each e).1 (inr x)))
        | inr y ↦ (b.each e).1 (inr y)
      ]
    ],
  );
}

-- with one more, or more, where the list of all is known
pub with_next : (old now next made total : List Edge) (u v : ℕ) → IsWith old made now → ((e : Edge) → (Contains next e ↔ (Contains now e ⊎ (e ≡ (u, v))))) → total ≡ made ++ (u, v) ∷ [] → IsWith old total next
with_next old now next made total u v a h t =
    subst (λ l. IsWith old l next) (sym t) (with_more old now next made ((u, v) ∷ []) a (with_one now next u v h))

pub with_piece : (old now next made piece total : List Edge) → IsWith old made now → IsWith now piece next → total ≡ made ++ piece → IsWith old total next
with_piece old now next made piece total a b t = subst (λ l. IsWith old l next) (sym t) (with_more old now next made piece a b)

-- added to edges, all of them are contained
pub with_all : (old added new : List Edge) → IsWith old added new → (e : Edge) → (Contains new e ↔ Contains (old ++ added) e)
with_all old added new a e = (
  λ c. elim ((a.each e).0 c) [ inl o ↦ Contains-append_left old added e o | inr x ↦ Contains-append_right old added e x ],
  λ c. elim (Contains-append_cases old added e c) [ inl o ↦ (a.each e).1 (inl o) | inr x ↦ (a.each e).1 (inr x) ],
)

-- with the edge from a chain that has no reader
pub with_tail : (old new : List Edge) (t b : ℕ) (rs : List ℕ) → length rs ≡ 0 → ((e : Edge) → (Contains new e ↔ (Contains old e ⊎ (e ≡ (t, b))))) → IsWith old (edges_to t b rs) new
with_tail old new t b rs none h = subst (λ l. IsWith old l new) (sym (no_readers t b rs none)) (with_one old new t b h)

-- ---- all that is known of chains
pub whole_known : (log : Log) (old new known : List Edge) → old ≡ arcs log → IsWith old (inner_edges log ++ initial_first log) new → known ≡ new → (e : Edge) → (Contains known e ↔ Contains (chain_polygraph log).known e)
whole_known log old new known h a same e =
    let added = inner_edges log ++ initial_first log in
    let all = with_all (arcs log) added new (subst (λ o. IsWith o added new) h a) e in
    let whole = subst (λ l. Contains new e ↔ Contains l e) (sym (append_assoc (arcs log) (inner_edges log) (initial_first log))) all in
    subst (λ l. Contains l e ↔ Contains (chain_polygraph log).known e) (sym same) whole

pub same_orders : (log : Log) → IsClean log → (p : Polygraph) → p.nodes ≡ log.nodes → ((e : Edge) → (Contains p.known e ↔ Contains (chain_polygraph log).known e)) → p.choices ≡ chain_choices log → (order : List ℕ) → (Fits (bipath_polygraph log) order ↔ Fits p order)
same_orders log clean p nodes known choices order =
    let same = same_both p (chain_polygraph log) nodes known choices order in
    (λ f. same.1 (chains_fit log clean order f), λ f. bipaths_fit log clean order (same.0 f))
