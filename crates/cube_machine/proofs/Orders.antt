-- Orders that keep edges.
use Rattle.cube_machine.proofs.Prelude.{◌≡◌, ◌↔◌, ℕ, suc, ◌+◌, ◌<◌, Bool, true, false, eqb, ◌&&◌, List, [], ◌∷◌, length, Some, refl, sym, ap, ◌∙◌, inl, inr, arith, nat_lt, slice_get, option_map_or, Contains, list_any, list_all}
use Rattle.cube_machine.proofs.Prelude.{range_with_len, cases_Bool, and_parts, and_from, eq-eqb, lt-ltb, ltb-true, slice_get-get_or, same_bool, place_of, ListsOnce, Edge, Graph, edge_in, has_contained, ArePlaces, AreKept, lists_once}
use Rattle.cube_machine.proofs.Prelude.{keeps_edges, any_at, HasEdges}
use Rattle.list_lemmas.proofs.Each.{all_range}
use Rattle.reach_laws.proofs.Walks.{Contains-here, Contains-further}
use Rattle.known_graph.specs.Graphs.{IsKnownGraph}
use Rattle.known_graph.proofs.Listed.{In, In-from_Contains}
use Rattle.serializability.proofs.Listed.{once_length}
use Rattle.cube_laws.proofs.Fits.{once_tested}

-- ---- tests of all
pub all_from : {A : Type 0} (t : A → Bool) (xs : List A) → ((x : A) → Contains xs x → t x ≡ true) → list_all t xs ≡ true
all_from t [] h = refl
all_from t (x ∷ xs) h = and_from (t x) (list_all t xs) (h x (Contains-here x xs)) (all_from t xs (λ y c. h y (Contains-further x y xs c)))

pub all_in : {A : Type 0} (t : A → Bool) (xs : List A) (x : A) → list_all t xs ≡ true → In x xs → t x ≡ true
all_in t [] x h c = absurd c
all_in t (y ∷ ys) x h (inl same) = let p = and_parts (t y) (list_all t ys) h in ap t (sym same) ∙ p.0
all_in t (y ∷ ys) x h (inr c) = let p = and_parts (t y) (list_all t ys) h in all_in t ys x p.1 c

-- a row of answers
pub all_noted : {A : Type 0} (d : A → Bool) (t : ℕ → Bool) (a : ℕ) (ds : List A) → ((c : ℕ) → c < length ds → option_map_or d (slice_get ds c) false ≡ t (a + c)) → list_all d ds ≡ list_all t (range_with_len a (length ds))
all_noted d t a [] h = refl
all_noted d t a (x ∷ ds) h =
    let z : a + 0 ≡ a = omega arith in
    (λ i. (h 0 (omega arith) ∙ ap t z) i && all_noted d t (a + 1) ds (λ c lt. (let n : a + suc c ≡ a + 1 + c = omega arith in h (suc c) (omega (arith, lt)) ∙ ap t n)) i)

-- ---- an order of the nodes
pub once_listed : (n : ℕ) (order : List ℕ) → ListsOnce n order → lists_once n order ≡ true
once_listed n order o =
    and_from (eqb (length order) n) (list_all (λ v. list_any (λ w. eqb w v) order) (range_with_len 1 n))
    (eq-eqb (length order) n (once_length n order o))
    (all_range (λ v. list_any (λ w. eqb w v) order) 1 n (λ v lo hi.
    (let c = o.each v (omega arith) (omega (arith, hi)) in
    any_at (λ w. eqb w v) order c.0 v (slice_get-get_or order c.0 v c.1 ∙ ap (λ w. Some w) c.2) (eq-eqb v v refl))))

-- the edges of the graph are kept
kept_listed : (g : Graph) (order places : List ℕ) → ArePlaces g.nodes order places → IsKnownGraph g → AreKept places g → keeps_edges order g.edges ≡ true
kept_listed g order places a k h =
    all_from (λ (e : Edge). nat_lt (place_of (0 ∷ order) e.0) (place_of (0 ∷ order) e.1)) g.edges (λ e c.
    (let w = k.joined e c in
    let lt = h.each e.0 e.1 c in
    let p = a.each e.0 w.0 in let q = a.each e.1 w.1 in
    lt-ltb (place_of (0 ∷ order) e.0) (place_of (0 ∷ order) e.1) (omega (arith, lt, p, q))))

listed_kept : (g : Graph) (order places : List ℕ) → ArePlaces g.nodes order places → IsKnownGraph g → keeps_edges order g.edges ≡ true → AreKept places g
listed_kept g order places a k t = record {
  each = λ u v c.
      (let w = k.joined (u, v) c in
      let r = ltb-true (place_of (0 ∷ order) u) (place_of (0 ∷ order) v) (all_in (λ (e : Edge). nat_lt (place_of (0 ∷ order) e.0) (place_of (0 ∷ order) e.1)) g.edges (u, v) t (In-from_Contains g.edges (u, v) c)) in
      let p = a.each u w.0 in let q = a.each v w.1 in
      omega (arith, r, p, q));
}

pub fits_is : (g : Graph) (order places : List ℕ) (b : Bool) → ListsOnce g.nodes order → ArePlaces g.nodes order places → IsKnownGraph g → (b ≡ true ↔ AreKept places g) → b ≡ (lists_once g.nodes order && keeps_edges order g.edges)
fits_is g order places b o a k f =
    same_bool b (keeps_edges order g.edges) (λ t. kept_listed g order places a k (f.0 t)) (λ t. f.1 (listed_kept g order places a k t))
    ∙ ap (λ c. c && keeps_edges order g.edges) (sym (once_listed g.nodes order o))

pub fits_not : (g : Graph) (order : List ℕ) → (ListsOnce g.nodes order → ⊥) → false ≡ (lists_once g.nodes order && keeps_edges order g.edges)
fits_not g order never = elim (cases_Bool (lists_once g.nodes order)) [
  | inl t ↦ absurd (never (once_tested g.nodes order t))
  | inr f ↦ ap (λ c. c && keeps_edges order g.edges) (sym f)
]

-- ---- lists with the same edges
all_other : (t : Edge → Bool) (a b : List Edge) → HasEdges a b → list_all t a ≡ true → list_all t b ≡ true
all_other t a b h k = all_from t b (λ e c. all_in t a e k (In-from_Contains a e (edge_in a e (h.same e ∙ has_contained b e c))))

pub keeps_same : (order : List ℕ) (a b : List Edge) → HasEdges a b → keeps_edges order a ≡ keeps_edges order b
keeps_same order a b h =
    same_bool (keeps_edges order a) (keeps_edges order b)
    (all_other (λ (e : Edge). nat_lt (place_of (0 ∷ order) e.0) (place_of (0 ∷ order) e.1)) a b h)
    (all_other (λ (e : Edge). nat_lt (place_of (0 ∷ order) e.0) (place_of (0 ∷ order) e.1)) b a (record { same = λ e. sym (h.same e) }))
