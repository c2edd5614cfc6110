-- An order keeps the edges that lead to a later place.
use Rattle.polygraph.proofs.Prelude.{◌≡◌, ℕ, ◌<◌, Bool, true, false, List, [], ◌∷◌, refl, sym, ◌∙◌, subst, inl, inr, arith, nat_lt, slice_index, list_all, Contains, AllByRecursion, false≢true, and_from, and_parts, or_cases, or_left}
use Rattle.polygraph.proofs.Prelude.{or_right, ltb-true, lt-ltb, Before, ListsOnce, Edge, Choice, Polygraph, Keeps, KeepsOne, Fits, ArePlaces, AreKept, keeps, keeps_one, Joins, JoinsBoth, IsPolygraph}
use Rattle.reach_laws.specs.Reach.{Graph}
use Rattle.reach_laws.proofs.Walks.{each_contained, each_from_contained}
use Rattle.known_graph.specs.Graphs.{IsKnownGraph}

-- ---- what a scan of pairs of nodes finds
pub edge_absent : (edges : List Edge) (u v a b : ℕ) (t : Bool) → a ≡ u → b ≡ v → t ≡ false → (Contains edges (a, b) → t ≡ true) → Contains edges (u, v) → ⊥
edge_absent edges u v a b t e f absent found h =
    false≢true (sym absent ∙ found (subst (λ y. Contains edges (a, y)) (sym f) (subst (λ x. Contains edges (x, v)) (sym e) h)))

pub edge_later : (places : List ℕ) (u v a b : ℕ) (t : Bool) → a ≡ u → b ≡ v → t ≡ nat_lt (slice_index places a) (slice_index places b) → t ≡ true → slice_index places u < slice_index places v
edge_later places u v a b t e f is held =
    subst (λ y. slice_index places u < slice_index places y) f (subst (λ x. slice_index places x < slice_index places b) e (ltb-true _ _ (sym is ∙ held)))

-- ---- one edge
keeps_is : (n : ℕ) (order places : List ℕ) → ArePlaces n order places → (e : Edge) → Joins n e → keeps places e ≡ true → Before order e.0 e.1
keeps_is n order places there e j t =
    let lt : slice_index places e.0 < slice_index places e.1 = ltb-true _ _ t in
    omega (arith, lt, there.each e.0 j.from, there.each e.1 j.to)

keeps_from : (n : ℕ) (order places : List ℕ) → ArePlaces n order places → (e : Edge) → Joins n e → Before order e.0 e.1 → keeps places e ≡ true
keeps_from n order places there e j h = lt-ltb (slice_index places e.0) (slice_index places e.1) (omega (arith, h, there.each e.0 j.from, there.each e.1 j.to))

-- ---- the edges of a side
all_is : (n : ℕ) (order places : List ℕ) → ArePlaces n order places → (edges : List Edge) → AllByRecursion (Joins n) edges → list_all (keeps places) edges ≡ true → Keeps order edges
all_is n order places there [] j t = tt
all_is n order places there (e ∷ edges) j t =
    let parts = and_parts (keeps places e) (list_all (keeps places) edges) t in
    (keeps_is n order places there e j.0 parts.0, all_is n order places there edges j.1 parts.1)

all_from : (n : ℕ) (order places : List ℕ) → ArePlaces n order places → (edges : List Edge) → AllByRecursion (Joins n) edges → Keeps order edges → list_all (keeps places) edges ≡ true
all_from n order places there [] j h = refl
all_from n order places there (e ∷ edges) j h =
    and_from (keeps places e) (list_all (keeps places) edges) (keeps_from n order places there e j.0 h.0) (all_from n order places there edges j.1 h.1)

-- ---- choices
one_is : (n : ℕ) (order places : List ℕ) → ArePlaces n order places → (c : Choice) → JoinsBoth n c → keeps_one places c ≡ true → KeepsOne order c
one_is n order places there c j t = elim (or_cases (list_all (keeps places) c.one) (list_all (keeps places) c.two) t) [
  | inl a ↦ inl (all_is n order places there c.one j.first a)
  | inr b ↦ inr (all_is n order places there c.two j.second b)
]

one_from : (n : ℕ) (order places : List ℕ) → ArePlaces n order places → (c : Choice) → JoinsBoth n c → KeepsOne order c → keeps_one places c ≡ true
one_from n order places there c j (inl a) = or_left (list_all (keeps places) c.one) (list_all (keeps places) c.two) (all_from n order places there c.one j.first a)
one_from n order places there c j (inr b) = or_right (list_all (keeps places) c.one) (list_all (keeps places) c.two) (all_from n order places there c.two j.second b)

each_is : (n : ℕ) (order places : List ℕ) → ArePlaces n order places → (cs : List Choice) → AllByRecursion (JoinsBoth n) cs → list_all (keeps_one places) cs ≡ true → AllByRecursion (KeepsOne order) cs
each_is n order places there [] j t = tt
each_is n order places there (c ∷ cs) j t =
    let parts = and_parts (keeps_one places c) (list_all (keeps_one places) cs) t in
    (one_is n order places there c j.0 parts.0, each_is n order places there cs j.1 parts.1)

each_from : (n : ℕ) (order places : List ℕ) → ArePlaces n order places → (cs : List Choice) → AllByRecursion (JoinsBoth n) cs → AllByRecursion (KeepsOne order) cs → list_all (keeps_one places) cs ≡ true
each_from n order places there [] j h = refl
each_from n order places there (c ∷ cs) j h =
    and_from (keeps_one places c) (list_all (keeps_one places) cs) (one_from n order places there c j.0 h.0) (each_from n order places there cs j.1 h.1)

-- ---- known edges
abbrev pub graph_in : Polygraph → Graph
graph_in p = record { nodes = p.nodes; edges = p.known }

known_is : (p : Polygraph) (order places : List ℕ) → ArePlaces p.nodes order places → IsKnownGraph (graph_in p) → AreKept places (graph_in p) → Keeps order p.known
known_is p order places there known kept = each_from_contained (λ e. Before order e.0 e.1) p.known (λ e h.
    (let within = known.joined e h in
    omega (arith, kept.each e.0 e.1 h, there.each e.0 within.0, there.each e.1 within.1)))

known_from : (p : Polygraph) (order places : List ℕ) → ArePlaces p.nodes order places → IsKnownGraph (graph_in p) → Keeps order p.known → AreKept places (graph_in p)
known_from p order places there known kept = record {
  each = λ u v h.
      (let within = known.joined (u, v) h in
      let before : Before order u v = each_contained (λ e. Before order e.0 e.1) p.known (u, v) kept h in
      omega (arith, before, there.each u within.0, there.each v within.1));
}

-- ---- all that an order keeps where it fits
pub fits_is : (p : Polygraph) (order places : List ℕ) → ListsOnce p.nodes order → ArePlaces p.nodes order places → IsPolygraph p → IsKnownGraph (graph_in p) → AreKept places (graph_in p) → list_all (keeps_one places) p.choices ≡ true → Fits p order
fits_is p order places once there poly known kept all = record {
  once = once;
  known = known_is p order places there known kept;
  choices = each_is p.nodes order places there p.choices poly.joined all;
}

pub kept_where_fits : (p : Polygraph) (order places : List ℕ) → ArePlaces p.nodes order places → IsKnownGraph (graph_in p) → Fits p order → AreKept places (graph_in p)
kept_where_fits p order places there known f = known_from p order places there known f.known

pub all_where_fits : (p : Polygraph) (order places : List ℕ) → ArePlaces p.nodes order places → IsPolygraph p → Fits p order → list_all (keeps_one places) p.choices ≡ true
all_where_fits p order places there poly f = each_from p.nodes order places there p.choices poly.joined f.choices
