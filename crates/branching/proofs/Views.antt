-- The edges of a view, and what keeps them up.
use Rattle.branching.proofs.Prelude.{◌≡◌, ◌≢◌, ◌⊎◌, ℕ, ◌<◌, ◌≤◌, Bool, true, false, List, length, get_or, set, replicate, Option, Some, None, refl, sym, ap, ◌∙◌, subst, inl, inr, arith, slice_get, option_map_or, Contains, AllByRecursion}
use Rattle.branching.proofs.Prelude.{cases_eq, cases_lt, false≢true, get_or-replicate, length-replicate, length-set, slice_get-get_or, slice_get_past, Edge, Choice, Polygraph, Graph, IsCyclic, each_contained, each_from_contained, reach_in}
use Rattle.branching.proofs.Prelude.{Side, edges_of, same_side, In, In-from_Contains, Contains-from_In, Joins, AreRowsOf, side_of, AddsEdges, side_joins, side_is, known_with, side_with, choice_of_edge, with_cases, same_is, same_itself}
use Rattle.branching.proofs.Prelude.{slice_get-set_same, slice_get-set_other, View, is_open_in, chosen, edges_in, graph_in, opened, decided, IsView, AreEdgesOf}
use Rattle.polygraph.proofs.Kept.{graph_in as graph_of}
use Rattle.prune_ledger.specs.Runs.{IsWhole}
use Rattle.branching.proofs.Opens.{open_within, open_is_none}

-- ---- the rows of a graph are those of each with the same edges
pub rows_same : (rows g h : Graph) → AreRowsOf rows g → h.nodes ≡ g.nodes → ((e : Edge) → Contains g.edges e → Contains h.edges e) → ((e : Edge) → Contains h.edges e → Contains g.edges e) → AreRowsOf rows h
rows_same rows g h r n to from = record {
  nodes = r.nodes ∙ sym n;
  reach = λ u v. (
    (λ c. reach_in g.edges h.edges (each_from_contained (Contains h.edges) g.edges to) u v ((r.reach u v).0 c)),
    (λ w. (r.reach u v).1 (reach_in h.edges g.edges (each_from_contained (Contains g.edges) h.edges from) u v w)),
  );
  test = r.test;
  listed = r.listed;
}

pub rows_of_view : (v : View) (rows g : Graph) → AreEdgesOf v g → AreRowsOf rows g → AreRowsOf rows (graph_in v)
rows_of_view v rows g a r = rows_same rows g (graph_in v) r (sym a.nodes) (λ e c. (a.edges e).0 c) (λ e c. (a.edges e).1 c)

-- ---- no side is decided
pub none_chosen : (p : Polygraph) (c : ℕ) (side : Side) → chosen (opened p) c side ≡ false
none_chosen p c side = elim (cases_lt c (length p.choices)) [
  | inl lt ↦ ap (λ o. option_map_or (λ q. option_map_or (λ s. same_side s side) q false) o false)
      (slice_get-get_or (opened p).sides c None (omega (arith, lt, length-replicate {A = Option Side} (length p.choices) None)) ∙ ap (λ x. Some x) (get_or-replicate {A = Option Side} (length p.choices) c None None lt))
  | inr ge ↦ ap (λ o. option_map_or (λ q. option_map_or (λ s. same_side s side) q false) o false)
      (slice_get_past (opened p).sides c (omega (arith, ge, length-replicate {A = Option Side} (length p.choices) None)))
]

opened_known : (p : Polygraph) (x : Edge) → In x (edges_in (opened p)) → In x p.known
opened_known p x i = elim (with_cases p (chosen (opened p)) x i) [ inl a ↦ a | inr s ↦ absurd (false≢true (sym (none_chosen p s.number s.side) ∙ s.chosen)) ]

pub opened_edges : (p : Polygraph) (g : Graph) → g ≡ record { nodes = p.nodes; edges = p.known } → AreEdgesOf (opened p) g
opened_edges p g e = record {
  nodes = ap (λ (h : Graph). h.nodes) e;
  edges = λ x. (
    (λ c. Contains-from_In (edges_in (opened p)) x (known_with p (chosen (opened p)) x (subst (In x) (ap (λ (h : Graph). h.edges) e) (In-from_Contains g.edges x c)))),
    (λ c. Contains-from_In g.edges x (subst (In x) (sym (ap (λ (h : Graph). h.edges) e)) (opened_known p x (In-from_Contains (edges_in (opened p)) x c)))),
  );
}

-- ---- one side more
abbrev is_chosen : Side → Option (Option Side) → Bool
is_chosen side o = option_map_or (λ q. option_map_or (λ s. same_side s side) q false) o false

chosen_other : (v : View) (c : ℕ) (side : Side) (k : ℕ) (s : Side) → k ≢ c → chosen (decided v c side) k s ≡ chosen v k s
chosen_other v c side k s ne = ap (is_chosen s) (slice_get-set_other v.sides c k (Some side) ne)

chosen_here : (v : View) (c : ℕ) (side s : Side) → c < length v.sides → chosen (decided v c side) c s ≡ same_side side s
chosen_here v c side s h = ap (is_chosen s) (slice_get-set_same v.sides c (Some side) h)

pub open_unchosen : (v : View) (c : ℕ) (s : Side) → is_open_in v c ≡ true → chosen v c s ≡ false
open_unchosen v c s t = ap (is_chosen s) (open_is_none v.sides c t)

decided_from : (v : View) (c : ℕ) (side : Side) (h : Choice) (x : Edge) → slice_get v.polygraph.choices c ≡ Some h → is_open_in v c ≡ true → In x (edges_in (decided v c side)) → In x (edges_in v) ⊎ In x (edges_of h side)
decided_from v c side h x at t i = elim (with_cases v.polygraph (chosen (decided v c side)) x i) [
  | inl a ↦ inl (known_with v.polygraph (chosen v) x a)
  | inr s ↦ elim (cases_eq s.number c) [
    | inl e ↦
        let here : same_side side s.side ≡ true = sym (chosen_here v c side s.side (open_within v.sides c t)) ∙ ap (λ k. chosen (decided v c side) k s.side) (sym e) ∙ s.chosen in
        let at' : side_of v.polygraph.choices s.number s.side ≡ edges_of h side =
        ap (λ k. side_of v.polygraph.choices k s.side) e ∙ ap (side_of v.polygraph.choices c) (sym (same_is side s.side here)) ∙ side_is v.polygraph.choices c h side at in
        inr (subst (In x) at' s.within)
    | inr ne ↦ inl (side_with v.polygraph (chosen v) x s.number s.side (sym (chosen_other v c side s.number s.side ne) ∙ s.chosen) s.within)
  ]
]

decided_keeps : (v : View) (c : ℕ) (side : Side) (x : Edge) → is_open_in v c ≡ true → In x (edges_in v) → In x (edges_in (decided v c side))
decided_keeps v c side x t i = elim (with_cases v.polygraph (chosen v) x i) [
  | inl a ↦ known_with v.polygraph (chosen (decided v c side)) x a
  | inr s ↦ elim (cases_eq s.number c) [
    | inl e ↦ absurd (false≢true (sym (open_unchosen v c s.side t) ∙ ap (λ k. chosen v k s.side) (sym e) ∙ s.chosen))
    | inr ne ↦ side_with v.polygraph (chosen (decided v c side)) x s.number s.side (chosen_other v c side s.number s.side ne ∙ s.chosen) s.within
  ]
]

decided_adds : (v : View) (c : ℕ) (side : Side) (h : Choice) (x : Edge) → slice_get v.polygraph.choices c ≡ Some h → is_open_in v c ≡ true → In x (edges_of h side) → In x (edges_in (decided v c side))
decided_adds v c side h x at t i =
    side_with v.polygraph (chosen (decided v c side)) x c side (chosen_here v c side side (open_within v.sides c t) ∙ same_itself side) (subst (In x) (sym (side_is v.polygraph.choices c h side at)) i)

pub decided_edges : (v : View) (c : ℕ) (side : Side) (h : Choice) (g new : Graph) (more : List Edge) → slice_get v.polygraph.choices c ≡ Some h → is_open_in v c ≡ true → more ≡ edges_of h side → AreEdgesOf v g → AddsEdges g new more → AreEdgesOf (decided v c side) new
decided_edges v c side h g new more at t m a b = record {
  nodes = b.nodes ∙ a.nodes;
  edges = λ x. (
    (λ k. elim ((b.edges x).0 k) [
      | inl y ↦ Contains-from_In (edges_in (decided v c side)) x (decided_keeps v c side x t (In-from_Contains (edges_in v) x ((a.edges x).0 y)))
      | inr y ↦ Contains-from_In (edges_in (decided v c side)) x (decided_adds v c side h x at t (subst (In x) m (In-from_Contains more x y)))
    ]),
    (λ k. elim (decided_from v c side h x at t (In-from_Contains (edges_in (decided v c side)) x k)) [
      | inl y ↦ (b.edges x).1 (inl ((a.edges x).1 (Contains-from_In (edges_in v) x y)))
      | inr y ↦ (b.edges x).1 (inr (Contains-from_In more x (subst (In x) (sym m) y)))
    ]),
  );
}

-- ---- what a choice joins
pub joined_at : (p : Polygraph) (c : ℕ) (h : Choice) (side : Side) (n : ℕ) (more : List Edge) → IsWhole p → slice_get p.choices c ≡ Some h → n ≡ p.nodes → more ≡ edges_of h side → AllByRecursion (Joins n) more
joined_at p c h side n more w at e m =
    subst (λ k. AllByRecursion (Joins k) more) (sym e)
    (subst (AllByRecursion (Joins p.nodes)) (sym m) (side_joins p.nodes p.choices c h side w.choices.joined at))

-- ---- what the view keeps as it is made, restarted and decided
pub held_opened : (p : Polygraph) (sides : List (Option Side)) (g : Graph) → sides ≡ replicate (length p.choices) None → g ≡ graph_of p → AreEdgesOf (record { polygraph = p; sides = sides }) g
held_opened p sides g e h = subst (λ (l : List (Option Side)). AreEdgesOf (record { polygraph = p; sides = l }) g) (sym e) (opened_edges p g h)

pub rows_opened : (p : Polygraph) (rows r g : Graph) → r ≡ rows → g ≡ graph_of p → AreRowsOf rows (graph_of p) → AreRowsOf r g
rows_opened p rows r g e h a = subst (λ x. AreRowsOf x g) (sym e) (subst (AreRowsOf rows) (sym h) a)

pub sided_opened : (p : Polygraph) (sides : List (Option Side)) → sides ≡ replicate (length p.choices) None → length sides ≡ length p.choices
sided_opened p sides e = ap (λ (l : List (Option Side)). length l) e ∙ length-replicate {A = Option Side} (length p.choices) None

pub sided_decided : (old new : List (Option Side)) (c n : ℕ) (side : Side) → new ≡ set old c (Some side) → length old ≡ n → length new ≡ n
sided_decided old new c n side e h = ap (λ (l : List (Option Side)). length l) e ∙ length-set old c (Some side) ∙ h

pub held_decided : (v : View) (c : ℕ) (side : Side) (sides : List (Option Side)) (h : Choice) (g new : Graph) (more : List Edge) → sides ≡ set v.sides c (Some side) → slice_get v.polygraph.choices c ≡ Some h → is_open_in v c ≡ true
    → more ≡ edges_of h side → AreEdgesOf v g → AddsEdges g new more → AreEdgesOf (record { polygraph = v.polygraph; sides = sides }) new
held_decided v c side sides h g new more e at t m a b =
    subst (λ (l : List (Option Side)). AreEdgesOf (record { polygraph = v.polygraph; sides = l }) new) (sym e) (decided_edges v c side h g new more at t m a b)

pub open_in_view : (v now : View) (c : ℕ) → v ≡ now → is_open_in now c ≡ true → is_open_in v c ≡ true
open_in_view v now c e t = ap (λ (w : View). is_open_in w c) e ∙ t

pub choice_read : (xs choices : List Choice) (i c : ℕ) (h : Choice) → xs ≡ choices → i ≡ c → c < length choices → h ≡ get_or xs i h → slice_get choices c ≡ Some h
choice_read xs choices i c h e k lt is =
    slice_get-get_or choices c h lt ∙ ap (λ x. Some x) (sym (is ∙ ap (λ l. get_or l i h) e ∙ ap (λ n. get_or choices n h) k))

-- ---- each edge of a view joins two nodes
node_joined : (n : ℕ) (edges : List Edge) (x : Edge) → AllByRecursion (Joins n) edges → In x edges → (x.0 ≤ n) × (x.1 ≤ n)
node_joined n edges x all i = let j = each_contained (Joins n) edges x all (Contains-from_In edges x i) in (j.from, j.to)

pub view_joined : (v : View) (x : Edge) → IsView v → Contains (edges_in v) x → (x.0 ≤ v.polygraph.nodes) × (x.1 ≤ v.polygraph.nodes)
view_joined v x w c = elim (with_cases v.polygraph (chosen v) x (In-from_Contains (edges_in v) x c)) [
  | inl a ↦ w.whole.known.joined x (Contains-from_In v.polygraph.known x a)
  | inr s ↦ (let g = choice_of_edge v.polygraph.choices s.number s.side x s.within in
      node_joined v.polygraph.nodes (edges_of g.choice s.side) x
      (joined_at v.polygraph s.number g.choice s.side v.polygraph.nodes (edges_of g.choice s.side) w.whole g.at refl refl)
      (subst (In x) (side_is v.polygraph.choices s.number g.choice s.side g.at) s.within))
]

pub view_initial : (v : View) (u : ℕ) → IsView v → 0 < u → u ≤ v.polygraph.nodes → Contains (edges_in v) (0, u)
view_initial v u w lo hi = Contains-from_In (edges_in v) (0, u) (known_with v.polygraph (chosen v) (0, u) (In-from_Contains v.polygraph.known (0, u) (w.whole.known.initial u lo hi)))

pub cyclic_in_graph : (v : View) (g : Graph) → AreEdgesOf v g → IsCyclic (edges_in v) → IsCyclic g.edges
cyclic_in_graph v g a c = (c.0, reach_in (edges_in v) g.edges (each_from_contained (Contains g.edges) (edges_in v) (λ e k. (a.edges e).1 k)) c.0 c.0 c.1)
