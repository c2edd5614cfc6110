-- What a worker's decision is answered.
use Rattle.branching.proofs.Prelude.{◌≡◌, ℕ, zero, suc, ◌+◌, ◌<◌, ◌≤◌, Bool, true, false, not, eqb, cond, ◌&&◌, List, [], ◌∷◌, length, drop, Option, Some, None, refl, sym, ap, ◌∙◌, subst, inl, inr, arith, eq-eqb, nat_lt, slice_get}
use Rattle.branching.proofs.Prelude.{slice_index, ◌==◌, Contains, list_any, list_all, range_with_len, cases_lt, cases_Bool, false≢true, and_parts, and_from, or_cases, or_left, or_right, lt-ltb, cond-true, false_from_ne_true}
use Rattle.branching.proofs.Prelude.{nil_from_length, same_bool, Edge, Polygraph, place_of, Has, Has-from_Contains, place_of-further, Has-from_range, Graph, Reaches, IsCycle, IsCyclic, reach_joined, Contains-here, Contains-further, Side}
use Rattle.branching.proofs.Prelude.{edges_with, same_side, sides_in, has_edge, leads, is_line, edge_in, has_contained, line_of, AreRowsOf, same_itself, View, is_open_in, depth_of, chosen, edges_in, graph_in, open_choices, none_listed}
use Rattle.branching.proofs.Prelude.{is_open_at, unreached, IsOrderByReach, IsView, AreEdgesOf}
use Rattle.list_lemmas.proofs.Each.{all_range}
use Rattle.serializability.proofs.Ranks.{count-lt}
use Rattle.cube_laws.specs.Cubes.{Cube, is_decided, edges_under}
use Rattle.cube_laws.specs.State.{State}
use Rattle.cube_laws.specs.Steps.{node_held, cube_at, reply_of, is_cycle, is_choice, can_split, decides_all, lists_once, keeps_edges, is_solution, split_reply, refute_reply, solve_reply}
use Rattle.cube_laws.specs.Runs.{is_closing}
use Rattle.cube_laws.specs.declared.messages.CubeEvent.TheVariants.{Split, Refute, Solve}
use Rattle.cube_laws.specs.declared.messages.CubeReply.TheVariants.{Finished, BadChoice, Children, BadCycle, Closed, BadOrder, Solved}
use Rattle.cube_laws.proofs.Fits.{decided_side}
use Rattle.branching.specs.Turns.{IsTurnOf, IsAnswered}
use Rattle.branching.proofs.Opens.{open_within, open_from_none, length-open_from}
use Rattle.branching.proofs.Views.{open_unchosen, view_joined, view_initial}

-- ---- the cube's edges are the view's
pub edges_are : (s : State) (seat : ℕ) (v : View) (t : IsTurnOf s seat v) → edges_under s.polygraph (cube_at s t.node) ≡ edges_in v
edges_are s seat v t = λ i. edges_with (t.polygraph i) (λ c side. t.cube c side i)

-- ---- a choice that the cube decides

side_decided : (cube : Cube) (c : ℕ) (side : Side) → sides_in cube c side ≡ true → is_decided cube c ≡ true
side_decided [] c side d = absurd (false≢true d)
side_decided (e ∷ cube) c side d = elim (or_cases ((e.0 == c) && same_side e.1 side) (sides_in cube c side) d) [
  | inl here ↦ or_left (e.0 == c) (is_decided cube c) (and_parts (e.0 == c) (same_side e.1 side) here).0
  | inr further ↦ or_right (e.0 == c) (is_decided cube c) (side_decided cube c side further)
]

open_undecided : (s : State) (seat : ℕ) (v : View) (t : IsTurnOf s seat v) (c : ℕ) → is_open_in v c ≡ true → is_decided (cube_at s t.node) c ≡ false
open_undecided s seat v t c free = elim (cases_Bool (is_decided (cube_at s t.node) c)) [
  | inl d ↦ (let r = decided_side (cube_at s t.node) c d in absurd (false≢true (sym (open_unchosen v c r.0 free) ∙ sym (t.cube c r.0) ∙ r.1)))
  | inr f ↦ f
]

-- ---- splits
pub split_answered : (v : View) (c : ℕ) → IsView v → is_open_in v c ≡ true → IsAnswered v (Split c)
unfolding reply_of
split_answered v c w free = λ s seat t.
    let sided = w.sided in
    let within : c < length v.polygraph.choices = omega (arith, sided, open_within v.sides c free) in
    let choice : is_choice s c ≡ true = ap (λ (p : Polygraph). nat_lt c (length p.choices)) t.polygraph ∙ lt-ltb c (length v.polygraph.choices) within in
    let can : can_split s (cube_at s t.node) c ≡ true = and_from (is_choice s c) (not (is_decided (cube_at s t.node) c)) choice (ap not (open_undecided s seat v t c free)) in
    ap (λ b. is_closing (cond b Finished (split_reply s c (node_held s seat)))) t.unfinished
    ∙ ap (λ o. is_closing (split_reply s c o)) t.held
    ∙ ap (λ b. is_closing (cond b (Children (length s.nodes) (length s.nodes + 1)) BadChoice)) can

-- ---- cycles
has_same : (edges more : List Edge) (e : Edge) → (Contains edges e → Contains more e) → (Contains more e → Contains edges e) → has_edge edges e ≡ has_edge more e
has_same edges more e f g = same_bool (has_edge edges e) (has_edge more e) (λ t. has_contained more e (f (edge_in edges e t))) (λ t. has_contained edges e (g (edge_in more e t)))

leads_same : (edges more : List Edge) → ((e : Edge) → has_edge edges e ≡ has_edge more e) → (ws : List ℕ) (u v : ℕ) → leads edges u ws v ≡ leads more u ws v
leads_same edges more h [] u v = refl
leads_same edges more h (w ∷ ws) u v = λ i. h (u, w) i && leads_same edges more h ws w v i

cycle_tested : (edges : List Edge) (line : List ℕ) → IsCycle edges line → is_cycle edges line ≡ true
cycle_tested edges line c =
    let first : slice_index line 0 ≡ c.0 = ap (λ l. slice_index l 0) c.1.shape in
    ap (λ n. is_line edges n line n) first ∙ line_of edges line c.0 c.0 c.1

pub refute_answered : (v : View) (g : Graph) (line : List ℕ) → AreEdgesOf v g → IsCycle g.edges line → IsAnswered v (Refute line)
unfolding reply_of
refute_answered v g line a c = λ s seat t.
    let same : (e : Edge) → has_edge (edges_in v) e ≡ has_edge g.edges e = λ e. has_same (edges_in v) g.edges e (a.edges e).1 (a.edges e).0 in
    let first = slice_index line 0 in
    let lines : is_line (edges_in v) first line first ≡ is_line g.edges first line first = λ i. nat_lt 1 (length line) && ((slice_index line 0 == first) && leads_same (edges_in v) g.edges same (drop 1 line) first first i) in
    let test : is_cycle (edges_under s.polygraph (cube_at s t.node)) line ≡ true = ap (λ l. is_cycle l line) (edges_are s seat v t) ∙ lines ∙ cycle_tested g.edges line c in
    ap (λ b. is_closing (cond b Finished (refute_reply s line (node_held s seat)))) t.unfinished
    ∙ ap (λ o. is_closing (refute_reply s line o)) t.held
    ∙ ap (λ b. is_closing (cond b Closed BadCycle)) test

-- ---- tests of each element
all_in : {X : Type 0} (q : X → Bool) (xs : List X) → ((x : X) → Contains xs x → q x ≡ true) → list_all q xs ≡ true
all_in q [] h = refl
all_in q (x ∷ xs) h = and_from (q x) (list_all q xs) (h x (Contains-here x xs)) (all_in q xs (λ y c. h y (Contains-further x y xs c)))

any_is : (order : List ℕ) (v : ℕ) → Has v order → list_any (λ w. w == v) order ≡ true
any_is [] v h = absurd h
any_is (w ∷ ws) v (inl e) = or_left (w == v) (list_any (λ x. x == v) ws) (eq-eqb w v e)
any_is (w ∷ ws) v (inr h) = or_right (w == v) (list_any (λ x. x == v) ws) (any_is ws v h)

-- ---- orders
pub record IsLast (g rows : Graph) : Type 0 where
  pub initial : (u : ℕ) → 0 < u → u ≤ g.nodes → Contains g.edges (0, u)
  pub joined : (e : Edge) → Contains g.edges e → (e.0 ≤ g.nodes) × (e.1 ≤ g.nodes)
  pub rows_of : AreRowsOf rows g
  pub acyclic : IsCyclic g.edges → ⊥

reach_test : (g rows : Graph) (u v : ℕ) → AreRowsOf rows g → has_edge rows.edges (u, v) ≡ true → Reaches g.edges u v
reach_test g rows u v r t = (r.reach u v).0 (edge_in rows.edges (u, v) t)

test_reach : (g rows : Graph) (u v : ℕ) → AreRowsOf rows g → Reaches g.edges u v → has_edge rows.edges (u, v) ≡ true
test_reach g rows u v r w = has_contained rows.edges (u, v) ((r.reach u v).1 w)

edge_reaches : (edges : List Edge) (u v : ℕ) → Contains edges (u, v) → Reaches edges u v
edge_reaches edges u v c = ([], c)

-- a node reaches more than each that it reaches
reaches_more : (g rows : Graph) (u v : ℕ) → IsLast g rows → v ≤ g.nodes → Reaches g.edges u v → unreached rows u < unreached rows v
reaches_more g rows u v l hv w =
    let r = l.rows_of in
    let n = r.nodes in
    count-lt (λ x. not (has_edge rows.edges (u, x))) (λ x. not (has_edge rows.edges (v, x))) (range_with_len 0 (rows.nodes + 1))
    (λ x h t. ap not (false_from_ne_true (has_edge rows.edges (v, x)) (λ k.
    false≢true (sym (ap not (test_reach g rows u x r (reach_joined g.edges u v x w (reach_test g rows v x r k)))) ∙ t))))
    v (Has-from_range v 0 (rows.nodes + 1) (omega arith) (omega (arith, hv, n)))
    (ap not (test_reach g rows u v r w))
    (ap not (false_from_ne_true (has_edge rows.edges (v, v)) (λ k. l.acyclic (v, reach_test g rows v v r k))))

-- no edge leads to node 0
no_edge_back : (g rows : Graph) (u : ℕ) → IsLast g rows → Contains g.edges (u, 0) → ⊥
no_edge_back g rows u l c = elim (cases_lt 0 u) [
  | inl lo ↦ (let first = edge_reaches g.edges 0 u (l.initial u lo (l.joined (u, 0) c).0) in l.acyclic (0, reach_joined g.edges 0 u 0 first (edge_reaches g.edges u 0 c)))
  | inr z ↦ (let e : u ≡ 0 = omega (arith, z) in l.acyclic (0, edge_reaches g.edges 0 0 (subst (λ k. Contains g.edges (k, 0)) e c)))
]

edge_kept : (g rows : Graph) (order : List ℕ) (u v : ℕ) → IsLast g rows → IsOrderByReach rows order → Contains g.edges (u, v) → place_of (0 ∷ order) u < place_of (0 ∷ order) v
edge_kept g rows order u v l o c = elim (cases_lt 0 v) [
  | inr z ↦ (let e : v ≡ 0 = omega (arith, z) in absurd (no_edge_back g rows u l (subst (λ k. Contains g.edges (u, k)) e c)))
  | inl lo ↦
      (let n = l.rows_of.nodes in
      let hv : v ≤ rows.nodes = omega (arith, n, (l.joined (u, v) c).1) in
      let hu : u ≤ rows.nodes = omega (arith, n, (l.joined (u, v) c).0) in
      let apart : 0 ≡ v → ⊥ = λ e. omega (arith, e, lo) in
      let there = place_of-further 0 v order apart in
      elim (cases_lt 0 u) [
        | inr z ↦ (let e : 0 ≡ u = omega (arith, z) in
            let here : place_of (0 ∷ order) u ≡ 0 = cond-true {A = ℕ} (eqb 0 u) 0 _ (eq-eqb 0 u e) in
            omega (arith, here, there))
        | inl low ↦ (let first = place_of-further 0 u order (λ e. omega (arith, e, low)) in
            let less = o.sorted u v (o.each u low hu) (o.each v lo hv) (reaches_more g rows u v l (l.joined (u, v) c).1 (edge_reaches g.edges u v c)) in
            omega (arith, first, there, less))
      ])
]

-- ---- solutions
side_at : (p : Polygraph) (sides : List (Option Side)) (c : ℕ) → c < length sides → is_open_at sides c ≡ false → (side : Side) × (chosen (record { polygraph = p; sides = sides }) c side ≡ true)
side_at p [] c h f = absurd (omega arith)
side_at p (None ∷ xs) zero h f = absurd (false≢true (sym f))
side_at p (Some side ∷ xs) zero h f = (side, same_itself side)
side_at p (x ∷ xs) (suc c) h f = side_at p xs c (omega arith) f

pub last_of : (v : View) (rows : Graph) → IsView v → AreRowsOf rows (graph_in v) → (IsCyclic (edges_in v) → ⊥) → IsLast (graph_in v) rows
last_of v rows w r h = record { initial = λ u lo hi. view_initial v u w lo hi; joined = λ e c. view_joined v e w c; rows_of = r; acyclic = h }

pub all_decided : (v : View) (depth count : ℕ) → IsView v → depth ≡ depth_of v → count ≡ length v.polygraph.choices → depth ≡ count → (c : ℕ) → is_open_in v c ≡ false
all_decided v depth count w d n e c =
    let sided = w.sided in
    let none : open_choices v ≡ [] = nil_from_length (open_choices v) (omega (arith, sided, d, n, e, length-open_from v.sides 0)) in
    none_listed v.sides 0 (ap (λ l. slice_get l 0) none) c

pub depth_of_closed : (v : View) (depth count : ℕ) → IsView v → depth ≡ depth_of v → count ≡ length v.polygraph.choices → ((c : ℕ) → is_open_in v c ≡ false) → depth ≡ count
depth_of_closed v depth count w d n none =
    let sided = w.sided in
    let empty = ap (λ (l : List ℕ). length l) (open_from_none v.sides 0 none) in
    omega (arith, sided, d, n, empty, length-open_from v.sides 0)

pub solve_answered : (v : View) (rows : Graph) (order : List ℕ) → IsView v → IsLast (graph_in v) rows → IsOrderByReach rows order → ((c : ℕ) → is_open_in v c ≡ false) → IsAnswered v (Solve order)
unfolding reply_of
solve_answered v rows order w l o none = λ s seat t.
    let sided = w.sided in
    let cube = cube_at s t.node in
    let count : length s.polygraph.choices ≡ length v.polygraph.choices = ap (λ (p : Polygraph). length p.choices) t.polygraph in
    let decides : decides_all s.polygraph cube ≡ true = all_range (is_decided cube) 0 (length s.polygraph.choices) (λ c lo hi.
    let r = side_at v.polygraph v.sides c (omega (arith, hi, count, sided)) (none c) in
    side_decided cube c r.0 (t.cube c r.0 ∙ r.1)) in
    let nodes : s.polygraph.nodes ≡ rows.nodes = ap (λ (p : Polygraph). p.nodes) t.polygraph ∙ sym l.rows_of.nodes in
    let once : lists_once s.polygraph.nodes order ≡ true = and_from (length order == s.polygraph.nodes) (list_all (λ w. list_any (λ x. x == w) order) (range_with_len 1 s.polygraph.nodes))
    (eq-eqb (length order) s.polygraph.nodes (o.places ∙ sym nodes))
    (all_range (λ w. list_any (λ x. x == w) order) 1 s.polygraph.nodes (λ u lo hi. any_is order u (Has-from_Contains order u (o.each u lo (omega (arith, hi, nodes)))))) in
    let kept : keeps_edges order (edges_under s.polygraph cube) ≡ true = ap (keeps_edges order) (edges_are s seat v t)
    ∙ all_in (λ (e : Edge). nat_lt (place_of (0 ∷ order) e.0) (place_of (0 ∷ order) e.1)) (edges_in v) (λ e c. lt-ltb _ _ (edge_kept (graph_in v) rows order e.0 e.1 l o c)) in
    let test : is_solution s.polygraph cube order ≡ true = and_from (decides_all s.polygraph cube) (lists_once s.polygraph.nodes order && keeps_edges order (edges_under s.polygraph cube)) decides
    (and_from (lists_once s.polygraph.nodes order) (keeps_edges order (edges_under s.polygraph cube)) once kept) in
    ap (λ b. is_closing (cond b Finished (solve_reply s order (node_held s seat)))) t.unfinished
    ∙ ap (λ k. is_closing (solve_reply s order k)) t.held
    ∙ ap (λ b. is_closing (cond b Solved BadOrder)) test
