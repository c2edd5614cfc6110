-- Marks of the choices of which a side is refuted.
use Rattle.branching.proofs.Prelude.{◌≡◌, ◌≢◌, ◌⊎◌, ◌↔◌, ℕ, zero, suc, ◌+◌, ◌/◌, ◌<◌, ◌≤◌, true, not, eqb, ◌&&◌, List, [], ◌∷◌, ◌++◌, length, get_or, set, take, Option, Some, sym, ap, ◌∙◌, subst, inl, inr, arith, Vec, Global, slice_get}
use Rattle.branching.proofs.Prelude.{option_map_or, Contains, list_any, cases_eq, cases_Bool, false≢true, and_parts, and_from, or_cases, eqb-true, eq-eqb, take_more, Edge, Choice, Polygraph, Graph, Reaches, Contains-here, Contains-further}
use Rattle.branching.proofs.Prelude.{each_contained, reach_joined, Side, edges_of, Sides, kept_from, IsRefuted, same_side, same_is, same_itself, bit_of, row_len, has_edge, edge_in, has_in, has_contained, In, In-from_Contains}
use Rattle.branching.proofs.Prelude.{Contains-from_In, In-append_cases, AreRowsOf, side_of, IsReduced, contained_at, side_is, choice_of_edge, at_kept, SideEdge, is_open_at, AreIncoming, Keeps, IsOrReaches, MarksBehind, MarksTarget}
use Rattle.branching.proofs.Prelude.{MarksAll, AreMarked}
use Rattle.std.proofs.Math.Seq.{take-append_seam}
use Rattle.known_graph.proofs.Edges.{node_word}
use Rattle.reach_rows.proofs.Walking.{grown_reach}
use Rattle.side_edges.specs.Listed.{list_of, HasSides}
use Rattle.branching.proofs.Opens.{open_within, open_set}

-- what was written over the whole of a list
pub written_whole : {X : Type 0} (n : ℕ) (xs ys : List X) → n ≡ length xs → take n (xs ++ ys) ≡ xs
written_whole n xs ys e = ap (λ m. take m (xs ++ ys)) e ∙ take-append_seam xs ys

-- ---- lists by number
list_is : (lists : List (Vec SideEdge Global)) (k : ℕ) (list : Vec SideEdge Global) → slice_get lists k ≡ Some list → list_of lists k ≡ list.items
list_is lists k list at = ap (λ o. option_map_or (λ (l : Vec SideEdge Global). l.items) o []) at

-- in a part with an item more
pub last_or : {X : Type 0} (x y : X) (xs : List X) → Contains (xs ++ y ∷ []) x → Contains xs x ⊎ (y ≡ x)
last_or x y xs c = elim (In-append_cases x xs (y ∷ []) (In-from_Contains (xs ++ y ∷ []) x c)) [
  | inl a ↦ inl (Contains-from_In xs x a)
  | inr b ↦ elim b [ inl e ↦ inr e | inr none ↦ absurd none ]
]

-- ---- edges that are listed
entry_in : (list : List SideEdge) (x : SideEdge) → list_any (λ y. eqb y.source x.source && (eqb x.choice y.choice && same_side x.side y.side)) list ≡ true → Contains list x
entry_in [] x h = absurd (false≢true h)
entry_in (y ∷ ys) x h = elim (or_cases (eqb y.source x.source && (eqb x.choice y.choice && same_side x.side y.side)) (list_any (λ z. eqb z.source x.source && (eqb x.choice z.choice && same_side x.side z.side)) ys) h) [
  | inl t ↦
      (let a = and_parts (eqb y.source x.source) (eqb x.choice y.choice && same_side x.side y.side) t in
      let b = and_parts (eqb x.choice y.choice) (same_side x.side y.side) a.1 in
      subst (Contains (y ∷ ys)) (λ i. record { source = eqb-true y.source x.source a.0 i; choice = sym (eqb-true x.choice y.choice b.0) i; side = sym (same_is x.side y.side b.1) i }) (Contains-here y ys))
  | inr more ↦ Contains-further y x ys (entry_in ys x more)
]

listed : (choices : List Choice) (lists : List (Vec SideEdge Global)) (c : ℕ) (side : Side) (e : Edge) → HasSides choices lists → Contains (side_of choices c side) e → Contains (list_of lists e.1) (record { source = e.0; choice = c; side = side })
listed choices lists c side e has i =
    let only : Sides = λ k s. eqb c k && same_side side s in
    let own = In-from_Contains (side_of choices c side) e i in
    let g = choice_of_edge choices c side e own in
    let t : only (0 + c) side ≡ true = and_from (eqb c (0 + c)) (same_side side side) (eq-eqb c (0 + c) (omega arith)) (same_itself side) in
    entry_in (list_of lists e.1) (record { source = e.0; choice = c; side = side })
    (has.each only e ∙ has_in (kept_from only 0 choices) e (at_kept only 0 choices e c g.choice side g.at t (subst (In e) (side_is choices c g.choice side g.at) own)))

-- ---- marks that are kept
pub keeps_then : (a b c : List ℕ) → Keeps a b → Keeps b c → Keeps a c
keeps_then a b c x y = record { kept = λ k t. y.kept k (x.kept k t); len = y.len ∙ x.len }

pub behind_kept : (rows : List Edge) (v : ℕ) (list : List SideEdge) (old new : List ℕ) → Keeps old new → MarksBehind rows v list old → MarksBehind rows v list new
behind_kept rows v list old new k m = record { each = λ x c lt r. k.kept x.choice (m.each x c (subst (λ n. x.choice / 64 < n) k.len lt) r) }

pub behind_more : (rows : List Edge) (v : ℕ) (list : List SideEdge) (old new : List ℕ) (k : ℕ) (d : SideEdge) → k < length list → d ≡ get_or list k d → MarksBehind rows v (take k list) old → Keeps old new
    → (d.choice / 64 < length old → IsOrReaches rows v d.source → bit_of new d.choice ≡ true) → MarksBehind rows v (take (k + 1) list) new
behind_more rows v list old new k d lt is m keeps marked =
    subst (λ (l : List SideEdge). MarksBehind rows v l new) (ap (λ (x : SideEdge). take k list ++ x ∷ []) is ∙ sym (take_more list k d lt)) (record {
      each = λ x c within r. elim (last_or x d (take k list) c) [
        | inl a ↦ (behind_kept rows v (take k list) old new keeps m).each x a within r
        | inr same ↦
            subst (λ (y : SideEdge). y.choice / 64 < length new → IsOrReaches rows v y.source → bit_of new y.choice ≡ true) same
            (λ w q. marked (subst (λ n. d.choice / 64 < n) keeps.len w) q) within r
      ];
    })

-- the lists of the nodes below a number are done
pub record MarksBelow (rows : List Edge) (u v : ℕ) (lists : List (Vec SideEdge Global)) (number : ℕ) (marks : List ℕ) : Type 0 where
  pub each : (t : ℕ) → t < number → MarksTarget rows t u v (list_of lists t) marks

pub below_more : (rows : List Edge) (u v : ℕ) (lists : List (Vec SideEdge Global)) (k : ℕ) (list : Vec SideEdge Global) (old new : List ℕ) → slice_get lists k ≡ Some list → MarksBelow rows u v lists k old → Keeps old new
    → MarksTarget rows k u v list.items new → MarksBelow rows u v lists (k + 1) new
below_more rows u v lists k list old new at m keeps marked = record {
  each = λ t lt. elim (cases_eq t k) [
    | inl same ↦ subst (λ n. MarksTarget rows n u v (list_of lists n) new) (sym same) (subst (λ l. MarksTarget rows k u v l new) (sym (list_is lists k list at)) marked)
    | inr ne ↦
        (let less : t < k = omega (arith, lt, ne) in
        record { each = λ r f. behind_kept rows v (list_of lists t) old new keeps ((m.each t less).each r f) })
  ];
}

-- ---- what a mark is for
no_list : (lists : List (Vec SideEdge Global)) (t : ℕ) (x : SideEdge) → Contains (list_of lists t) x → t < length lists
no_list [] t x c = absurd (In-from_Contains [] x c)
no_list (l ∷ ls) zero x c = omega arith
no_list (l ∷ ls) (suc t) x c = let lt = no_list ls t x c in omega (arith, lt)

by_rows : (rows graph : Graph) (u w : ℕ) → AreRowsOf rows graph → (u ≡ w) ⊎ Reaches graph.edges u w → IsOrReaches rows.edges u w
by_rows rows graph u w a (inl e) = inl e
by_rows rows graph u w a (inr r) = inr ((a.reach u w).1 r)

pub all_marked : (rows graph : Graph) (u v : ℕ) (lists : List (Vec SideEdge Global)) (k : ℕ) (marks : List ℕ) → AreRowsOf rows graph → length lists ≤ k → MarksBelow rows.edges u v lists k marks → MarksAll graph.edges u v lists marks
all_marked rows graph u v lists k marks a past m = record {
  each = λ t x c within to not_yet from.
      (let lt = no_list lists t x c in
      ((m.each t (omega (arith, lt, past))).each (by_rows rows graph t u a to) (λ i. not_yet ((a.reach t v).0 i))).each x c within (by_rows rows graph v x.source a from));
}

-- where u reached v already, no node comes to reach it
pub none_to_mark : (graph : Graph) (u v : ℕ) (lists : List (Vec SideEdge Global)) (marks : List ℕ) → Reaches graph.edges u v → MarksAll graph.edges u v lists marks
none_to_mark graph u v lists marks r = record { each = λ t x c within to not_yet from. absurd (not_yet (reached t to)) }
  where
    reached : (t : ℕ) → (t ≡ u) ⊎ Reaches graph.edges t u → Reaches graph.edges t v
    reached t (inl e) = subst (λ n. Reaches graph.edges n v) (sym e) r
    reached t (inr s) = reach_joined graph.edges t u v s r

-- ---- the marks of a view
pub marked_none : (p : Polygraph) (sides : List (Option Side)) (edges : List Edge) (marks : List ℕ) → IsReduced p → edges ≡ p.known → length marks ≡ row_len (length p.choices) → AreMarked p.choices sides edges marks
marked_none p sides edges marks reduced same len = record {
  len = len;
  marked = λ c side free r.
      (let g = choice_of_edge p.choices c side (r.0, r.1.0) (In-from_Contains (side_of p.choices c side) (r.0, r.1.0) r.1.1.0) in
      let whole : IsRefuted p.known (edges_of g.choice side) = subst (λ l. IsRefuted l (edges_of g.choice side)) same (subst (IsRefuted edges) (side_is p.choices c g.choice side g.at) r) in
      absurd (each_contained (λ h. (s : Side) → IsRefuted p.known (edges_of h s) → ⊥) p.choices g.choice reduced.unrefuted (contained_at p.choices c g.choice g.at) side whole));
}

contained_or : (edges : List Edge) (e : Edge) → Contains edges e ⊎ (Contains edges e → ⊥)
contained_or edges e = elim (cases_Bool (has_edge edges e)) [
  | inl t ↦ inl (edge_in edges e t)
  | inr f ↦ inr (λ c. false≢true (sym f ∙ has_contained edges e c))
]

-- one edge more
marked_edge : (rows g new : Graph) (choices : List Choice) (n : ℕ) (lists : List (Vec SideEdge Global)) (old marks : List ℕ) (u v c : ℕ) (e : Edge) (side : Side) → AreRowsOf rows g → AreIncoming n choices lists
    → ((x : Edge) → (Contains new.edges x ↔ (Contains g.edges x ⊎ (x ≡ (u, v))))) → Keeps old marks → MarksAll g.edges u v lists marks → (c / 64 < length marks)
    → (IsRefuted g.edges (side_of choices c side) → bit_of old c ≡ true) → Contains (side_of choices c side) e → Reaches new.edges e.1 e.0 → bit_of marks c ≡ true
marked_edge rows g new choices n lists old marks u v c e side are incoming more keeps all within before i r =
    elim ((grown_reach g.edges new.edges u v more e.1 e.0).0 r) [
      | inl was ↦ keeps.kept c (before (e.0, (e.1, (i, was))))
      | inr via ↦ elim (contained_or (rows.edges) (e.1, v)) [
        | inl already ↦ keeps.kept c (before (e.0, (e.1, (i, on_from ((are.reach e.1 v).0 already) via.1))))
        | inr not_yet ↦ all.each e.1 (record { source = e.0; choice = c; side = side }) (listed choices lists c side e incoming.sides i) within via.0 (λ q. not_yet ((are.reach e.1 v).1 q)) (turned via.1)
      ]
    ]
  where
    on_from : Reaches g.edges e.1 v → (e.0 ≡ v) ⊎ Reaches g.edges v e.0 → Reaches g.edges e.1 e.0
    on_from q (inl same) = subst (Reaches g.edges e.1) (sym same) q
    on_from q (inr s) = reach_joined g.edges e.1 v e.0 q s

    turned : (e.0 ≡ v) ⊎ Reaches g.edges v e.0 → (v ≡ e.0) ⊎ Reaches g.edges v e.0
    turned (inl same) = inl (sym same)
    turned (inr s) = inr s

pub marked_more : (rows g new : Graph) (choices : List Choice) (sides : List (Option Side)) (n : ℕ) (lists : List (Vec SideEdge Global)) (old marks : List ℕ) (u v a b : ℕ) → AreRowsOf rows g → AreIncoming n choices lists
    → length sides ≡ length choices → u ≡ a → v ≡ b → ((x : Edge) → (Contains new.edges x ↔ (Contains g.edges x ⊎ (x ≡ (a, b))))) → Keeps old marks → MarksAll g.edges u v lists marks → AreMarked choices sides g.edges old → AreMarked choices sides new.edges marks
marked_more rows g new choices sides n lists old marks u v a b are incoming count p q more keeps all m = record {
  len = keeps.len ∙ m.len;
  marked = λ c side free r.
      (let lt = open_within sides c free in
      let within : c / 64 < length marks = subst (λ k. c / 64 < k) (sym (keeps.len ∙ m.len)) (node_word (length choices) c (omega (arith, lt, count))) in
      let added = subst (λ (x : Edge). (y : Edge) → (Contains new.edges y ↔ (Contains g.edges y ⊎ (y ≡ x)))) (λ i. (sym p i, sym q i)) more in
      marked_edge rows g new choices n lists old marks u v c (r.0, r.1.0) side are incoming added keeps all within (m.marked c side free) r.1.1.0 r.1.1.1);
}

-- a choice is decided
pub marked_decided : (choices : List Choice) (sides next : List (Option Side)) (edges : List Edge) (old marks : List ℕ) (c : ℕ) (side : Side) → c < length sides → next ≡ set sides c (Some side) → length marks ≡ length old
    → ((k : ℕ) → bit_of marks k ≡ (not (eqb k c) && bit_of old k)) → AreMarked choices sides edges old → AreMarked choices next edges marks
marked_decided choices sides next edges old marks c side lt is len bits m = record {
  len = len ∙ m.len;
  marked = λ k s free r.
      (let t : (not (eqb k c) && is_open_at sides k) ≡ true = sym (open_set sides c side k lt) ∙ sym (ap (λ l. is_open_at l k) is) ∙ free in
      let both = and_parts (not (eqb k c)) (is_open_at sides k) t in
      bits k ∙ and_from (not (eqb k c)) (bit_of old k) both.0 (m.marked k s both.1 r));
}
