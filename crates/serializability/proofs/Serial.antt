-- An order is serial exactly when it fits the arcs and the bipaths.
use Rattle.serializability.proofs.Prelude.{◌≡◌, ◌≢◌, ◌⊎◌, ℕ, zero, suc, ◌+◌, ◌<◌, ◌≤◌, true, false, eqb, not, ◌&&◌, ◌||◌, List, [], ◌∷◌, ◌++◌, length, Option, None, Some, refl, sym, ap, ◌∙◌, subst, inl, inr, arith, unwrap_or, eqb-true}
use Rattle.serializability.proofs.Prelude.{eq-eqb, ne_eqb, append_assoc, is_some, map, filter, flat_map, AllByRecursion, cases_eq, cases_lt, false≢true, or_cases, and_parts, and_from, or_right, or_left, not-true, not_from_false, eqb-false}
use Rattle.serializability.proofs.Prelude.{Event, Log, precedes, place_of, Before, ListsOnce, IsSerial, after, empty, Meets, later, last_write, IsFinal, ReadsAfter, IsClean, Edge, Choice, KeepsOne, Fits, bipath_polygraph, rival_choice}
use Rattle.serializability.proofs.Prelude.{arcs, is_arc, bipaths, bipaths_at, is_rival, all_nodes, all_keys, committed, source, reads_from, flat_map-append}
use Rattle.serializability.proofs.Places.{Has, Apart, Has-from_Contains, Contains-from_Has, Apart-from_IsDistinct, Has-append_front, Has-append_back, Has-append_cases, Apart-not_both, place_of-here, place_of-further, place_of-front, place_of-back, Has-split, each_of_range, each_from_range, each_of_flat_map, each_from_flat_map, each_of_map, each_from_map, each_of_filter, each_from_filter}
use Rattle.serializability.proofs.Replays.{after_is, last_write-append, Meets_read, Meets-from_reads, Meets_node, Meets-from_nodes, LastWriter, last_writer, no_writer, no_writer_from}
use Rattle.serializability.proofs.Sources.{SourceOf, source_is, source_from, reads_from_is, reads_from_source}

-- ---- places in an order that lists each node once
pub zero_first : (order : List ℕ) (v : ℕ) → 0 < v → Before order 0 v
zero_first order v h =
    let ne : 0 ≡ v → ⊥ = λ e. omega (arith, e) in
    omega (arith, place_of-here 0 order, place_of-further 0 v order ne)

pub behind_zero : (order : List ℕ) (v : ℕ) → 0 < v → place_of (0 ∷ order) v ≡ suc (place_of order v)
behind_zero order v h = place_of-further 0 v order (λ e. omega (arith, e))

pub never_before_zero : (order : List ℕ) (v : ℕ) → Before order v 0 → ⊥
never_before_zero order v h = omega (arith, place_of-here 0 order, h)

-- an order cut at one of its nodes
record Cut (order : List ℕ) (v : ℕ) : Type 0 where
  pub front : List ℕ
  pub back : List ℕ
  pub stands : order ≡ front ++ v ∷ back
  pub apart : Apart (front ++ v ∷ back)
  pub node : 0 < v

at_cut : (order : List ℕ) (v : ℕ) (c : Cut order v) → place_of order v ≡ length c.front
at_cut order v c =
    ap (λ l. place_of l v) c.stands
    ∙ place_of-back v c.front (v ∷ c.back) (λ h. Apart-not_both v c.front (v ∷ c.back) c.apart h (inl refl))
    ∙ (let e = place_of-here v c.back in omega (arith, e))

before_from_front : (order : List ℕ) (v : ℕ) (c : Cut order v) (u : ℕ) → 0 < u → Has u c.front → Before order u v
before_from_front order v c u lo h =
    let e : place_of order u ≡ place_of (c.front ++ v ∷ c.back) u = ap (λ l. place_of l u) c.stands in
    omega (arith, behind_zero order u lo, behind_zero order v c.node, at_cut order v c, e, place_of-front u c.front (v ∷ c.back) h)

before_from_back : (order : List ℕ) (v : ℕ) (c : Cut order v) (u : ℕ) → 0 < u → Has u c.back → Before order v u
before_from_back order v c u lo h =
    let e : place_of order u ≡ place_of (c.front ++ v ∷ c.back) u = ap (λ l. place_of l u) c.stands in
    let absent : Has u c.front → ⊥ = λ k. Apart-not_both u c.front (v ∷ c.back) c.apart k (inr h) in
    let there = place_of-back u c.front (v ∷ c.back) absent in
    let apart : v ≡ u → ⊥ = λ same. Apart-not_both u (c.front ++ v ∷ []) c.back
    (subst Apart (sym (append_assoc c.front (v ∷ []) c.back)) c.apart) (Has-append_back u c.front (v ∷ []) (inl same)) h in
    omega (arith, behind_zero order u lo, behind_zero order v c.node, at_cut order v c, e, there, place_of-further v u c.back apart)

in_front : (u : ℕ) (f b : List ℕ) → place_of (f ++ b) u < length f → Has u f
in_front u [] b h = absurd (omega arith)
in_front u (x ∷ f) b h = elim (cases_eq x u) [
  | inl e ↦ inl e
  | inr ne ↦ inr (in_front u f b (omega (arith, place_of-further x u (f ++ b) ne)))
]

front_from_before : (order : List ℕ) (v : ℕ) (c : Cut order v) (u : ℕ) → 0 < u → Before order u v → Has u c.front
front_from_before order v c u lo h =
    let e : place_of order u ≡ place_of (c.front ++ v ∷ c.back) u = ap (λ l. place_of l u) c.stands in
    in_front u c.front (v ∷ c.back) (omega (arith, h, behind_zero order u lo, behind_zero order v c.node, at_cut order v c, e))

pub node_of : (n : ℕ) (order : List ℕ) → ListsOnce n order → (v : ℕ) → Has v order → (0 < v) × (v ≤ n)
node_of n order once v h =
    let c = Contains-from_Has order v h in
    let P : ℕ → Type 0 = λ u. (0 < u) × (u ≤ n) in
    subst P c.2 (once.only c.0 v c.1)

cut_at : (n : ℕ) (order : List ℕ) → ListsOnce n order → (v : ℕ) → 0 < v → v ≤ n → Cut order v
cut_at n order once v lo hi =
    let s = Has-split v order (Has-from_Contains order v (once.each v lo hi)) in
    record { front = s.0; back = s.1.0; stands = s.1.1; apart = subst Apart s.1.1 (Apart-from_IsDistinct order once.distinct); node = lo }

abbrev cut_here : (n : ℕ) (order front back : List ℕ) (v : ℕ) → ListsOnce n order → order ≡ front ++ v ∷ back → Cut order v
cut_here n order front back v once e =
    record {
      front = front;
      back = back;
      stands = e;
      apart = subst Apart e (Apart-from_IsDistinct order once.distinct);
      node = (node_of n order once v (subst (Has v) (sym e) (Has-append_back v front (v ∷ back) (inl refl)))).0;
    }

in_order : (n : ℕ) (order : List ℕ) (v : ℕ) (c : Cut order v) (u : ℕ) → Has u c.front ⊎ Has u c.back → Has u order
in_order n order v c u (inl h) = subst (Has u) (sym c.stands) (Has-append_front u c.front (v ∷ c.back) h)
in_order n order v c u (inr h) = subst (Has u) (sym c.stands) (Has-append_back u c.front (v ∷ c.back) (inr h))

-- ---- what the known edges and the choices say
abbrev pub KeepsArcs : Log → List ℕ → Type 0
KeepsArcs log order = (u v : ℕ) → u ≤ log.nodes → v ≤ log.nodes → is_arc log (u, v) ≡ true → Before order u v

pub each_of_arcs : (log : Log) (Q : Edge → Type 0) → AllByRecursion Q (arcs log) → (u v : ℕ) → u ≤ log.nodes → v ≤ log.nodes → is_arc log (u, v) ≡ true → Q (u, v)
each_of_arcs log Q h u v hu hv arc =
    let P : Edge → Type 0 = λ e. is_arc log e ≡ true → Q e in
    let pairs : ℕ → List Edge = λ a. map (λ b. (a, b)) (all_nodes log) in
    let all = each_of_filter Q (is_arc log) (flat_map pairs (all_nodes log)) h in
    let rows = each_of_flat_map P pairs (all_nodes log) all in
    let row = each_of_range (λ a. AllByRecursion P (pairs a)) 0 (log.nodes + 1) rows u (omega arith) (omega arith) in
    each_of_range (λ b. P (u, b)) 0 (log.nodes + 1) (each_of_map P (λ b. (u, b)) (all_nodes log) row) v (omega arith) (omega arith) arc

pub each_from_arcs : (log : Log) (Q : Edge → Type 0) → ((u v : ℕ) → u ≤ log.nodes → v ≤ log.nodes → is_arc log (u, v) ≡ true → Q (u, v)) → AllByRecursion Q (arcs log)
each_from_arcs log Q h =
    let P : Edge → Type 0 = λ e. is_arc log e ≡ true → Q e in
    let pairs : ℕ → List Edge = λ a. map (λ b. (a, b)) (all_nodes log) in
    each_from_filter Q (is_arc log) (flat_map pairs (all_nodes log))
    (each_from_flat_map P pairs (all_nodes log)
    (each_from_range (λ a. AllByRecursion P (pairs a)) 0 (log.nodes + 1) (λ u lo hi.
    each_from_map P (λ b. (u, b)) (all_nodes log)
    (each_from_range (λ b. P (u, b)) 0 (log.nodes + 1) (λ v lo' hi'. h u v (omega arith) (omega arith))))))

pub arcs_kept : (log : Log) (order : List ℕ) → AllByRecursion (λ e. Before order e.0 e.1) (arcs log) → KeepsArcs log order
arcs_kept log order h = each_of_arcs log (λ e. Before order e.0 e.1) h

pub keeps_arcs : (log : Log) (order : List ℕ) → KeepsArcs log order → AllByRecursion (λ e. Before order e.0 e.1) (arcs log)
keeps_arcs log order h = each_from_arcs log (λ e. Before order e.0 e.1) h

-- a fact of each bipath, by reader, key, source and rival
abbrev pub EachRival : Log → (Choice → Type 0) → Type 0
EachRival log Q = (r x w k : ℕ) → 0 < r → r ≤ log.nodes → x < log.keys → source log r x ≡ Some w → 0 < k → k ≤ log.nodes → is_rival log x w r k ≡ true → Q (rival_choice w r k)

at_source : (log : Log) (Q : Choice → Type 0) (r x w : ℕ) (o : Option ℕ) → o ≡ Some w → AllByRecursion Q (bipaths_at log r x o) → (k : ℕ) → 0 < k → k ≤ log.nodes → is_rival log x w r k ≡ true → Q (rival_choice w r k)
at_source log Q r x w None e h k lo hi t = cc
at_source log Q r x w (Some u) e h k lo hi t =
    let same : u ≡ w = cc in
    let pairs = each_of_map Q (rival_choice u r) (filter (is_rival log x u r) (committed log)) h in
    let rivals = each_of_filter (λ v. Q (rival_choice u r v)) (is_rival log x u r) (committed log) pairs in
    let one = each_of_range (λ v. is_rival log x u r v ≡ true → Q (rival_choice u r v)) 1 log.nodes rivals k (omega arith) (omega arith)
    (subst (λ n. is_rival log x n r k ≡ true) (sym same) t) in
    subst (λ n. Q (rival_choice n r k)) same one

pub each_of_bipaths : (log : Log) (Q : Choice → Type 0) → AllByRecursion Q (bipaths log) → EachRival log Q
each_of_bipaths log Q h r x w k lo hi key from klo khi t =
    let at : ℕ → List Choice = λ a. flat_map (λ y. bipaths_at log a y (source log a y)) (all_keys log) in
    let rows = each_of_flat_map Q at (committed log) h in
    let row = each_of_range (λ a. AllByRecursion Q (at a)) 1 log.nodes rows r (omega arith) (omega arith) in
    let keys = each_of_flat_map Q (λ y. bipaths_at log r y (source log r y)) (all_keys log) row in
    let one = each_of_range (λ y. AllByRecursion Q (bipaths_at log r y (source log r y))) 0 log.keys keys x (omega arith) (omega arith) in
    at_source log Q r x w (source log r x) from one k klo khi t

from_source : (log : Log) (Q : Choice → Type 0) (r x : ℕ) (o : Option ℕ) → ((w k : ℕ) → o ≡ Some w → 0 < k → k ≤ log.nodes → is_rival log x w r k ≡ true → Q (rival_choice w r k)) → AllByRecursion Q (bipaths_at log r x o)
from_source log Q r x None h = tt
from_source log Q r x (Some u) h =
    each_from_map Q (rival_choice u r) (filter (is_rival log x u r) (committed log))
    (each_from_filter (λ v. Q (rival_choice u r v)) (is_rival log x u r) (committed log)
    (each_from_range (λ v. is_rival log x u r v ≡ true → Q (rival_choice u r v)) 1 log.nodes
    (λ k lo hi t. h u k refl (omega arith) (omega arith) t)))

pub each_from_bipaths : (log : Log) (Q : Choice → Type 0) → EachRival log Q → AllByRecursion Q (bipaths log)
each_from_bipaths log Q h =
    let at : ℕ → List Choice = λ a. flat_map (λ y. bipaths_at log a y (source log a y)) (all_keys log) in
    each_from_flat_map Q at (committed log)
    (each_from_range (λ a. AllByRecursion Q (at a)) 1 log.nodes (λ r lo hi.
    each_from_flat_map Q (λ y. bipaths_at log r y (source log r y)) (all_keys log)
    (each_from_range (λ y. AllByRecursion Q (bipaths_at log r y (source log r y))) 0 log.keys (λ x lo' hi'.
    from_source log Q r x (source log r x) (λ w k from klo khi t. h r x w k (omega arith) (omega arith) (omega arith) from klo khi t)))))

abbrev pub KeepsBipaths : Log → List ℕ → Type 0
KeepsBipaths log order = EachRival log (KeepsOne order)

pub bipaths_kept : (log : Log) (order : List ℕ) → AllByRecursion (KeepsOne order) (bipaths log) → KeepsBipaths log order
bipaths_kept log order h = each_of_bipaths log (KeepsOne order) h

pub keeps_bipaths : (log : Log) (order : List ℕ) → KeepsBipaths log order → AllByRecursion (KeepsOne order) (bipaths log)
keeps_bipaths log order h = each_from_bipaths log (KeepsOne order) h

-- ---- tests as facts
pub arc_from_zero : (log : Log) (v : ℕ) → 0 < v → is_arc log (0, v) ≡ true
arc_from_zero log v lo = let e : eqb v 0 ≡ false = ne_eqb v 0 (λ z. omega (arith, z)) in rw e refl

arc_from_session : (log : Log) (u : ℕ) → log.session u ≡ log.session (suc u) → is_arc log (u, suc u) ≡ true
arc_from_session log u e =
    let next : eqb (u + 1) (suc u) ≡ true = eq-eqb (u + 1) (suc u) (omega arith) in
    let same : eqb (log.session u) (log.session (suc u)) ≡ true = eq-eqb _ _ e in
    let e' : eqb (suc u) 0 ≡ false = ne_eqb (suc u) 0 (λ z. omega (arith, z)) in
    and_from (not (eqb (suc u) 0)) _ (not_from_false (eqb (suc u) 0) e')
    (or_right (eqb u 0) _ (or_left _ (reads_from log (suc u) u || precedes log u (suc u)) (and_from (eqb (u + 1) (suc u)) _ next same)))

pub arc_from_read : (log : Log) (r u : ℕ) → 0 < r → reads_from log r u ≡ true → is_arc log (u, r) ≡ true
arc_from_read log r u lo t =
    let e : eqb r 0 ≡ false = ne_eqb r 0 (λ z. omega (arith, z)) in
    and_from (not (eqb r 0)) _ (not_from_false (eqb r 0) e)
    (or_right (eqb u 0) _ (or_right _ (reads_from log r u || precedes log u r) (or_left (reads_from log r u) (precedes log u r) t)))

pub arc_from_moments : (log : Log) (u v : ℕ) → 0 < v → precedes log u v ≡ true → is_arc log (u, v) ≡ true
arc_from_moments log u v lo t =
    let e : eqb v 0 ≡ false = ne_eqb v 0 (λ z. omega (arith, z)) in
    and_from (not (eqb v 0)) _ (not_from_false (eqb v 0) e)
    (or_right (eqb u 0) _ (or_right _ (reads_from log v u || precedes log u v) (or_right (reads_from log v u) (precedes log u v) t)))

-- why there is an arc to v
abbrev pub HasReason : Log → ℕ → ℕ → Type 0
HasReason log u v =
    ((u ≡ 0) ⊎ ((u + 1 ≡ v) × (log.session u ≡ log.session v))) ⊎ ((reads_from log v u ≡ true) ⊎ (precedes log u v ≡ true))

pub arc_cases : (log : Log) (u v : ℕ) → is_arc log (u, v) ≡ true → (0 < v) × HasReason log u v
arc_cases log u v t =
    let p = and_parts (not (eqb v 0)) _ t in
    let pos : 0 < v = elim (cases_lt 0 v) [ inl h ↦ h | inr h ↦ absurd (eqb-false v 0 (not-true (eqb v 0) p.0) (omega (arith, h))) ] in (
      pos,
      elim (or_cases (eqb u 0) _ p.1) [
        | inl z ↦ inl (inl (eqb-true u 0 z))
        | inr q ↦ elim (or_cases ((eqb (u + 1) v) && (eqb (log.session u) (log.session v))) (reads_from log v u || precedes log u v) q) [
          | inl s ↦ let b = and_parts (eqb (u + 1) v) (eqb (log.session u) (log.session v)) s in inl (inr (eqb-true (u + 1) v b.0, eqb-true (log.session u) (log.session v) b.1))
          | inr s ↦ inr (or_cases (reads_from log v u) (precedes log u v) s)
        ]
      ],
    )

pub is_some_from : (o : Option ℕ) (w : ℕ) → o ≡ Some w → is_some o ≡ true
is_some_from o w e = ap is_some e

pub some_cases : (o : Option ℕ) → (o ≡ None) ⊎ ((w : ℕ) × (o ≡ Some w))
some_cases None = inl refl
some_cases (Some w) = inr (w, refl)

pub rival_from : (log : Log) (x w r k y : ℕ) → last_write x (log.ops k) ≡ Some y → k ≢ w → k ≢ r → is_rival log x w r k ≡ true
rival_from log x w r k y e nw nr =
    and_from _ _ (is_some_from (last_write x (log.ops k)) y e)
    (and_from _ _ (not_from_false (eqb k w) (ne_eqb k w nw)) (not_from_false (eqb k r) (ne_eqb k r nr)))

pub none_not_some : (o : Option ℕ) → o ≡ None → is_some o ≡ true → ⊥
none_not_some o e t = false≢true (sym (ap is_some e) ∙ t)

pub rival_is : (log : Log) (x w r k : ℕ) → is_rival log x w r k ≡ true → (is_some (last_write x (log.ops k)) ≡ true) × (k ≢ w) × (k ≢ r)
rival_is log x w r k t =
    let p = and_parts (is_some (last_write x (log.ops k))) _ t in
    let q = and_parts (not (eqb k w)) (not (eqb k r)) p.1 in
    (p.0, eqb-false k w (not-true (eqb k w) q.0), eqb-false k r (not-true (eqb k r) q.1))

-- ---- from a serial order
-- what a read at a cut finds
value_read : (log : Log) (order : List ℕ) (r : ℕ) (c : Cut order r) (x w : ℕ) (before : List Event) → Meets empty (flat_map log.ops order) → ReadsAfter log r before x w → last_write x before ≡ None → unwrap_or (last_write x (flat_map log.ops c.front)) 0 ≡ w
value_read log order r c x w before meets reads external =
    let all = subst (λ l. Meets empty (flat_map log.ops l)) c.stands meets in
    let node = Meets_node empty log.ops c.front c.back r all in
    let start = after empty (flat_map log.ops c.front) in
    let read = Meets_read start before reads.2.0 x w (subst (Meets start) reads.2.1 node) in
    sym (after_is empty (flat_map log.ops c.front) x)
    ∙ sym (ap (λ o. unwrap_or o (start x)) external)
    ∙ sym (after_is start before x) ∙ read

abbrev FrontHolds : Log → ℕ → ℕ → List ℕ → Type 0
FrontHolds log x u front = ((u ≡ 0) × (last_write x (flat_map log.ops front) ≡ None)) ⊎ ((w : ℕ) × ((l : LastWriter log.ops x w front) × (l.writer ≡ u)))

front_cases : (log : Log) → IsClean log → (order : List ℕ) → ListsOnce log.nodes order → (r : ℕ) (c : Cut order r) (x u w : ℕ) → IsFinal log u x w → (o : Option ℕ) → last_write x (flat_map log.ops c.front) ≡ o → unwrap_or o 0 ≡ w → FrontHolds log x u c.front
front_cases log clean order once r c x u w final None e value =
    inl (clean.apart u 0 x w final (inl (refl, sym value)), e)
front_cases log clean order once r c x u w final (Some y) e value =
    let l = last_writer log.ops x w c.front (e ∙ ap Some value) in
    let there : Has l.writer c.front = subst (Has l.writer) (sym l.stands) (Has-append_back l.writer l.front (l.writer ∷ l.back) (inl refl)) in
    let node = node_of log.nodes order once l.writer (in_order log.nodes order r c l.writer (inl there)) in
    inr (w, (l, clean.apart l.writer u x w (inr (node.0, node.1, l.wrote)) final))

source_in_front : (log : Log) → IsClean log → (order : List ℕ) → IsSerial log order → (r x u : ℕ) (c : Cut order r) → SourceOf log r x u → FrontHolds log x u c.front
source_in_front log clean order s r x u c f =
    front_cases log clean order s.once r c x u f.w f.final (last_write x (flat_map log.ops c.front)) refl
    (value_read log order r c x f.w f.before s.reads f.reads f.external)

writer_has : (log : Log) (x w : ℕ) (line : List ℕ) (l : LastWriter log.ops x w line) → Has l.writer line
writer_has log x w line l = subst (Has l.writer) (sym l.stands) (Has-append_back l.writer l.front (l.writer ∷ l.back) (inl refl))

serial_arcs : (log : Log) → IsClean log → (order : List ℕ) → IsSerial log order → KeepsArcs log order
serial_arcs log clean order s u v hu hv t =
    let a = arc_cases log u v t in
    elim (cases_eq u 0) [
      | inl z ↦ subst (λ n. Before order n v) (sym z) (zero_first order v a.0)
      | inr nz ↦ let lo : 0 < u = omega (arith, nz) in elim a.1 [
        | inl h ↦ elim h [
          | inl z ↦ absurd (nz z)
          | inr h' ↦ s.sessions u v lo (omega (arith, h'.0)) hv h'.1
        ]
        | inr h ↦ elim h [
          | inl reads ↦
              let f = reads_from_is log v u reads in
              let c = cut_at log.nodes order s.once v a.0 hv in
              elim (source_in_front log clean order s v f.0 u c (source_is log clean v f.0 u a.0 hv f.1)) [
                | inl z ↦ absurd (nz z.0)
                | inr l ↦ before_from_front order v c u lo (subst (λ n. Has n c.front) l.1.1 (writer_has log f.0 l.0 c.front l.1.0))
              ]
          | inr ended ↦ s.moments u v lo hu a.0 hv ended
        ]
      ]
    ]

-- k stands in the front, before the last writer there
before_writer : (log : Log) (order : List ℕ) (n r x w k : ℕ) → ListsOnce n order → (c : Cut order r) (l : LastWriter log.ops x w c.front) → 0 < k → Has k c.front → is_some (last_write x (log.ops k)) ≡ true → k ≢ l.writer → Before order k l.writer
before_writer log order n r x w k once c l lo h t ne =
    let stands : order ≡ l.front ++ l.writer ∷ (l.back ++ r ∷ c.back) =
    c.stands ∙ ap (λ f. f ++ r ∷ c.back) l.stands ∙ append_assoc l.front (l.writer ∷ l.back) (r ∷ c.back) in
    let d = cut_here n order l.front (l.back ++ r ∷ c.back) l.writer once stands in
    elim (Has-append_cases k l.front (l.writer ∷ l.back) (subst (Has k) l.stands h)) [
      | inl f ↦ before_from_front order l.writer d k lo f
      | inr b ↦ elim b [
        | inl e ↦ absurd (ne (sym e))
        | inr b' ↦ absurd (none_not_some _ (no_writer log.ops x l.back k l.none_behind b') t)
      ]
    ]

serial_bipaths : (log : Log) → IsClean log → (order : List ℕ) → IsSerial log order → KeepsBipaths log order
serial_bipaths log clean order s r x w k rlo rhi key from klo khi t =
    let rival = rival_is log x w r k t in
    let c = cut_at log.nodes order s.once r rlo rhi in
    elim (Has-append_cases k c.front (r ∷ c.back) (subst (Has k) c.stands (Has-from_Contains order k (s.once.each k klo khi)))) [
      | inl f ↦ elim (source_in_front log clean order s r x w c (source_is log clean r x w rlo rhi from)) [
        | inl z ↦ absurd (none_not_some _ (no_writer log.ops x c.front k z.1 f) rival.0)
        | inr l ↦ inl (subst (Before order k) l.1.1 (before_writer log order log.nodes r x l.0 k s.once c l.1.0 klo f rival.0 (λ e. rival.1 (e ∙ l.1.1))), tt)
      ]
      | inr b ↦ elim b [
        | inl e ↦ absurd (rival.2 (sym e))
        | inr b' ↦ inr (before_from_back order r c k klo b', tt)
      ]
    ]

-- ---- from a fitting order
next_in_session : (log : Log) (order : List ℕ) → KeepsArcs log order → (u : ℕ) → suc u ≤ log.nodes → log.session u ≡ log.session (suc u) → Before order u (suc u)
next_in_session log order keeps u hi e = keeps u (suc u) (omega arith) hi (arc_from_session log u e)

sessions_kept : (log : Log) → IsClean log → (order : List ℕ) → KeepsArcs log order → (a b : ℕ) → 0 < a → a < b → b ≤ log.nodes → log.session a ≡ log.session b → Before order a b
sessions_kept log clean order keeps a zero lo h hi e = absurd (omega arith)
sessions_kept log clean order keeps a (suc b) lo h hi e =
    let same : log.session b ≡ log.session (suc b) = clean.together a b (suc b) lo (omega arith) (omega arith) hi e in
    let last = next_in_session log order keeps b hi same in
    elim (cases_lt a b) [
      | inl lt ↦ let first = sessions_kept log clean order keeps a b lo lt (omega arith) (e ∙ sym same) in omega (arith, first, last)
      | inr ge ↦ let is : b ≡ a = omega arith in subst (λ n. Before order n (suc b)) is last
    ]

-- no writer stands in the front of r, where r reads from node 0
none_in_front : (log : Log) → IsClean log → (order : List ℕ) → ListsOnce log.nodes order → KeepsBipaths log order → (r x : ℕ) (c : Cut order r) → r ≤ log.nodes → x < log.keys → source log r x ≡ Some 0 → last_write x (flat_map log.ops c.front) ≡ None
none_in_front log clean order once keeps r x c rhi key from = no_writer_from log.ops x c.front (λ k h.
    let node = node_of log.nodes order once k (in_order log.nodes order r c k (inl h)) in
    let before = before_from_front order r c k node.0 h in
    elim (some_cases (last_write x (log.ops k))) [
      | inl e ↦ e
      | inr e ↦
          let nz : k ≢ 0 = λ z. omega (arith, z, node.0) in
          let nr : k ≢ r = λ same. (let P : ℕ → Type 0 = λ n. Before order n r in omega (arith, subst P same before)) in
          absurd (elim (keeps r x 0 k c.node rhi key from node.0 node.1 (rival_from log x 0 r k e.0 e.1 nz nr)) [
            | inl b ↦ never_before_zero order k b.0
            | inr b ↦ omega (arith, b.0, before)
          ])
    ])

-- behind the writer that r reads from, none writes before r
none_between : (log : Log) → IsClean log → (order : List ℕ) → ListsOnce log.nodes order → KeepsBipaths log order → (r x u : ℕ) (c : Cut order r) (f1 f2 : List ℕ) → c.front ≡ f1 ++ u ∷ f2 → r ≤ log.nodes → x < log.keys → source log r x ≡ Some u → last_write x (flat_map log.ops f2) ≡ None
none_between log clean order once keeps r x u c f1 f2 e rhi key from = no_writer_from log.ops x f2 (λ k h.
    let there : Has k c.front = subst (Has k) (sym e) (Has-append_back k f1 (u ∷ f2) (inr h)) in
    let node = node_of log.nodes order once k (in_order log.nodes order r c k (inl there)) in
    let before = before_from_front order r c k node.0 there in
    let stands : order ≡ f1 ++ u ∷ (f2 ++ r ∷ c.back) = c.stands ∙ ap (λ f. f ++ r ∷ c.back) e ∙ append_assoc f1 (u ∷ f2) (r ∷ c.back) in
    let d = cut_here log.nodes order f1 (f2 ++ r ∷ c.back) u once stands in
    let behind = before_from_back order u d k node.0 (Has-append_front k f2 (r ∷ c.back) h) in
    elim (some_cases (last_write x (log.ops k))) [
      | inl e' ↦ e'
      | inr e' ↦
          let nu : k ≢ u = λ same. (let P : ℕ → Type 0 = λ n. Before order u n in omega (arith, subst P same behind)) in
          let nr : k ≢ r = λ same. (let P : ℕ → Type 0 = λ n. Before order n r in omega (arith, subst P same before)) in
          absurd (elim (keeps r x u k c.node rhi key from node.0 node.1 (rival_from log x u r k e'.0 e'.1 nu nr)) [
            | inl b ↦ omega (arith, b.0, behind)
            | inr b ↦ omega (arith, b.0, before)
          ])
    ])

external_met : (log : Log) → IsClean log → (order : List ℕ) → ListsOnce log.nodes order → KeepsArcs log order → KeepsBipaths log order → (r x u w : ℕ) (c : Cut order r) → r ≤ log.nodes → x < log.keys → source log r x ≡ Some u → IsFinal log u x w → unwrap_or (last_write x (flat_map log.ops c.front)) 0 ≡ w
external_met log clean order once arcs' keeps r x u w c rhi key from (inl z) =
    let from' : source log r x ≡ Some 0 = from ∙ ap Some z.0 in
    ap (λ o. unwrap_or o 0) (none_in_front log clean order once keeps r x c rhi key from') ∙ sym z.1
external_met log clean order once arcs' keeps r x u w c rhi key from (inr wr) =
    let before = arcs' u r wr.1 rhi (arc_from_read log r u c.node (reads_from_source log r x u key from)) in
    let s = Has-split u c.front (front_from_before order r c u wr.0 before) in
    let none = none_between log clean order once keeps r x u c s.0 s.1.0 s.1.1 rhi key from in
    let value : last_write x (flat_map log.ops c.front) ≡ Some w =
    ap (λ f. last_write x (flat_map log.ops f)) s.1.1
    ∙ ap (last_write x) (flat_map-append log.ops s.0 (u ∷ s.1.0))
    ∙ last_write-append x (flat_map log.ops s.0) (log.ops u ++ flat_map log.ops s.1.0)
    ∙ ap (later (last_write x (flat_map log.ops s.0))) (last_write-append x (log.ops u) (flat_map log.ops s.1.0) ∙ ap (later (last_write x (log.ops u))) none ∙ wr.2) in
    ap (λ o. unwrap_or o 0) value

reads_met : (log : Log) → IsClean log → (order : List ℕ) → ListsOnce log.nodes order → KeepsArcs log order → KeepsBipaths log order → (r : ℕ) (c : Cut order r) → r ≤ log.nodes → (x w : ℕ) (before : List Event) → ReadsAfter log r before x w → after (after empty (flat_map log.ops c.front)) before x ≡ w
reads_met log clean order once arcs' keeps r c rhi x w before reads =
    let start = after empty (flat_map log.ops c.front) in
    after_is start before x ∙ elim (some_cases (last_write x before)) [
      | inl e ↦
          let f = clean.external r x w before reads e in
          let from = source_from log clean r x f.0 w before reads e f.2 in
          ap (λ o. unwrap_or o (start x)) e
          ∙ after_is empty (flat_map log.ops c.front) x
          ∙ external_met log clean order once arcs' keeps r x f.0 w c rhi (clean.keys r x w before reads) from f.2
      | inr own ↦ ap (λ o. unwrap_or o (start x)) own.1 ∙ sym (clean.internal r x w own.0 before reads own.1)
    ]

all_met : (log : Log) → IsClean log → (order : List ℕ) → ListsOnce log.nodes order → KeepsArcs log order → KeepsBipaths log order → Meets empty (flat_map log.ops order)
all_met log clean order once arcs' keeps = Meets-from_nodes empty log.ops order (λ f b r e.
    let c = cut_here log.nodes order f b r once e in
    let node = node_of log.nodes order once r (subst (Has r) (sym e) (Has-append_back r f (r ∷ b) (inl refl))) in
    Meets-from_reads (after empty (flat_map log.ops f)) (log.ops r) (λ before behind x w stands.
    reads_met log clean order once arcs' keeps r c node.1 x w before (node.0, node.1, (behind, stands))))

-- ---- the edges of a clean history join two of its nodes
pub source_within : (log : Log) → IsClean log → (r x w : ℕ) → 0 < r → r ≤ log.nodes → source log r x ≡ Some w → w ≤ log.nodes
source_within log clean r x w lo hi e = elim (source_is log clean r x w lo hi e).final [
  | inl z ↦ omega (arith, z.0)
  | inr wr ↦ wr.1
]

precedes_apart : (log : Log) (u v : ℕ) → precedes log u v ≡ true → u ≢ v
precedes_apart log u v t = eqb-false u v (not-true (eqb u v) (and_parts (not (eqb u v)) (log.earlier u v) t).0)

pub arc_apart : (log : Log) → IsClean log → (u v : ℕ) → v ≤ log.nodes → is_arc log (u, v) ≡ true → u ≢ v
arc_apart log clean u v hv t same =
    let a = arc_cases log u v t in
    elim a.1 [
      | inl h ↦ elim h [
        | inl z ↦ omega (arith, z, same, a.0)
        | inr s ↦ omega (arith, s.0, same)
      ]
      | inr h ↦ elim h [
        | inl reads ↦ let f = reads_from_is log v u reads in (source_is log clean v f.0 u a.0 hv f.1).other same
        | inr ended ↦ precedes_apart log u v ended same
      ]
    ]

-- ---- both ways
pub serial_fits : (log : Log) → IsClean log → (order : List ℕ) → IsSerial log order → Fits (bipath_polygraph log) order
serial_fits log clean order s = record {
  once = s.once;
  known = keeps_arcs log order (serial_arcs log clean order s);
  choices = keeps_bipaths log order (serial_bipaths log clean order s);
}

pub fitting_serial : (log : Log) → IsClean log → (order : List ℕ) → Fits (bipath_polygraph log) order → IsSerial log order
fitting_serial log clean order f =
    let arcs' = arcs_kept log order f.known in
    record {
      once = f.once;
      sessions = sessions_kept log clean order arcs';
      moments = λ a b lo hi blo bhi t. arcs' a b hi bhi (arc_from_moments log a b blo t);
      reads = all_met log clean order f.once arcs' (bipaths_kept log order f.choices);
    }
