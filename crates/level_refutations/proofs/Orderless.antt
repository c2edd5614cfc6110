-- Where evidence is right, there is no order; and what makes an order one of a level.
use Rattle.level_refutations.proofs.Prelude.{◌≡◌, ◌≢◌, ℕ, true, false, not, ◌&&◌, List, [], ◌∷◌, eqb, eqb-true, Option, Some, None, refl, sym, ap, ◌∙◌, subst, inl, inr, arith, take, enumerate_from, option_map_or, cases_eq, and_parts}
use Rattle.level_refutations.proofs.Prelude.{and_from, false≢true, not-true, eqb-false, eq-eqb, same_Some, ClientSession, Transaction, Op, Read, Write, Before, ops_of, is_committed, IsSoundLog, IsLearntLog, Level, last_write, ReadsBehind}
use Rattle.level_refutations.proofs.Prelude.{IsLevelOrder, FindsLast, TxnAt, OpAt, Overlooked, Edge, Fault, Circle, Initial, txn_at, op_at, is_same, is_of_initial, names_initial, overlooks, is_initial, is_edge, edge_from, edge_to, is_line}
use Rattle.level_refutations.proofs.Prelude.{is_circle, is_some_wid, leaves, is_left_at, is_left_by, is_left_in, misses_last, misses, is_fault_in, is_fault, is_why, Stands, Overlooks, Stood, NoOrderWhereRefuted, EdgesAreKept, HasItsReads}
use Rattle.level_refutations.proofs.Prelude.{OrderIsOfEdges}
use Rattle.std.proofs.lemmas.Map.Keys.{any_passes_from_place}
use Rattle.level_refutations.specs.Laws as law
use Rattle.level_refutations.proofs.Standing.{numbered_at, at_place, map_or_true, standing, ops_are, place_with}
use Rattle.level_refutations.proofs.Forced.{last_written}
use Rattle.level_refutations.proofs.Forced as forced
use Rattle.level_refutations.proofs.Steps.{same_at, places_apart}
use Rattle.level_refutations.proofs.Sights.{passes, sight, ends_of_sight, edges_stand, edges_have_nodes}

-- ---- circles
stood_kept : (level : Level) (ss : List ClientSession) (order : List ℕ) → IsSoundLog ss → IsLevelOrder level ss order → (u v : ℕ) → Stood level ss u v → Before order u v
stood_kept level ss order sound h u v (law.session a b e) = h.sessions u v e
stood_kept level ss order sound h u v (law.read a b e) = h.reads_from u v e
stood_kept level ss order sound h u v (law.forced a b e) = forced.kept level ss order sound h u v e

pub edges_are_kept : EdgesAreKept
edges_are_kept level ss order sound learnt h edge t u v s r = stood_kept level ss order sound h u v (edges_stand level ss sound learnt edge t u v s r)

along : (level : Level) (ss : List ClientSession) (order : List ℕ) → IsSoundLog ss → IsLearntLog ss → IsLevelOrder level ss order → (from : TxnAt) (e : Edge) (edges : List Edge) (to : TxnAt) (u v : ℕ) → is_line level ss from (e ∷ edges) to ≡ true → Stands ss from u → Stands ss to v → Before order u v
along level ss order sound learnt h from e [] to u v t s r =
    let p = and_parts (is_same from (edge_from e) && is_edge level ss e) (is_same (edge_to e) to) t in
    let q = and_parts (is_same from (edge_from e)) (is_edge level ss e) p.0 in
    edges_are_kept level ss order sound learnt h e q.1 u v (subst (λ at. Stands ss at u) (same_at from (edge_from e) q.0) s) (subst (λ at. Stands ss at v) (sym (same_at (edge_to e) to p.1)) r)
along level ss order sound learnt h from e (next ∷ edges) to u v t s r =
    let p = and_parts (is_same from (edge_from e) && is_edge level ss e) (is_line level ss (edge_to e) (next ∷ edges) to) t in
    let q = and_parts (is_same from (edge_from e)) (is_edge level ss e) p.0 in
    let mid = (edges_have_nodes level ss learnt e q.1).1 in
    let first = edges_are_kept level ss order sound learnt h e q.1 u mid.0 (subst (λ at. Stands ss at u) (same_at from (edge_from e) q.0) s) mid.1 in
    let rest = along level ss order sound learnt h (edge_to e) next edges to mid.0 v p.1 mid.1 r in
    omega (arith, first, rest)

no_circle : (level : Level) (ss : List ClientSession) (order : List ℕ) (edges : List Edge) → IsSoundLog ss → IsLearntLog ss → IsLevelOrder level ss order → is_circle level ss edges ≡ true → ⊥
no_circle level ss order [] sound learnt h t = false≢true t
no_circle level ss order (e ∷ edges) sound learnt h t =
    let start = edge_from e in
    let p = and_parts (is_same start start && is_edge level ss e) (is_line level ss (edge_to e) edges start) t in
    let u = (edges_have_nodes level ss learnt e (and_parts (is_same start start) (is_edge level ss e) p.0).1).0 in
    let again = along level ss order sound learnt h start e edges start u.0 u.0 t u.1 u.1 in
    omega (arith, again)

-- ---- initial values
pub named_initial : (o : Option Op) (key : List ℕ) (wid : ℕ) → option_map_or is_of_initial o false ≡ true → o ≡ Some (Read key wid) → wid ≡ 0
named_initial o key wid t e = eqb-true wid 0 (ap (λ x. option_map_or is_of_initial x false) (sym e) ∙ t)

no_initial : (level : Level) (ss : List ClientSession) (order : List ℕ) (o : Overlooked) → IsSoundLog ss → IsLearntLog ss → IsLevelOrder level ss order → is_initial level ss o ≡ true → ⊥
no_initial level ss order o sound learnt h t =
    let p = and_parts (names_initial ss o.read) (overlooks level ss o) t in
    let ends = ends_of_sight level ss o learnt p.1 in
    let u = ends.0 in
    let v = ends.1 in
    let g = sight level ss o u.0 v.0 sound learnt p.1 u.1 v.1 in
    let before = take o.read.op (ops_of ss v.0) in
    forced.not_overlooked level ss order sound h u.0 v.0 before g.key (subst (Overlooks level ss u.0 v.0 before g.key) (named_initial (op_at ss o.read) g.key g.wid p.0 g.stands) g.is)

-- ---- faults
some_wid : (wid : ℕ) (o : Option ℕ) → o ≡ Some wid → is_some_wid wid o ≡ true
some_wid wid None e = cc
some_wid wid (Some w) e = eq-eqb w wid (same_Some w wid e)

-- what another node leaves is found
left_found : (ss : List ClientSession) (own : TxnAt) (key : List ℕ) (wid u v : ℕ) → IsSoundLog ss → IsLearntLog ss → Stands ss own v → u ≢ v → last_write key (ops_of ss u) ≡ Some wid → is_left_in own key wid ss ≡ true
left_found ss own key wid u v sound learnt s apart w =
    let p = place_with ss u (Write key wid) learnt (last_written key (ops_of ss u) wid w) in
    let at = p.0 in
    let is = at_place ss at p.1.txn p.1.found in
    let t = p.1.txn in
    let left : leaves key wid t ≡ true = and_from (is_committed t) (is_some_wid wid (last_write key t.ops)) is.committed (some_wid wid (last_write key t.ops) (ap (last_write key) (sym (ops_are ss at u p.1)) ∙ w)) in
    let here : is_left_at own key wid at.session (at.txn, t) ≡ true = and_from (not (is_same at own)) (leaves key wid t) (places_apart ss at own u v sound learnt p.1 s apart) left in
    any_passes_from_place (is_left_by own key wid) (enumerate_from 0 ss) at.session (at.session, is.session) (numbered_at 0 at.session at.session ss is.session is.picked (omega arith))
    (any_passes_from_place (is_left_at own key wid at.session) (enumerate_from 0 is.session.txns) at.txn (at.txn, t) (numbered_at 0 at.txn at.txn is.session.txns t is.stands (omega arith)) here)

no_fault : (level : Level) (ss : List ClientSession) (order : List ℕ) (at : OpAt) → IsSoundLog ss → IsLearntLog ss → IsLevelOrder level ss order → is_fault ss at ≡ true → ⊥
no_fault level ss order at sound learnt h t =
    let m = map_or_true (λ (x : Transaction). is_fault_in ss at.txn x.ops at.op) (txn_at ss at.txn) t in
    let node = standing ss at.txn m.0 learnt m.1 in
    let p = passes (misses ss at.txn) ss at node.0 node.1 t in
    go node.0 p.key p.wid (take at.op (ops_of ss node.0)) node.1 p.reads (last_write p.key (take at.op (ops_of ss node.0))) refl p.right
  where
    go : (v : ℕ) (key : List ℕ) (wid : ℕ) (before : List Op) → Stands ss at.txn v → ReadsBehind ss v before key wid → (o : Option ℕ) → last_write key before ≡ o → misses_last ss at.txn key wid o ≡ true → ⊥
    go v key wid before s reads (Some last) e m = eqb-false last wid (not-true (eqb last wid) m) (sym (h.own v before key wid last reads e))
    go v key wid before s reads None e m =
        let p = and_parts (not (eqb wid 0)) (not (is_left_in at.txn key wid ss)) m in
        elim (h.found v before key wid reads e) [
          | inl none ↦ eqb-false wid 0 (not-true (eqb wid 0) p.0) none.0
          | inr (u, is) ↦ false≢true (sym (not-true (is_left_in at.txn key wid ss) p.1) ∙ left_found ss at.txn key wid u v sound learnt s is.other is.final)
        ]

-- ---- evidence
pub no_order : NoOrderWhereRefuted
no_order level ss (Fault fault) sound learnt t (order, h) =
    no_fault level ss order fault.read sound learnt h (and_parts (is_why ss fault.read fault.why) (is_fault ss fault.read) t).1
no_order level ss (Circle edges) sound learnt t (order, h) = no_circle level ss order edges.items sound learnt h t
no_order level ss (Initial o) sound learnt t (order, h) = no_initial level ss order o sound learnt h t

-- ---- orders that keep each edge
reads_of_order : (level : Level) (ss : List ClientSession) (order : List ℕ) → IsSoundLog ss → IsLevelOrder level ss order → HasItsReads level ss
reads_of_order level ss order sound h = record {
  own = h.own;
  left = λ v before key wid reads external apart. elim (h.found v before key wid reads external) [
    | inl none ↦ absurd (apart none.0)
    | inr (t, is) ↦ (t, is.other, is.final)
  ];
  initial = forced.not_overlooked level ss order sound h;
}

finds_last : (level : Level) (ss : List ClientSession) (order : List ℕ) → HasItsReads level ss → ((u v : ℕ) → Stood level ss u v → Before order u v) → (v : ℕ) (before : List Op) (key : List ℕ) (wid : ℕ) → ReadsBehind ss v before key wid → last_write key before ≡ None → FindsLast level ss order v before key wid
finds_last level ss order has keeps v before key wid reads external = elim (cases_eq wid 0) [
  | inl none ↦ inl (none, λ u sees writes. has.initial u v before key (subst (Overlooks level ss u v before key) none (record { reads = reads; external = external; sees = sees; writes = writes })))
  | inr apart ↦
      let t = has.left v before key wid reads external apart in
      inr (
        t.0,
        record {
          other = t.1;
          final = t.2;
          last = λ u other sees writes. keeps u t.0 (law.forced u t.0 (record {
            reader = v;
            before = before;
            key = key;
            wid = wid;
            overlooks = record { reads = reads; external = external; sees = sees; writes = writes };
            other = other;
            found = last_written key (ops_of ss t.0) wid t.2;
          }));
        },
      )
]

pub order_is_of_edges : OrderIsOfEdges
order_is_of_edges level ss order sound = (
  λ h. (h.once, reads_of_order level ss order sound h, stood_kept level ss order sound h),
  λ k. record {
    once = k.0;
    sessions = λ u v e. k.2 u v (law.session u v e);
    reads_from = λ u v e. k.2 u v (law.read u v e);
    own = k.1.own;
    found = finds_last level ss order k.1 k.2;
  },
)
