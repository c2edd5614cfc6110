-- The unknown transactions that a snapshot order takes for committed hold each one that is needed.
use Rattle.point_laws.proofs.Prelude.{◌≡◌, ◌⊎◌, ℕ, zero, suc, ◌*◌, ◌<◌, ◌≤◌, Bool, true, false, not, List, [], ◌∷◌, length, map, Some, sym, ap, ◌∙◌, subst, inl, inr, arith, slice_get, flat_map, AllByRecursion, Contains, option_map_or}
use Rattle.point_laws.proofs.Prelude.{cases_Bool, Contains-append_left, Contains-append_right, slice_get-get_or, ClientSession, Transaction, is_commit, Op, Read, Write, Unknown, ListsOnce, Has, Apart, each_of_filter, is_committed, txns_in}
use Rattle.point_laws.proofs.Prelude.{ops_in, settled_as, settle, settled, committed_ops, IsNeeded, IsClosed, written, Committed, committed_in, node_of, ops_of, initial, member, themselves, txn_ops, each_of_settled, Lacks, Has-written}
use Rattle.point_laws.proofs.Prelude.{others_lack, IsLearntLog, ops_along, in_flat, of_flat, of_mapped, node_with, nodes_of, ops_of_nodes, Point, snapshot, commit, number, snapshot_reads, rest, ops_at, IsPointOrder}
use Rattle.log_definitions.proofs.Dropped.{met_by_write}
use Rattle.point_laws.proofs.Parts.{each_snapshot, each_rest, in_one}
use Rattle.point_laws.proofs.Nodes.{nodes_are, is_node}
use Rattle.point_laws.proofs.Resolved.{settled_learnt}
use Rattle.point_laws.proofs.Arith.{point_node, point_of_number}

-- ---- an unknown transaction that is not chosen
pub record Dropped (ss : List ClientSession) (chosen : ℕ → Bool) (key : List ℕ) (wid : ℕ) : Type 0 where
  pub session : ClientSession
  pub txn : Transaction
  pub is_session : Contains ss session
  pub is_txn : Contains session.txns txn
  pub outcome : txn.outcome ≡ Unknown
  pub writes : Contains txn.ops (Write key wid)
  pub absent : chosen session.number ≡ false

-- what it writes is in the log
pub dropped_write : (ss : List ClientSession) (chosen : ℕ → Bool) (key : List ℕ) (wid : ℕ) → Dropped ss chosen key wid → Contains (ops_in ss) (Write key wid)
dropped_write ss chosen key wid d =
    in_flat txn_ops (txns_in ss) d.txn (Write key wid) (in_flat (λ (s : ClientSession). s.txns) ss d.session d.txn d.is_session d.is_txn) d.writes

pub not_dropped : (chosen : ℕ → Bool) (ss : List ClientSession) (key other : List ℕ) (wid : ℕ) → Apart (written (ops_in ss)) → Contains (committed_ops (settled chosen ss)) (Write key wid) → Dropped ss chosen other wid → ⊥
not_dropped chosen ss key other wid apart c d =
    let lack = each_of_settled (λ t. not (is_committed t) ≡ true → Lacks wid t) chosen ss (each_of_filter (Lacks wid) (λ t. not (is_committed t)) (txns_in (settled chosen ss)) (others_lack chosen ss key wid apart c)) in
    let of_txn = member (λ (t : Transaction). not (is_committed (settle (chosen d.session.number) t)) ≡ true → Lacks wid (settle (chosen d.session.number) t)) d.session.txns d.txn
    (member (λ (s : ClientSession). AllByRecursion (λ (t : Transaction). not (is_committed (settle (chosen s.number) t)) ≡ true → Lacks wid (settle (chosen s.number) t)) s.txns) ss d.session lack d.is_session) d.is_txn in
    let uncounted_here = ap (λ o. not (is_commit (settled_as (chosen d.session.number) o))) d.outcome ∙ ap (λ b. not (is_commit (settled_as b Unknown))) d.absent in
    of_txn uncounted_here (Has-written d.txn.ops other wid d.writes)

-- ---- the operations at points are those that count as committed
pub record AtNode (ss : List ClientSession) (o : Op) : Type 0 where
  pub node : ℕ
  pub does : Contains (ops_of ss node) o

pub at_node : (ss : List ClientSession) → IsLearntLog ss → (o : Op) → Contains (committed_ops ss) o → AtNode ss o
unfolding node_of
at_node ss learnt o c =
    let n = node_with (nodes_of ss) o (subst (λ l. Contains l o) (sym (ops_of_nodes ss)) c) in
    let d : Contains (committed_in ss) n.node = subst (λ l. Contains l n.node) (sym (nodes_are ss learnt)) n.has in
    let at : slice_get (committed_in ss) d.0 ≡ Some n.node = slice_get-get_or (committed_in ss) d.0 n.node d.1 ∙ ap Some d.2 in
    record { node = suc d.0; does = subst (λ x. Contains (option_map_or (λ (c : Committed). c.ops) x []) o) (sym at) n.does }

of_node : (nodes : List Committed) (i : ℕ) (o : Op) → Contains (option_map_or (λ (c : Committed). c.ops) (slice_get nodes i) []) o → Contains (ops_along nodes) o
of_node [] i o c = absurd (omega (arith, c.1))
of_node (n ∷ nodes) zero o c = Contains-append_left n.ops (ops_along nodes) o c
of_node (n ∷ nodes) (suc i) o c = Contains-append_right n.ops (ops_along nodes) o (of_node nodes i o c)

pub of_number : (ss : List ClientSession) → IsLearntLog ss → (v : ℕ) (o : Op) → Contains (ops_of ss v) o → Contains (committed_ops ss) o
unfolding node_of
of_number ss learnt zero o c = absurd (omega (arith, c.1))
of_number ss learnt (suc i) o c =
    subst (λ l. Contains l o) (ap ops_along (nodes_are ss learnt) ∙ ops_of_nodes ss) (of_node (committed_in ss) i o c)

pub point_ops : (ss : List ClientSession) → IsLearntLog ss → (points : List Point) (o : Op) → Contains (flat_map (ops_at ss) points) o → Contains (committed_ops ss) o
point_ops ss learnt points o c = let r = of_flat (ops_at ss) points o c in at r.0 r.2
  where
    at : (p : Point) → Contains (ops_at ss p) o → Contains (committed_ops ss) o
    at (snapshot v) d = of_number ss learnt v o (member (Contains (ops_of ss v)) (snapshot_reads (ops_of ss v)) o (each_snapshot (Contains (ops_of ss v)) (ops_of ss v) (themselves (ops_of ss v))) d)
    at (commit v) d = of_number ss learnt v o (member (Contains (ops_of ss v)) (rest (ops_of ss v)) o (each_rest (Contains (ops_of ss v)) (ops_of ss v) (themselves (ops_of ss v))) d)

pub at_points : (ss : List ClientSession) → IsLearntLog ss → (points : List Point) → ListsOnce (2 * length (committed_in ss)) (map number points) → (o : Op) → Contains (committed_ops ss) o → Contains (flat_map (ops_at ss) points) o
at_points ss learnt points once o c = elim (in_one (ops_of ss n.node) o n.does) [
  | inl d ↦ in_flat (ops_at ss) points (snapshot n.node) o (stands (snapshot n.node) (omega (arith, within.0)) (omega (arith, within.1)) within.0) d
  | inr d ↦ in_flat (ops_at ss) points (commit n.node) o (stands (commit n.node) (omega (arith, within.0)) (omega (arith, within.1)) within.0) d
]
  where
    n : AtNode ss o
    n = at_node ss learnt o c

    within : (0 < n.node) × (n.node ≤ length (committed_in ss))
    within = is_node ss n.node o n.does

    stands : (p : Point) → 0 < number p → number p ≤ 2 * length (committed_in ss) → 0 < point_node p → Contains points p
    stands p lo hi node =
        let r = of_mapped number points (number p) (once.each (number p) lo hi) in
        subst (Contains points) (point_of_number r.0 p node r.2) r.1

-- ---- what it chooses is closed
-- where each read that counts as committed names 0 or a write that does
pub closed_where : (chosen : ℕ → Bool) (ss : List ClientSession) → Apart (0 ∷ written (ops_in ss)) → ((key : List ℕ) (wid : ℕ) → Contains (committed_ops (settled chosen ss)) (Read key wid) → (0 ≡ wid) ⊎ Contains (committed_ops (settled chosen ss)) (Write key wid)) → IsClosed ss chosen
closed_where chosen ss apart met = record { each = λ n need. subst (λ m. chosen m ≡ true) need.number (of_session n need) }
  where
    as_dropped : (n : ℕ) (need : IsNeeded ss chosen n) → chosen need.session.number ≡ false → Dropped ss chosen need.key need.wid
    as_dropped n need e = record { session = need.session; txn = need.txn; is_session = need.is_session; is_txn = need.is_txn; outcome = need.outcome; writes = need.writes; absent = e }

    of_session : (n : ℕ) (need : IsNeeded ss chosen n) → chosen need.session.number ≡ true
    of_session n need = elim (cases_Bool (chosen need.session.number)) [
      | inl e ↦ e
      | inr e ↦ absurd (elim (met need.key need.wid need.reads) [
        | inl none ↦ apart.0 (subst (λ w. Has w (written (ops_in ss))) (sym none) (Has-written (ops_in ss) need.key need.wid (dropped_write ss chosen need.key need.wid (as_dropped n need e))))
        | inr c ↦ not_dropped chosen ss need.key need.key need.wid apart.1 c (as_dropped n need e)
      ])
    ]

pub chosen_closed : {locked : Bool} (chosen : ℕ → Bool) (ss : List ClientSession) (points : List Point) → Apart (0 ∷ written (ops_in ss)) → IsPointOrder locked (settled chosen ss) points → IsClosed ss chosen
chosen_closed chosen ss points apart h = closed_where chosen ss apart (λ key wid c. elim (met_by_write (flat_map (ops_at (settled chosen ss)) points) initial key wid h.reads (at_points (settled chosen ss) (settled_learnt chosen ss) points h.once (Read key wid) c)) [
  | inl none ↦ inl none
  | inr d ↦ inr (point_ops (settled chosen ss) (settled_learnt chosen ss) points (Write key wid) d)
])
