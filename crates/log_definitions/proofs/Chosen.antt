-- The unknown transactions that an order takes for committed hold each one that is needed.
use Rattle.log_definitions.proofs.Prelude.{◌≡◌, ℕ, zero, suc, ◌<◌, ◌≤◌, Bool, true, not, List, [], ◌∷◌, length, Some, refl, sym, ap, ◌∙◌, subst, inl, inr, arith, filter, flat_map, AllByRecursion, Contains, cases_Bool, flat_map-map}
use Rattle.log_definitions.proofs.Prelude.{ClientSession, Transaction, IsLegal, IsLegalOp, IsLegalTxn, Op, Read, Write, Unknown, Has, Apart, each_of_flat_map, each_from_flat_map, each_from_append, each_of_filter, is_committed, txns_in}
use Rattle.log_definitions.proofs.Prelude.{ops_in, settled_as, settled, committed_ops, IsNeeded, IsClosed, is_commit, written, Committed, committed_of, node_in, initial}
use Rattle.log_definitions.proofs.Members.{member, themselves, each_weaker, each_member}
use Rattle.log_definitions.proofs.Settled.{txn_ops, each_of_settled}
use Rattle.log_definitions.proofs.Nodes.{ops_of_each, each_at, each_op_at}
use Rattle.log_definitions.proofs.Identities.{Lacks, once_settled, parts_apart}
use Rattle.log_definitions.proofs.Renumbered.{Orders, ops_at}
use Rattle.log_definitions.proofs.Dropped.{met_by_write}

-- the nodes where these are chosen
abbrev pub nodes_where : (ℕ → Bool) → List ClientSession → List Committed
nodes_where chosen ss = flat_map committed_of (settled chosen ss)

-- ---- the operations of nodes
abbrev node_ops : Committed → List Op
node_ops node = node.ops

ops_of_nodes : (chosen : ℕ → Bool) (ss : List ClientSession) → flat_map node_ops (nodes_where chosen ss) ≡ committed_ops (settled chosen ss)
ops_of_nodes chosen ss =
    sym (flat_map-map (λ (ops : List Op). ops) node_ops (nodes_where chosen ss))
    ∙ ap (flat_map (λ ops. ops)) (ops_of_each (settled chosen ss))
    ∙ flat_map-map (λ (ops : List Op). ops) txn_ops (filter is_committed (txns_in (settled chosen ss)))

each_of_nodes : (P : Op → Type 0) (nodes : List Committed) → AllByRecursion P (flat_map node_ops nodes) → (v : ℕ) → AllByRecursion P (ops_at nodes v)
each_of_nodes P nodes h v =
    each_op_at P node_ops (node_in nodes v) (at v)
  where
    at : (v : ℕ) (node : Committed) → node_in nodes v ≡ Some node → AllByRecursion P node.ops
    at zero node e = cc
    at (suc i) node e = each_at (λ (n : Committed). AllByRecursion P n.ops) nodes i node (each_of_flat_map P node_ops nodes h) e

each_from_nodes : (P : Op → Type 0) (nodes : List Committed) → ((v : ℕ) → 0 < v → v ≤ length nodes → AllByRecursion P (ops_at nodes v)) → AllByRecursion P (flat_map node_ops nodes)
each_from_nodes P [] h = tt
each_from_nodes P (node ∷ nodes) h = each_from_append P node.ops (flat_map node_ops nodes) (h 1 (omega arith) (omega arith)) (each_from_nodes P nodes later)
  where
    later : (v : ℕ) → 0 < v → v ≤ length nodes → AllByRecursion P (ops_at nodes v)
    later zero lo hi = absurd (omega arith)
    later (suc i) lo hi = h (suc (suc i)) (omega arith) (omega arith)

-- ---- the operations in an order are those that count as committed
each_of_order : (P : Op → Type 0) (chosen : ℕ → Bool) (ss : List ClientSession) (order : List ℕ) → Orders (nodes_where chosen ss) order → AllByRecursion P (flat_map (ops_at (nodes_where chosen ss)) order) → AllByRecursion P (committed_ops (settled chosen ss))
each_of_order P chosen ss order h all =
    let nodes = nodes_where chosen ss in
    let each = each_of_flat_map P (ops_at nodes) order all in
    subst (AllByRecursion P) (ops_of_nodes chosen ss)
    (each_from_nodes P nodes (λ v lo hi. member (λ v. AllByRecursion P (ops_at nodes v)) order v each (h.once.each v lo hi)))

each_from_order : (P : Op → Type 0) (chosen : ℕ → Bool) (ss : List ClientSession) (order : List ℕ) → AllByRecursion P (committed_ops (settled chosen ss)) → AllByRecursion P (flat_map (ops_at (nodes_where chosen ss)) order)
each_from_order P chosen ss order all =
    let nodes = nodes_where chosen ss in
    let each = each_of_nodes P nodes (subst (AllByRecursion P) (sym (ops_of_nodes chosen ss)) all) in
    each_from_flat_map P (ops_at nodes) order (each_member (λ v. AllByRecursion P (ops_at nodes v)) order (λ v _. each v))

-- ---- an identity that a node wrote, no other transaction wrote
pub Has-written : (ops : List Op) (key : List ℕ) (wid : ℕ) → Contains ops (Write key wid) → Has wid (written ops)
Has-written [] key wid c = absurd (omega (arith, c.1))
Has-written (o ∷ ops) key wid (zero, lt, e) = subst (λ p. Has wid (written (p ∷ ops))) (sym e) (inl refl)
Has-written (Read k w ∷ ops) key wid (suc i, lt, e) = Has-written ops key wid (i, omega (arith, lt), e)
Has-written (Write k w ∷ ops) key wid (suc i, lt, e) = inr (Has-written ops key wid (i, omega (arith, lt), e))

abbrev pub uncounted : (ℕ → Bool) → List ClientSession → List Transaction
uncounted chosen ss = filter (λ t. not (is_committed t)) (txns_in (settled chosen ss))

pub others_lack : (chosen : ℕ → Bool) (ss : List ClientSession) (key : List ℕ) (wid : ℕ) → Apart (written (ops_in ss)) → Contains (committed_ops (settled chosen ss)) (Write key wid) → AllByRecursion (Lacks wid) (uncounted chosen ss)
others_lack chosen ss key wid apart c =
    let P : Op → Type 0 = λ o. o ≡ Write key wid → AllByRecursion (Lacks wid) (uncounted chosen ss) in
    let ts = txns_in (settled chosen ss) in
    let once = once_settled chosen ss apart in
    let each = each_weaker _ (λ t. AllByRecursion P t.ops) (λ (t : Transaction) lacked. each_member P t.ops (λ o at e. lacked wid (Has-written t.ops key wid (subst (Contains t.ops) e at)))) (filter is_committed ts) (parts_apart is_committed ts once) in
    member P (committed_ops (settled chosen ss)) (Write key wid) (each_from_flat_map P txn_ops (filter is_committed ts) each) c refl

-- ---- what an order chooses is closed
nonzero : (ss : List ClientSession) (s : ClientSession) (t : Transaction) (key : List ℕ) (wid : ℕ) → AllByRecursion IsLegal ss → Contains ss s → Contains s.txns t → Contains t.ops (Write key wid) → 0 < wid
nonzero ss s t key wid legal at_s at_t at_o =
    let txns = (member IsLegal ss s legal at_s).txns in
    (member IsLegalOp t.ops (Write key wid) (member IsLegalTxn s.txns t txns at_t).ops at_o).1

pub chosen_closed : (chosen : ℕ → Bool) (ss : List ClientSession) (order : List ℕ) → AllByRecursion IsLegal ss → Apart (written (ops_in ss)) → Orders (nodes_where chosen ss) order → IsClosed ss chosen
chosen_closed chosen ss order legal apart h = record { each = λ n need. subst (λ m. chosen m ≡ true) need.number (of_session n need) }
  where
    all : List Op
    all = flat_map (ops_at (nodes_where chosen ss)) order

    wrote : (n : ℕ) (need : IsNeeded ss chosen n) → Contains all (Write need.key need.wid)
    wrote n need =
        let read = member (Contains all) (committed_ops (settled chosen ss)) (Read need.key need.wid) (each_of_order (Contains all) chosen ss order h (themselves all)) need.reads in
        elim (met_by_write all initial need.key need.wid h.reads read) [
          | inl none ↦ absurd (omega (arith, none, nonzero ss need.session need.txn need.key need.wid legal need.is_session need.is_txn need.writes))
          | inr c ↦ c
        ]

    of_session : (n : ℕ) (need : IsNeeded ss chosen n) → chosen need.session.number ≡ true
    of_session n need = elim (cases_Bool (chosen need.session.number)) [
      | inl e ↦ e
      | inr e ↦
          let C : Op → Type 0 = Contains (committed_ops (settled chosen ss)) in
          let counted = member C all (Write need.key need.wid) (each_from_order C chosen ss order (themselves (committed_ops (settled chosen ss)))) (wrote n need) in
          let lack = each_of_settled (λ t. not (is_committed t) ≡ true → Lacks need.wid t) chosen ss
          (each_of_filter (Lacks need.wid) (λ t. not (is_committed t)) (txns_in (settled chosen ss)) (others_lack chosen ss need.key need.wid apart counted)) in
          let of_txn = member _ need.session.txns need.txn (member _ ss need.session lack need.is_session) need.is_txn in
          let uncounted_here = ap (λ o. not (is_commit (settled_as (chosen need.session.number) o))) need.outcome ∙ ap (λ b. not (is_commit (settled_as b Unknown))) e in
          absurd (of_txn uncounted_here (Has-written need.txn.ops need.key need.wid need.writes))
    ]
