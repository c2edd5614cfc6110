-- Logs of known outcomes, the one with some of the nodes of the other: of a part, and of fewer unknown transactions.
use Rattle.point_laws.proofs.Prelude.{◌≡◌, ℕ, Bool, List, [], ◌∷◌, refl, sym, ◌∙◌, subst, inl, inr, true, false, Contains, AllByRecursion, ClientSession, Transaction, Read, Write, Apart, Apart-from_IsDistinct, ops_in, settled}
use Rattle.point_laws.proofs.Prelude.{committed_ops, is_committed, settle, IsClosed, IsWithin, written, committed_in, node_of, session_of, ops_of, begun_of, ended_of, ops_settled, IsSoundLog, IsLearntLog, nodes_of, IsPart, done, left, kept}
use Rattle.point_laws.proofs.Prelude.{IsSublist, was_in, thinned_same, KeepsSources, AreNodes, nodes_of_part, number, cases_Bool, false≢true, Op, member, each_member, themselves, Counts, each_of_committed, each_from_committed, Marked}
use Rattle.point_laws.proofs.Prelude.{all_nodes, kept_nodes, marked, all_marked, kept_marked, counts_once, settled_nodes}
use Rattle.part_laws.proofs.Sessions.{AreParts, settled_part, committed_stays, committed_ops_sublist}
use Rattle.point_laws.proofs.Nodes.{nodes_are}
use Rattle.point_laws.proofs.Resolved.{settled_learnt}
use Rattle.point_laws.proofs.Kept.{AreOf}

-- ---- where outcomes are known
pub record Known (xs ys : List ClientSession) : Type 0 where
  pub nodes : AreNodes (committed_in xs) (committed_in ys)
  pub from : IsLearntLog xs
  pub to : IsLearntLog ys
  pub writes : Apart (written (ops_in xs))
  pub sources : KeepsSources (committed_ops xs) (committed_ops ys)

-- what node v of the part has of node u
pub record IsOfNode (xs ys : List ClientSession) (u v : ℕ) : Type 0 where
  pub session : session_of ys v ≡ session_of xs u
  pub begun : begun_of ys v ≡ begun_of xs u
  pub ended : ended_of ys v ≡ ended_of xs u
  pub ops : IsSublist (ops_of xs u) (ops_of ys v)

pub of_node : (xs ys : List ClientSession) (u v : ℕ) → AreOf (committed_in xs) (committed_in ys) u v → IsOfNode xs ys u v
unfolding node_of
of_node xs ys u v h = record { session = h.session; begun = h.begun; ended = h.ended; ops = h.ops }

-- ---- of a part
pub known_part : (chosen : ℕ → Bool) (ss part : List ClientSession) → IsSoundLog ss → IsPart ss part → Known (settled chosen ss) (settled chosen part)
known_part chosen ss part sound h = record { nodes = nodes; from = settled_learnt chosen ss; to = settled_learnt chosen part; writes = writes; sources = sources }
  where
    parts : AreParts (settled chosen ss) (settled chosen part)
    parts = settled_part chosen h.sessions

    nodes : AreNodes (committed_in (settled chosen ss)) (committed_in (settled chosen part))
    nodes =
        subst (λ l. AreNodes l (committed_in (settled chosen part))) (sym (nodes_are (settled chosen ss) (settled_learnt chosen ss)))
        (subst (AreNodes (nodes_of (settled chosen ss))) (sym (nodes_are (settled chosen part) (settled_learnt chosen part))) (nodes_of_part (settled_part chosen h.sessions)))

    writes : Apart (written (ops_in (settled chosen ss)))
    writes = subst (λ ops. Apart (written ops)) (sym (ops_settled chosen ss)) (Apart-from_IsDistinct (0 ∷ written (ops_in ss)) sound.writes).1

    all : KeepsSources (ops_in (settled chosen ss)) (ops_in (settled chosen part))
    all = subst (λ ops. KeepsSources ops (ops_in (settled chosen part))) (sym (ops_settled chosen ss)) (subst (KeepsSources (ops_in ss)) (sym (ops_settled chosen part)) h.reads)

    sources : KeepsSources (committed_ops (settled chosen ss)) (committed_ops (settled chosen part))
    sources key wid c d =
        committed_stays parts key wid writes d
        (all key wid (was_in (committed_ops_sublist (settled chosen part)) (Read key wid) c) (was_in (committed_ops_sublist (settled chosen ss)) (Write key wid) d))

-- ---- with fewer chosen
marks_thinned : (ms : List Marked) → AreNodes (all_nodes ms) (kept_nodes ms)
marks_thinned [] = done
marks_thinned ((true, node) ∷ ms) = kept node node (all_nodes ms) (kept_nodes ms) (record { session = refl; begun = refl; ended = refl; ops = thinned_same (λ x y. x ≡ y) (λ x. refl) node.ops }) (marks_thinned ms)
marks_thinned ((false, node) ∷ ms) = left node (all_nodes ms) (kept_nodes ms) (marks_thinned ms)

pub known_taken : (these those : ℕ → Bool) (ss : List ClientSession) → Apart (written (ops_in ss)) → IsClosed ss those → IsWithin those these → Known (settled these ss) (settled those ss)
known_taken these those ss apart closed h = record {
  nodes = subst (λ l. AreNodes l (committed_in (settled those ss))) (all_marked these those ss ∙ sym (settled_nodes these ss)) (subst (AreNodes (all_nodes (marked these those ss))) (kept_marked these those ss h ∙ sym (settled_nodes those ss)) (marks_thinned (marked these those ss)));
  from = settled_learnt these ss;
  to = settled_learnt those ss;
  writes = subst (λ ops. Apart (written ops)) (sym (ops_settled these ss)) apart;
  sources = λ key wid c d. member (Stays key wid) (committed_ops (settled these ss)) (Write key wid) (each_from_committed (Stays key wid) these ss (stays key wid c)) d refl;
}
  where
    Stays : List ℕ → ℕ → Op → Type 0
    Stays key wid o = o ≡ Write key wid → Contains (committed_ops (settled those ss)) (Write key wid)

    of_txn : (s : ClientSession) → Contains ss s → (t : Transaction) → Contains s.txns t → Counts those s t → AllByRecursion (Contains (committed_ops (settled those ss))) t.ops
    of_txn s at_s t at_t =
        let P : Op → Type 0 = Contains (committed_ops (settled those ss)) in
        member (λ (u : Transaction). Counts those s u → AllByRecursion P u.ops) s.txns t (member (λ (x : ClientSession). AllByRecursion (λ (u : Transaction). Counts those x u → AllByRecursion P u.ops) x.txns) ss s (each_of_committed P those ss (themselves (committed_ops (settled those ss)))) at_s) at_t

    stays : (key : List ℕ) (wid : ℕ) → Contains (committed_ops (settled those ss)) (Read key wid) → AllByRecursion (λ (s : ClientSession). AllByRecursion (λ (t : Transaction). Counts these s t → AllByRecursion (Stays key wid) t.ops) s.txns) ss
    stays key wid read = each_member (λ (s : ClientSession). AllByRecursion (λ (t : Transaction). Counts these s t → AllByRecursion (Stays key wid) t.ops) s.txns) ss (λ s at_s. each_member (λ (t : Transaction). Counts these s t → AllByRecursion (Stays key wid) t.ops) s.txns (λ t at_t e. each_member (Stays key wid) t.ops (λ o c same. (let does = subst (Contains t.ops) same c in
        elim (cases_Bool (is_committed (settle (those s.number) t))) [
          | inl f ↦ member (Contains (committed_ops (settled those ss))) t.ops (Write key wid) (of_txn s at_s t at_t f) does
          | inr f ↦
              let r = counts_once (these s.number) (those s.number) t.outcome e f in
              absurd (false≢true (sym r.1 ∙ closed.each s.number (record { session = s; txn = t; key = key; wid = wid; is_session = at_s; is_txn = at_t; number = refl; outcome = r.0; writes = does; reads = read })))
        ]))))
