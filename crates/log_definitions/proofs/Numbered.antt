-- What holds of the numbers of a well-formed log.
use Rattle.log_definitions.proofs.Prelude.{◌≡◌, Bool, true, not, ℕ, zero, suc, ◌<◌, ◌≤◌, List, [], ◌∷◌, ◌++◌, length, get_or, Some, None, refl, sym, ap, ◌∙◌, subst, arith, map, slice_get, AllByRecursion, filter, option_map_or}
use Rattle.log_definitions.proofs.Prelude.{slice_get-get_or, ClientSession, Transaction, IsLegal, IsLegalOp, IsLegalTxn, Op, Commit, Event, Apart-from_IsDistinct, each_of_flat_map, each_from_flat_map, each_from_filter, txns_in, ops_in}
use Rattle.log_definitions.proofs.Prelude.{is_committed, resolved, keys_in, written, key_of, committed_in, ops_of, events_of, aborted_in, log_of, IsWellFormedList}
use Rattle.session_log.specs.declared.session.Op.TheVariants as op
use Rattle.serializability.specs.declared.event.Event.TheVariants.{Read, Write}
use Rattle.serializability.specs.Reads.{IsNumbered}
use Rattle.log_definitions.proofs.Members.{each_weaker}
use Rattle.log_definitions.proofs.Keys.{Listed, all_listed, number_below}
use Rattle.log_definitions.proofs.Settled.{txn_ops, ops_resolved}
use Rattle.log_definitions.proofs.Nodes.{kept_in, committed_count, node_ops, each_op, each_at}
use Rattle.log_definitions.proofs.Scanning.{rules_where_no_fault}
use Rattle.log_definitions.proofs.Identities.{WriteOnce, once_resolved, WriteOnce-filter, apart_at, one_writer, parts_apart, Has_written, same_write, none_written, contained_at}
use Rattle.log_definitions.proofs.Together.{together}

-- ---- what holds of each event of a node
event_at : (P : Event → Type 0) (before behind : List Event) (e : Event) → AllByRecursion P (before ++ e ∷ behind) → P e
event_at P [] behind e h = h.0
event_at P (d ∷ before) behind e h = event_at P before behind e h.1

abbrev KeyBelow : ℕ → Event → Type 0
KeyBelow n (Read x w) = x < n
KeyBelow n (Write x w) = x < n

abbrev Nonzero : Event → Type 0
Nonzero (Read x w) = Unit {0}
Nonzero (Write x w) = 0 < w

keys_below : (keys : List (List ℕ)) (ops : List Op) → AllByRecursion (λ o. Listed keys (key_of o)) ops → AllByRecursion (KeyBelow (length keys)) (events_of keys ops)
keys_below keys [] h = tt
keys_below keys (op.Read key w ∷ ops) h = (number_below keys key h.0, keys_below keys ops h.1)
keys_below keys (op.Write key w ∷ ops) h = (number_below keys key h.0, keys_below keys ops h.1)

writes_nonzero : (keys : List (List ℕ)) (ops : List Op) → AllByRecursion IsLegalOp ops → AllByRecursion Nonzero (events_of keys ops)
writes_nonzero keys [] h = tt
writes_nonzero keys (op.Read key w ∷ ops) h = (tt, writes_nonzero keys ops h.1)
writes_nonzero keys (op.Write key w ∷ ops) h = (h.0.1, writes_nonzero keys ops h.1)

all_txns_legal : (ss : List ClientSession) → AllByRecursion IsLegal ss → AllByRecursion (λ s. AllByRecursion IsLegalTxn s.txns) ss
all_txns_legal [] h = tt
all_txns_legal (s ∷ ss) h = (h.0.txns, all_txns_legal ss h.1)

abbrev HasLegalOps : Transaction → Type 0
HasLegalOps t = AllByRecursion IsLegalOp (txn_ops t)

all_ops_legal : (ss : List ClientSession) → AllByRecursion IsLegal ss → AllByRecursion IsLegalOp (ops_in ss)
all_ops_legal ss h =
    each_from_flat_map IsLegalOp txn_ops (txns_in ss)
    (each_weaker IsLegalTxn HasLegalOps (λ t legal. legal.ops) (txns_in ss) (each_from_flat_map IsLegalTxn (λ (s : ClientSession). s.txns) ss (all_txns_legal ss h)))

-- ---- what holds of each event of a transaction that counts as aborted
all_nonzero : (keys : List (List ℕ)) (ts : List Transaction) → AllByRecursion HasLegalOps ts → AllByRecursion (AllByRecursion Nonzero) (map (events_of keys) (map txn_ops ts))
all_nonzero keys [] h = tt
all_nonzero keys (t ∷ ts) h = (writes_nonzero keys t.ops h.0, all_nonzero keys ts h.1)

legal_kept : (p : Transaction → Bool) (ts : List Transaction) → AllByRecursion HasLegalOps ts → AllByRecursion HasLegalOps (filter p ts)
legal_kept p ts h = each_from_filter HasLegalOps p ts (each_weaker HasLegalOps (λ t. p t ≡ true → HasLegalOps t) (λ t legal _. legal) ts h)

aborted_legal : (ss : List ClientSession) → AllByRecursion IsLegal ss → AllByRecursion HasLegalOps (filter (λ t. not (is_committed t)) (txns_in (resolved ss)))
aborted_legal ss h = legal_kept (λ t. not (is_committed t)) (txns_in (resolved ss))
    (each_of_flat_map IsLegalOp txn_ops (txns_in (resolved ss)) (subst (AllByRecursion IsLegalOp) (sym (ops_resolved ss)) (all_ops_legal ss h)))

-- ---- the transaction of a node
record IsNode (ss : List ClientSession) (v : ℕ) : Type 0 where
  pub place : ℕ
  pub txn : Transaction
  pub is_next : v ≡ suc place
  pub stands : slice_get (kept_in ss) place ≡ Some txn
  pub has : ops_of ss v ≡ txn.ops

node : (ss : List ClientSession) (v : ℕ) → 0 < v → v ≤ length (committed_in ss) → IsNode ss v
node ss zero lo hi = absurd (omega arith)
node ss (suc i) lo hi =
    let count = committed_count ss in
    let none : Transaction = record { ops = []; outcome = Commit; begun = None; ended = None } in
    let at : slice_get (kept_in ss) i ≡ Some (get_or (kept_in ss) i none) = slice_get-get_or (kept_in ss) i none (omega (arith, count, hi)) in
    record {
      place = i;
      txn = get_or (kept_in ss) i none;
      is_next = refl;
      stands = at;
      has = node_ops ss i ∙ ap (λ o. option_map_or txn_ops o []) at;
    }

events_at : (ss : List ClientSession) (v : ℕ) (n : IsNode ss v) → (log_of ss).ops v ≡ events_of (keys_in ss) n.txn.ops
unfolding log_of
events_at ss v n = ap (events_of (keys_in ss)) n.has

pub numbered : (ss : List ClientSession) → IsWellFormedList ss → IsNumbered (log_of ss)
unfolding log_of
numbered ss h =
    let rules = rules_where_no_fault 1 ss h.sessions in
    let txns = txns_in (resolved ss) in
    let once : WriteOnce txns = once_resolved ss (Apart-from_IsDistinct (written (ops_in ss)) rules.writes) in
    let kept_once : WriteOnce (kept_in ss) = WriteOnce-filter is_committed txns once in
    let keys = keys_in ss in
    record {
      keys = λ v x w before r.
          event_at (KeyBelow (length keys)) before r.2.0 (Read x w)
          (subst (AllByRecursion (KeyBelow (length keys))) r.2.1 (keys_below keys (ops_of ss v) (each_op (λ o. Listed keys (key_of o)) ss (all_listed ss) v)));
      nonzero = λ v x w before r.
          event_at Nonzero before r.2.0 (Write x w)
          (subst (AllByRecursion Nonzero) r.2.1 (writes_nonzero keys (ops_of ss v) (each_op IsLegalOp ss (all_ops_legal ss h.legal) v)));
      distinct = λ u v x y w a b p q.
          let one = node ss u p.0 p.1 in
          let two = node ss v q.0 q.1 in
          let in_one = Has_written keys one.txn.ops ((log_of ss).ops u) a p.2.0 x w (events_at ss u one) p.2.1 in
          let in_two = Has_written keys two.txn.ops ((log_of ss).ops v) b q.2.0 y w (events_at ss v two) q.2.1 in
          let place = one_writer (kept_in ss) one.place two.place one.txn two.txn w kept_once one.stands two.stands in_one in_two in
          let same : u ≡ v = one.is_next ∙ ap suc place ∙ sym two.is_next in
          (same, same_write keys one.txn.ops ((log_of ss).ops u) a b p.2.0 q.2.0 x y w (apart_at (kept_in ss) one.place one.txn kept_once one.stands) (events_at ss u one) p.2.1 (ap (λ n. (log_of ss).ops n) same ∙ q.2.1));
      aborted = λ v x y w before ops p c d.
          let one = node ss v p.0 p.1 in
          let in_one = Has_written keys one.txn.ops ((log_of ss).ops v) before p.2.0 x w (events_at ss v one) p.2.1 in
          let lacking = each_at _ (kept_in ss) one.place one.txn (parts_apart is_committed txns once) one.stands in
          none_written keys y w _ ops (lacking w in_one) c d;
      aborted_nonzero = λ x w ops c d.
          contained_at Nonzero ops d.0 (Write x w)
          (contained_at (AllByRecursion Nonzero) (map (events_of keys) (aborted_in ss)) c.0 ops (all_nonzero keys (filter (λ t. not (is_committed t)) txns) (aborted_legal ss h.legal)) c.1 c.2)
          d.1 d.2;
      together = together ss (Apart-from_IsDistinct (map (λ s. s.number) ss) rules.sessions);
    }
