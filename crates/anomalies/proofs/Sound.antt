-- What holds of the log of well-formed sessions besides: aborted transactions write no identity twice, and keys are below
-- their count.
use Rattle.anomalies.proofs.Prelude.{◌≡◌, ℕ, zero, suc, ◌<◌, not, List, [], ◌∷◌, ◌++◌, length, get_or, Some, refl, sym, ap, ◌∙◌, arith, map, slice_get, filter, AllByRecursion, Contains, append_cancel_left, Event, Write, Log, IsNumbered}
use Rattle.anomalies.proofs.Prelude.{events_of, log_of, IsWellFormedList, event_key}
use Rattle.session_log.specs.Text.{ClientSession, Transaction, key_of as op_key}
use Rattle.session_log.specs.declared.session.Op.{Op}
use Rattle.serializability.proofs.Places.{Apart-from_IsDistinct}
use Rattle.log_definitions.specs.Unknown.{txns_in, ops_in, is_committed, resolved}
use Rattle.log_definitions.specs.WellFormed.{keys_in, written}
use Rattle.log_definitions.specs.Serial.{ops_of}
use Rattle.log_definitions.proofs.Keys.{Listed, all_listed, number_below}
use Rattle.log_definitions.proofs.Settled.{txn_ops}
use Rattle.log_definitions.proofs.Nodes.{each_op}
use Rattle.log_definitions.proofs.Scanning.{rules_where_no_fault}
use Rattle.log_definitions.proofs.Identities.{WriteOnce, once_resolved, WriteOnce-filter, apart_at, one_writer, Has_written, same_write}
use Rattle.log_definitions.proofs.Numbered.{numbered}

pub record IsSound (log : Log) : Type 0 where
  pub numbered : IsNumbered log
  pub aborted_once : (x y w : ℕ) (a b : List Event) → Contains log.aborted a → Contains a (Write x w) → Contains log.aborted b → Contains b (Write y w) → x ≡ y
  pub below : (v : ℕ) → AllByRecursion (λ e. event_key e < log.keys) (log.ops v)

-- one place holds one event
pub same_at : (front : List Event) (d e : Event) (p q : List Event) → front ++ d ∷ p ≡ front ++ e ∷ q → d ≡ e
same_at front d e p q h = let tails = append_cancel_left front (d ∷ p) (e ∷ q) h in cc

pub same_key : (x y w : ℕ) → Write x w ≡ Write y w → x ≡ y
same_key x y w h = cc

-- ---- keys
events_below : (keys : List (List ℕ)) (ops : List Op) → AllByRecursion (λ o. Listed keys (op_key o)) ops → AllByRecursion (λ e. event_key e < length keys) (events_of keys ops)
events_below keys [] h = grind (arith, number_below)
events_below keys (x ∷ ops) h = grind (arith, number_below, events_below keys ops h.1)

-- ---- aborted transactions
split_at : (es : List Event) (e : Event) (k : ℕ) → k < length es → get_or es k e ≡ e → (before : List Event) × ((behind : List Event) × (es ≡ before ++ e ∷ behind))
split_at [] e k lt at = absurd (omega arith)
split_at (d ∷ es) e zero lt at = ([], (es, ap (λ x. x ∷ es) at))
split_at (d ∷ es) e (suc k) lt at =
    let s = split_at es e k (omega arith) at in (d ∷ s.0, (s.1.0, ap (λ l. d ∷ l) s.1.1))

txn_at : (keys : List (List ℕ)) (ts : List Transaction) (es : List Event) (k : ℕ) → k < length (map (events_of keys) (map txn_ops ts)) → get_or (map (events_of keys) (map txn_ops ts)) k es ≡ es → (t : Transaction) × ((slice_get ts k ≡ Some t) × (es ≡ events_of keys t.ops))
txn_at keys [] es k lt at = absurd (omega arith)
txn_at keys (t ∷ ts) es zero lt at = (t, (refl, sym at))
txn_at keys (t ∷ ts) es (suc k) lt at = txn_at keys ts es k (omega arith) at

once_among : (keys : List (List ℕ)) (ts : List Transaction) → WriteOnce ts → (x y w : ℕ) (a b : List Event) → Contains (map (events_of keys) (map txn_ops ts)) a → Contains a (Write x w) → Contains (map (events_of keys) (map txn_ops ts)) b → Contains b (Write y w) → x ≡ y
once_among keys ts once x y w a b in_a at_a in_b at_b =
    let t = txn_at keys ts a in_a.0 in_a.1 in_a.2 in
    let u = txn_at keys ts b in_b.0 in_b.1 in_b.2 in
    let s = split_at a (Write x w) at_a.0 at_a.1 at_a.2 in
    let r = split_at b (Write y w) at_b.0 at_b.1 at_b.2 in
    let place : in_a.0 ≡ in_b.0 =
    one_writer ts in_a.0 in_b.0 t.0 u.0 w once t.1.0 u.1.0 (Has_written keys t.0.ops a s.0 s.1.0 x w t.1.1 s.1.1) (Has_written keys u.0.ops b r.0 r.1.0 y w u.1.1 r.1.1) in
    let found : Some t.0 ≡ Some u.0 = sym t.1.0 ∙ ap (slice_get ts) place ∙ u.1.0 in
    let txn : t.0 ≡ u.0 = cc in
    let same : a ≡ b = t.1.1 ∙ ap (λ n. events_of keys n.ops) txn ∙ sym u.1.1 in
    let fronts : s.0 ≡ r.0 = same_write keys t.0.ops a s.0 r.0 s.1.0 r.1.0 x y w (apart_at ts in_a.0 t.0 once t.1.0) t.1.1 s.1.1 (same ∙ r.1.1) in
    same_key x y w (same_at r.0 (Write x w) (Write y w) s.1.0 r.1.0 (ap (λ f. f ++ Write x w ∷ s.1.0) (sym fronts) ∙ sym s.1.1 ∙ same ∙ r.1.1))

pub sound : (ss : List ClientSession) → IsWellFormedList ss → IsSound (log_of ss)
unfolding log_of
sound ss h =
    let rules = rules_where_no_fault 1 ss h.sessions in
    let txns = txns_in (resolved ss) in
    let once : WriteOnce txns = once_resolved ss (Apart-from_IsDistinct (written (ops_in ss)) rules.writes) in
    record {
      numbered = numbered ss h;
      aborted_once = once_among (keys_in ss) (filter (λ t. not (is_committed t)) txns) (WriteOnce-filter (λ t. not (is_committed t)) txns once);
      below = λ v. events_below (keys_in ss) (ops_of ss v) (each_op (λ o. Listed (keys_in ss) (op_key o)) ss (all_listed ss) v);
    }
