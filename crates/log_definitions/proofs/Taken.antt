-- The taken transactions are the least set that holds each one that is needed.
use Rattle.log_definitions.proofs.Prelude.{◌≡◌, ◌⊎◌, ℕ, zero, suc, ◌<◌, ◌≤◌, Bool, true, false, not, ◌&&◌, eqb, List, [], ◌∷◌, length, refl, sym, ap, ◌∙◌, subst, inl, inr, arith, eqb-true, eq-eqb, filter, list_any, AllByRecursion, Contains}
use Rattle.log_definitions.proofs.Prelude.{bytes_eq, false≢true, or_cases, or_left, or_right, and_parts, and_from, Any-from_list_any, count_by-le-length, length-filter, bytes_eq-Decides, ClientSession, Transaction}
use Rattle.log_definitions.proofs.Prelude.{is_unknown as is_unknown_outcome, Op, Read, Write, Outcome, Commit, Abort, Unknown, each_of_flat_map, each_from_flat_map, each_of_filter, each_from_filter, is_committed, txns_in, settled_as}
use Rattle.log_definitions.proofs.Prelude.{settled, reads_write, reads_of, committed_ops, is_needed, taking, taking_times, taken, resolved, IsNeeded, IsClosed, IsWithin, is_commit}
use Rattle.std.proofs.Math.Path.{fun_ext}
use Rattle.list_lemmas.proofs.Bools.{same_bool}
use Rattle.log_definitions.specs.Unknown.{is_unknown}
use Rattle.log_definitions.proofs.Members.{member, themselves, each_weaker, any_member}
use Rattle.log_definitions.proofs.Settled.{txn_ops, each_of_settled, each_from_settled}

-- ---- the operations that count as committed
abbrev pub Counts : (ℕ → Bool) → ClientSession → Transaction → Type 0
Counts chosen s t = is_commit (settled_as (chosen s.number) t.outcome) ≡ true

-- what holds of each of them, by session and transaction
abbrev pub EachCounted : (Op → Type 0) → (ℕ → Bool) → List ClientSession → Type 0
EachCounted P chosen ss = AllByRecursion (λ s. AllByRecursion (λ t. Counts chosen s t → AllByRecursion P t.ops) s.txns) ss

pub each_of_committed : (P : Op → Type 0) (chosen : ℕ → Bool) (ss : List ClientSession) → AllByRecursion P (committed_ops (settled chosen ss)) → EachCounted P chosen ss
each_of_committed P chosen ss h =
    let Q : Transaction → Type 0 = λ t. AllByRecursion P t.ops in
    let ts = txns_in (settled chosen ss) in
    each_of_settled (λ t. is_committed t ≡ true → Q t) chosen ss (each_of_filter Q is_committed ts (each_of_flat_map P txn_ops (filter is_committed ts) h))

pub each_from_committed : (P : Op → Type 0) (chosen : ℕ → Bool) (ss : List ClientSession) → EachCounted P chosen ss → AllByRecursion P (committed_ops (settled chosen ss))
each_from_committed P chosen ss h =
    let Q : Transaction → Type 0 = λ t. AllByRecursion P t.ops in
    let ts = txns_in (settled chosen ss) in
    each_from_flat_map P txn_ops (filter is_committed ts) (each_from_filter Q is_committed ts (each_from_settled (λ t. is_committed t ≡ true → Q t) chosen ss h))

pub counts_more : (a b : Bool) (o : Outcome) → (a ≡ true → b ≡ true) → is_commit (settled_as a o) ≡ true → is_commit (settled_as b o) ≡ true
counts_more a b Commit h e = refl
counts_more a b Abort h e = e
counts_more true b Unknown h e = rw (h refl) refl
counts_more false b Unknown h e = absurd (false≢true e)

fewer_counted : (P : Op → Type 0) (a b : ℕ → Bool) (ss : List ClientSession) → IsWithin a b → EachCounted P b ss → EachCounted P a ss
fewer_counted P a b ss h = each_weaker _ _ (λ s. by_txn s) ss
  where
    by_txn : (s : ClientSession) → AllByRecursion (λ t. Counts b s t → AllByRecursion P t.ops) s.txns → AllByRecursion (λ t. Counts a s t → AllByRecursion P t.ops) s.txns
    by_txn s = each_weaker _ _ (λ t k e. k (counts_more (a s.number) (b s.number) t.outcome (h s.number) e)) s.txns

-- where more are chosen, no fewer count as committed, and no fewer are needed
committed_more : (ss : List ClientSession) (a b : ℕ → Bool) (o : Op) → IsWithin a b → Contains (committed_ops (settled a ss)) o → Contains (committed_ops (settled b ss)) o
committed_more ss a b o h c =
    let P : Op → Type 0 = Contains (committed_ops (settled b ss)) in
    let all = each_of_committed P b ss (themselves (committed_ops (settled b ss))) in
    member P (committed_ops (settled a ss)) o (each_from_committed P a ss (fewer_counted P a b ss h all)) c

pub needed_more : (ss : List ClientSession) (a b : ℕ → Bool) (n : ℕ) → IsWithin a b → IsNeeded ss a n → IsNeeded ss b n
needed_more ss a b n h need = record {
  session = need.session;
  txn = need.txn;
  key = need.key;
  wid = need.wid;
  is_session = need.is_session;
  is_txn = need.is_txn;
  number = need.number;
  outcome = need.outcome;
  writes = need.writes;
  reads = committed_more ss a b (Read need.key need.wid) h need.reads;
}

-- ---- the test of what is needed
reads_own : (key : List ℕ) (wid : ℕ) → reads_write (Read key wid) (Write key wid) ≡ true
reads_own key wid = and_from (bytes_eq key key) (eqb wid wid) ((bytes_eq-Decides key key).1 refl) (eq-eqb wid wid refl)

unknown_is : (o : Outcome) → is_unknown_outcome o ≡ true → o ≡ Unknown
unknown_is Commit e = absurd (false≢true e)
unknown_is Abort e = absurd (false≢true e)
unknown_is Unknown e = refl

abbrev needs : List ClientSession → (ℕ → Bool) → ℕ → Bool
needs ss chosen n = list_any (λ s. (eqb s.number n) && is_needed (committed_ops (settled chosen ss)) s) ss

needed_by : (ss : List ClientSession) (chosen : ℕ → Bool) (s : ClientSession) (t : Transaction) (r w : Op) → Contains ss s → Contains s.txns t → t.outcome ≡ Unknown → Contains (committed_ops (settled chosen ss)) r → Contains t.ops w → reads_write r w ≡ true → IsNeeded ss chosen s.number
needed_by ss chosen s t (Read key wid) (Write k w) at_s at_t unknown at_r at_w e =
    let same = and_parts (bytes_eq key k) (eqb wid w) e in
    let written : Write k w ≡ Write key wid = ap (λ l. Write l w) (sym ((bytes_eq-Decides key k).0 same.0)) ∙ ap (Write key) (sym (eqb-true wid w same.1)) in
    record {
      session = s;
      txn = t;
      key = key;
      wid = wid;
      is_session = at_s;
      is_txn = at_t;
      number = refl;
      outcome = unknown;
      writes = subst (Contains t.ops) written at_w;
      reads = at_r;
    }
needed_by ss chosen s t (Read key wid) (Read k w) at_s at_t unknown at_r at_w e = absurd (false≢true e)
needed_by ss chosen s t (Write key wid) w at_s at_t unknown at_r at_w e = absurd (false≢true e)

needed_is : (ss : List ClientSession) (chosen : ℕ → Bool) (n : ℕ) → needs ss chosen n ≡ true → IsNeeded ss chosen n
needed_is ss chosen n e =
    let ops = committed_ops (settled chosen ss) in
    let s = Any-from_list_any (λ (s : ClientSession). (eqb s.number n) && is_needed ops s) ss e in
    let own = and_parts (eqb s.1.number n) (is_needed ops s.1) s.4 in
    let t = Any-from_list_any (λ (t : Transaction). is_unknown t && reads_of ops t.ops) s.1.txns own.1 in
    let unknown = and_parts (is_unknown t.1) (reads_of ops t.1.ops) t.4 in
    let r = Any-from_list_any (λ r. list_any (reads_write r) t.1.ops) ops unknown.1 in
    let w = Any-from_list_any (reads_write r.1) t.1.ops r.4 in
    let need = needed_by ss chosen s.1 t.1 r.1 w.1 (s.0, s.2, s.3) (t.0, t.2, t.3) (unknown_is t.1.outcome unknown.0) (r.0, r.2, r.3) (w.0, w.2, w.3) w.4 in
    subst (IsNeeded ss chosen) (eqb-true s.1.number n own.0) need

needed_from : (ss : List ClientSession) (chosen : ℕ → Bool) (n : ℕ) → IsNeeded ss chosen n → needs ss chosen n ≡ true
needed_from ss chosen n h =
    let ops = committed_ops (settled chosen ss) in
    let read = any_member (λ r. list_any (reads_write r) h.txn.ops) ops (Read h.key h.wid) h.reads
    (any_member (reads_write (Read h.key h.wid)) h.txn.ops (Write h.key h.wid) h.writes (reads_own h.key h.wid)) in
    let txn = any_member (λ (t : Transaction). is_unknown t && reads_of ops t.ops) h.session.txns h.txn h.is_txn
    (and_from (is_unknown h.txn) (reads_of ops h.txn.ops) (ap is_unknown_outcome h.outcome) read) in
    any_member (λ (s : ClientSession). (eqb s.number n) && is_needed ops s) ss h.session h.is_session
    (and_from (eqb h.session.number n) (is_needed ops h.session) (eq-eqb h.session.number n h.number) txn)

taking_is : (ss : List ClientSession) (chosen : ℕ → Bool) (n : ℕ) → taking ss chosen n ≡ true → (chosen n ≡ true) ⊎ IsNeeded ss chosen n
taking_is ss chosen n e = elim (or_cases (chosen n) (needs ss chosen n) e) [ inl t ↦ inl t | inr t ↦ inr (needed_is ss chosen n t) ]

-- ---- the least closed set
taking_within : (ss : List ClientSession) (chosen others : ℕ → Bool) → IsClosed ss others → IsWithin chosen others → IsWithin (taking ss chosen) others
taking_within ss chosen others closed h n e = elim (taking_is ss chosen n e) [
  | inl t ↦ h n t
  | inr need ↦ closed.each n (needed_more ss chosen others n h need)
]

times_within : (k : ℕ) (ss : List ClientSession) (chosen others : ℕ → Bool) → IsClosed ss others → IsWithin chosen others → IsWithin (taking_times k ss chosen) others
times_within zero ss chosen others closed h = h
times_within (suc k) ss chosen others closed h = times_within k ss (taking ss chosen) others closed (taking_within ss chosen others closed h)

pub taken_least : (ss : List ClientSession) (chosen : ℕ → Bool) → IsClosed ss chosen → IsWithin (taken ss) chosen
unfolding taken
taken_least ss chosen closed = times_within (length ss) ss (λ n. false) chosen closed (λ n e. absurd (false≢true e))

-- ---- no more times than there are sessions
-- so many of them fail the test
abbrev failing : {X : Type 0} → (X → Bool) → List X → ℕ
failing p xs = length (filter (λ x. not (p x)) xs)

-- a test that all pass which pass another is the same test, or fewer fail it
abbrev SameOrFewer : {X : Type 0} → (X → Bool) → (X → Bool) → List X → Type 0
SameOrFewer p q xs = (AllByRecursion (λ x. q x ≡ true → p x ≡ true) xs × (failing q xs ≡ failing p xs)) ⊎ (failing q xs < failing p xs)

same_or_fewer : {X : Type 0} (p q : X → Bool) → ((x : X) → p x ≡ true → q x ≡ true) → (xs : List X) → SameOrFewer p q xs
same_or_fewer p q h [] = inl (tt, refl)
same_or_fewer p q h (x ∷ xs) = go (p x) refl (q x) refl (h x) (same_or_fewer p q h xs)
  where
    go : (a : Bool) → p x ≡ a → (b : Bool) → q x ≡ b → (p x ≡ true → q x ≡ true) → SameOrFewer p q xs → SameOrFewer p q (x ∷ xs)
    go true e true f k (inl same) = rw (e, f) (inl (((λ t. refl), same.0), same.1))
    go true e true f k (inr less) = rw (e, f) (inr less)
    go true e false f k r = absurd (false≢true (sym f ∙ k e))
    go false e true f k (inl same) = rw (e, f) (inr (omega (arith, same.1)))
    go false e true f k (inr less) = rw (e, f) (inr (omega (arith, less)))
    go false e false f k (inl same) = rw (e, f) (inl (((λ t. t), same.0), ap suc same.1))
    go false e false f k (inr less) = rw (e, f) (inr (omega (arith, less)))

abbrev Stays : List ClientSession → (ℕ → Bool) → Type 0
Stays ss chosen = taking ss chosen ≡ chosen

stays_where_same : (ss : List ClientSession) (chosen : ℕ → Bool) → AllByRecursion (λ s. taking ss chosen s.number ≡ true → chosen s.number ≡ true) ss → Stays ss chosen
stays_where_same ss chosen h = fun_ext (λ n. same_bool (taking ss chosen n) (chosen n) (kept n) (or_left (chosen n) (needs ss chosen n)))
  where
    kept : (n : ℕ) → taking ss chosen n ≡ true → chosen n ≡ true
    kept n e = elim (taking_is ss chosen n e) [
      | inl t ↦ t
      | inr need ↦
          let P : ClientSession → Type 0 = λ s. taking ss chosen s.number ≡ true → chosen s.number ≡ true in
          subst (λ m. chosen m ≡ true) need.number (member P ss need.session h need.is_session (subst (λ m. taking ss chosen m ≡ true) (sym need.number) e))
    ]

times_stay : (k : ℕ) (ss : List ClientSession) (chosen : ℕ → Bool) → Stays ss chosen → taking_times k ss chosen ≡ chosen
times_stay zero ss chosen e = refl
times_stay (suc k) ss chosen e = ap (taking_times k ss) e ∙ times_stay k ss chosen e

more_or_stays : (ss : List ClientSession) (chosen : ℕ → Bool) → Stays ss chosen ⊎ (failing (λ s. taking ss chosen s.number) ss < failing (λ s. chosen s.number) ss)
more_or_stays ss chosen = elim (same_or_fewer (λ (s : ClientSession). chosen s.number) (λ (s : ClientSession). taking ss chosen s.number) (λ s. or_left (chosen s.number) (needs ss chosen s.number)) ss) [
  | inl same ↦ inl (stays_where_same ss chosen same.0)
  | inr less ↦ inr less
]

stays_in_time : (k : ℕ) (ss : List ClientSession) (chosen : ℕ → Bool) → failing (λ s. chosen s.number) ss ≤ k → Stays ss (taking_times k ss chosen)
stays_in_time zero ss chosen few = elim (more_or_stays ss chosen) [
  | inl stays ↦ stays
  | inr less ↦ absurd (omega (arith, less, few))
]
stays_in_time (suc k) ss chosen few = elim (more_or_stays ss chosen) [
  | inl stays ↦ subst (Stays ss) (sym (times_stay (suc k) ss chosen stays)) stays
  | inr less ↦ stays_in_time k ss (taking ss chosen) (omega (arith, less, few))
]

taken_stays : (ss : List ClientSession) → Stays ss (taken ss)
unfolding taken
taken_stays ss = stays_in_time (length ss) ss (λ n. false) (omega (arith, length-filter (λ (s : ClientSession). true) ss, count_by-le-length (λ (s : ClientSession). true) ss))

pub taken_closed : (ss : List ClientSession) → IsClosed ss (taken ss)
taken_closed ss = record {
  each = λ n need. ap (λ f. f n) (sym (taken_stays ss)) ∙ or_right (taken ss n) (needs ss (taken ss) n) (needed_from ss (taken ss) n need);
}

-- ---- step by step
pub resolved_is : (ss : List ClientSession) → resolved ss ≡ settled (taken ss) ss
unfolding resolved
resolved_is ss = refl

pub needed_taken : (ss : List ClientSession) (chosen : ℕ → Bool) (n : ℕ) → IsWithin chosen (taken ss) → IsNeeded ss chosen n → taken ss n ≡ true
needed_taken ss chosen n h need = (taken_closed ss).each n (needed_more ss chosen (taken ss) n h need)

pub all_taken : (ss : List ClientSession) (chosen : ℕ → Bool) → IsWithin chosen (taken ss) → IsClosed ss chosen → settled chosen ss ≡ resolved ss
all_taken ss chosen h closed =
    ap (λ f. settled f ss) (fun_ext (λ n. same_bool (chosen n) (taken ss n) (h n) (taken_least ss chosen closed n))) ∙ sym (resolved_is ss)
