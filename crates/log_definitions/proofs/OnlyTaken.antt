-- An order of the committed and some unknown transactions becomes one of the committed and the taken ones.
use Rattle.log_definitions.proofs.Prelude.{◌≡◌, ℕ, zero, suc, ◌+◌, Bool, true, false, List, [], ◌∷◌, ◌++◌, refl, sym, ap, ◌∙◌, subst, inl, inr, nat_eq, map, filter, flat_map, enumerate_from, AllByRecursion, Contains, IsDistinct, cases_Bool}
use Rattle.log_definitions.proofs.Prelude.{false≢true, ClientSession, Transaction, IsLegal, Op, Read, Write, Outcome, Commit, Abort, Unknown, Apart-from_IsDistinct, each_from_flat_map, is_committed, ops_in, settled_as, settle, settled}
use Rattle.log_definitions.proofs.Prelude.{committed_ops, taken, IsClosed, IsWithin, is_commit, written, Committed, committed_of, committed_in, node_of, IsSerialOrder, IsSomeOrder, IsWellFormedList}
use Rattle.log_definitions.proofs.Members.{member, each_member}
use Rattle.log_definitions.proofs.Settled.{settled_resolved}
use Rattle.log_definitions.proofs.Scanning.{rules_where_no_fault}
use Rattle.log_definitions.proofs.Taken.{Counts, each_of_committed, counts_more, taken_closed, taken_least, resolved_is}
use Rattle.log_definitions.proofs.Renumbered.{Orders, ops_at, Marked, all_nodes, kept_nodes, is_kept, keeps, renumbered, orders_kept}
use Rattle.log_definitions.proofs.Dropped.{ReadsKept, WritesDropped, OpsFact, replays_kept}
use Rattle.log_definitions.proofs.Chosen.{nodes_where, chosen_closed}

-- ---- the nodes where these are chosen, each marked where it is a node with those chosen too
abbrev pub mark : Bool → Bool → Committed → List Marked → List Marked
mark true kept node ms = (kept, node) ∷ ms
mark false kept node ms = ms

abbrev pub marks : ℕ → Bool → Bool → ℕ → List Transaction → List Marked
marks number a b n [] = []
marks number a b n (t ∷ ts) =
    mark (is_committed (settle a t)) (is_committed (settle b t)) (record { session = number; place = n; ops = t.ops; begun = t.begun; ended = t.ended }) (marks number a b (n + 1) ts)

abbrev pub marked : (ℕ → Bool) → (ℕ → Bool) → List ClientSession → List Marked
marked these those ss = flat_map (λ s. marks s.number (these s.number) (those s.number) 1 s.txns) ss

abbrev pub nodes_from : ℕ → Bool → ℕ → List Transaction → List Committed
nodes_from number a n ts =
    map (λ t. record { session = number; place = t.0; ops = t.1.ops; begun = t.1.begun; ended = t.1.ended }) (filter (λ t. is_committed t.1) (enumerate_from n (map (settle a) ts)))

all_marks : (number : ℕ) (a b : Bool) (n : ℕ) (ts : List Transaction) → all_nodes (marks number a b n ts) ≡ nodes_from number a n ts
all_marks number a b n [] = refl
all_marks number a b n (t ∷ ts) = elim (cases_Bool (is_committed (settle a t))) [
  | inl e ↦ rw e (ap (λ l. record { session = number; place = n; ops = t.ops; begun = t.begun; ended = t.ended } ∷ l) (all_marks number a b (n + 1) ts))
  | inr e ↦ rw e (all_marks number a b (n + 1) ts)
]

kept_marks : (number : ℕ) (a b : Bool) (n : ℕ) (ts : List Transaction) → (b ≡ true → a ≡ true) → kept_nodes (marks number a b n ts) ≡ nodes_from number b n ts
kept_marks number a b n [] h = refl
kept_marks number a b n (t ∷ ts) h = elim (cases_Bool (is_committed (settle b t))) [
  | inl e ↦ let f : is_committed (settle a t) ≡ true = counts_more b a t.outcome h e in
      rw (e, f) (ap (λ l. record { session = number; place = n; ops = t.ops; begun = t.begun; ended = t.ended } ∷ l) (kept_marks number a b (n + 1) ts h))
  | inr e ↦ elim (cases_Bool (is_committed (settle a t))) [
    | inl f ↦ rw (e, f) (kept_marks number a b (n + 1) ts h)
    | inr f ↦ rw (e, f) (kept_marks number a b (n + 1) ts h)
  ]
]

all-append : (a b : List Marked) → all_nodes (a ++ b) ≡ all_nodes a ++ all_nodes b
all-append [] b = refl
all-append ((kept, node) ∷ a) b = ap (λ l. node ∷ l) (all-append a b)

kept-append : (a b : List Marked) → kept_nodes (a ++ b) ≡ kept_nodes a ++ kept_nodes b
kept-append [] b = refl
kept-append ((true, node) ∷ a) b = ap (λ l. node ∷ l) (kept-append a b)
kept-append ((false, node) ∷ a) b = kept-append a b

pub all_marked : (these those : ℕ → Bool) (ss : List ClientSession) → all_nodes (marked these those ss) ≡ nodes_where these ss
unfolding settled
all_marked these those [] = refl
all_marked these those (s ∷ ss) =
    all-append (marks s.number (these s.number) (those s.number) 1 s.txns) (marked these those ss)
    ∙ ap (λ l. l ++ all_nodes (marked these those ss)) (all_marks s.number (these s.number) (those s.number) 1 s.txns)
    ∙ ap (λ l. nodes_from s.number (these s.number) 1 s.txns ++ l) (all_marked these those ss)

pub kept_marked : (these those : ℕ → Bool) (ss : List ClientSession) → IsWithin those these → kept_nodes (marked these those ss) ≡ nodes_where those ss
unfolding settled
kept_marked these those [] h = refl
kept_marked these those (s ∷ ss) h =
    kept-append (marks s.number (these s.number) (those s.number) 1 s.txns) (marked these those ss)
    ∙ ap (λ l. l ++ kept_nodes (marked these those ss)) (kept_marks s.number (these s.number) (those s.number) 1 s.txns (h s.number))
    ∙ ap (λ l. nodes_from s.number (those s.number) 1 s.txns ++ l) (kept_marked these those ss h)

-- ---- what a node that is kept reads, and what one writes that is not
-- an unknown transaction that is not among those wrote the key with this identity
record Dropped (ss : List ClientSession) (those : ℕ → Bool) (key : List ℕ) (wid : ℕ) : Type 0 where
  pub session : ClientSession
  pub txn : Transaction
  pub is_session : Contains ss session
  pub is_txn : Contains session.txns txn
  pub outcome : txn.outcome ≡ Unknown
  pub writes : Contains txn.ops (Write key wid)
  pub absent : those session.number ≡ false

reads_kept : (ss : List ClientSession) (those : ℕ → Bool) → IsClosed ss those → (o : Op) → Contains (committed_ops (settled those ss)) o → ReadsKept (Dropped ss those) o
reads_kept ss those closed (Read key wid) c = λ d.
    false≢true (sym d.absent ∙ closed.each d.session.number (record {
      session = d.session;
      txn = d.txn;
      key = key;
      wid = wid;
      is_session = d.is_session;
      is_txn = d.is_txn;
      number = refl;
      outcome = d.outcome;
      writes = d.writes;
      reads = c;
    }))
reads_kept ss those closed (Write key wid) c = tt

-- only an unknown transaction counts as committed in the one way and not in the other
pub counts_once : (a b : Bool) (o : Outcome) → is_commit (settled_as a o) ≡ true → is_commit (settled_as b o) ≡ false → (o ≡ Unknown) × (b ≡ false)
counts_once a b Commit e f = absurd (false≢true (sym f))
counts_once a b Abort e f = absurd (false≢true e)
counts_once a true Unknown e f = absurd (false≢true (sym f))
counts_once a false Unknown e f = (refl, refl)

-- what holds of the operations of a transaction that is a node where these are chosen
abbrev TxnFact : (List ℕ → ℕ → Type 0) → Bool → Bool → Transaction → Type 0
TxnFact D a b t = is_committed (settle a t) ≡ true → OpsFact D (is_committed (settle b t)) t.ops

txn_fact : (these those : ℕ → Bool) (ss : List ClientSession) → IsClosed ss those → (s : ClientSession) → Contains ss s → (t : Transaction) → Contains s.txns t → TxnFact (Dropped ss those) (these s.number) (those s.number) t
txn_fact these those ss closed s at_s t at_t e = elim (cases_Bool (is_committed (settle (those s.number) t))) [
  | inl f ↦ rw f (reads f)
  | inr f ↦ rw f (each_member (WritesDropped (Dropped ss those)) t.ops (writes (counts_once (these s.number) (those s.number) t.outcome e f)))
]
  where
    reads : Counts those s t → AllByRecursion (ReadsKept (Dropped ss those)) t.ops
    reads =
        let P : Op → Type 0 = ReadsKept (Dropped ss those) in
        let all = each_of_committed P those ss (each_member P (committed_ops (settled those ss)) (reads_kept ss those closed)) in
        member (λ t. Counts those s t → AllByRecursion P t.ops) s.txns t (member _ ss s all at_s) at_t

    writes : (t.outcome ≡ Unknown) × (those s.number ≡ false) → (o : Op) → Contains t.ops o → WritesDropped (Dropped ss those) o
    writes h (Read key wid) c = tt
    writes h (Write key wid) c = record { session = s; txn = t; is_session = at_s; is_txn = at_t; outcome = h.0; writes = c; absent = h.1 }

abbrev pub MarkFact : (List ℕ → ℕ → Type 0) → Marked → Type 0
MarkFact D (kept, node) = OpsFact D kept node.ops

marks_facts : (D : List ℕ → ℕ → Type 0) (number : ℕ) (a b : Bool) (n : ℕ) (ts : List Transaction) → AllByRecursion (TxnFact D a b) ts → AllByRecursion (MarkFact D) (marks number a b n ts)
marks_facts D number a b n [] h = tt
marks_facts D number a b n (t ∷ ts) h = elim (cases_Bool (is_committed (settle a t))) [
  | inl e ↦ rw e (h.0 e, marks_facts D number a b (n + 1) ts h.1)
  | inr e ↦ rw e (marks_facts D number a b (n + 1) ts h.1)
]

marked_facts : (these those : ℕ → Bool) (ss : List ClientSession) → IsClosed ss those → AllByRecursion (MarkFact (Dropped ss those)) (marked these those ss)
marked_facts these those ss closed =
    let D : List ℕ → ℕ → Type 0 = Dropped ss those in
    each_from_flat_map (MarkFact D) (λ (s : ClientSession). marks s.number (these s.number) (those s.number) 1 s.txns) ss
    (each_member _ ss (λ s at_s. marks_facts D s.number (these s.number) (those s.number) 1 s.txns
    (each_member (TxnFact D (these s.number) (those s.number)) s.txns (txn_fact these those ss closed s at_s))))

-- of a node by its number
pub node_fact : (D : List ℕ → ℕ → Type 0) (ms : List Marked) → AllByRecursion (MarkFact D) ms → (v : ℕ) → OpsFact D (keeps ms v) (ops_at (all_nodes ms) v)
node_fact D ms h zero = tt
node_fact D ms h (suc i) = at ms h i
  where
    at : (ms : List Marked) → AllByRecursion (MarkFact D) ms → (i : ℕ) → OpsFact D (is_kept ms i) (ops_at (all_nodes ms) (suc i))
    at [] h i = tt
    at ((kept, node) ∷ ms) h zero = h.0
    at ((kept, node) ∷ ms) h (suc i) = at ms h.1 i

-- ---- the order without them
fewer_chosen : (these those : ℕ → Bool) (ss : List ClientSession) (order : List ℕ) → IsClosed ss those → IsWithin those these → Orders (nodes_where these ss) order → Orders (nodes_where those ss) (renumbered (marked these those ss) order)
fewer_chosen these those ss order closed h orders =
    let ms = marked these those ss in
    let all : Orders (all_nodes ms) order = subst (λ nodes. Orders nodes order) (sym (all_marked these those ss)) orders in
    let reads = replays_kept (Dropped ss those) (ops_at (all_nodes ms)) (keeps ms) order (node_fact (Dropped ss those) ms (marked_facts these those ss closed)) all.reads in
    subst (λ nodes. Orders nodes (renumbered ms order)) (kept_marked these those ss h) (orders_kept ms order all reads)

pub orders_from_serial : (ss : List ClientSession) (order : List ℕ) → IsSerialOrder ss order → Orders (committed_in ss) order
unfolding node_of
orders_from_serial ss order h = record { once = h.once; sessions = h.sessions; moments = h.moments; reads = h.reads }

pub serial_from_orders : (ss : List ClientSession) (order : List ℕ) → Orders (committed_in ss) order → IsSerialOrder ss order
unfolding node_of
serial_from_orders ss order h = record { once = h.once; sessions = h.sessions; moments = h.moments; reads = h.reads }

-- the nodes of sessions, and those of settled ones
nodes_are : (ss : List ClientSession) → committed_in ss ≡ nodes_where (taken ss) ss
unfolding committed_in
nodes_are ss = ap (flat_map committed_of) (resolved_is ss)

pub settled_nodes : (chosen : ℕ → Bool) (ss : List ClientSession) → committed_in (settled chosen ss) ≡ nodes_where chosen ss
unfolding committed_in
settled_nodes chosen ss = ap (flat_map committed_of) (settled_resolved chosen ss)

-- ---- both ways
abbrev HasSome : List ClientSession → Type 0
HasSome ss = (order : List ℕ) × IsSomeOrder ss order

abbrev HasSerial : List ClientSession → Type 0
HasSerial ss = (order : List ℕ) × IsSerialOrder ss order

pub serial_where_distinct : (ss : List ClientSession) → AllByRecursion IsLegal ss → IsDistinct nat_eq (written (ops_in ss)) → HasSome ss → HasSerial ss
serial_where_distinct ss legal writes (order, some) =
    let orders = subst (λ nodes. Orders nodes order) (settled_nodes some.chosen ss) (orders_from_serial (settled some.chosen ss) order some.serial) in
    let closed = chosen_closed some.chosen ss order legal (Apart-from_IsDistinct (written (ops_in ss)) writes) orders in
    let fewer = fewer_chosen some.chosen (taken ss) ss order (taken_closed ss) (taken_least ss some.chosen closed) orders in
    let kept = renumbered (marked some.chosen (taken ss) ss) order in
    (kept, serial_from_orders ss kept (subst (λ nodes. Orders nodes kept) (sym (nodes_are ss)) fewer))

pub serial_where_some : (ss : List ClientSession) → IsWellFormedList ss → HasSome ss → HasSerial ss
serial_where_some ss well = serial_where_distinct ss well.legal (rules_where_no_fault 1 ss well.sessions).writes

pub some_where_serial : (ss : List ClientSession) → HasSerial ss → HasSome ss
some_where_serial ss (order, serial) =
    let orders = subst (λ nodes. Orders nodes order) (nodes_are ss ∙ sym (settled_nodes (taken ss) ss)) (orders_from_serial ss order serial) in
    (order, record { chosen = taken ss; serial = serial_from_orders (settled (taken ss) ss) order orders })
