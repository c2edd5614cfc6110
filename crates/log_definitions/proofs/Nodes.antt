-- The operations of the nodes are those of the transactions that count as committed.
use Rattle.log_definitions.proofs.Prelude.{◌≡◌, ℕ, zero, suc, ◌+◌, Bool, List, [], ◌∷◌, ◌++◌, length, Option, Some, None, refl, sym, ap, ◌∙◌, subst, inl, inr, ◌<◌, ◌≤◌, map, slice_get, filter, flat_map, enumerate_from, AllByRecursion, All}
use Rattle.log_definitions.proofs.Prelude.{option_map, option_map_or, cases_Bool, map-append, filter-append, slice_get-map, ClientSession, Transaction, Op, length_mapped, each_of_flat_map, txns_in, ops_in, is_committed, resolved, Committed}
use Rattle.log_definitions.proofs.Prelude.{committed_of, committed_in, node_of, ops_of, IsSerialOrder, log_of, keys_in}
use Rattle.log_definitions.proofs.Settled.{txn_ops, ops_resolved}

-- the transactions that count as committed
abbrev pub kept_in : List ClientSession → List Transaction
kept_in ss = filter is_committed (txns_in (resolved ss))

numbered_ops : (number n : ℕ) (ts : List Transaction) → map (λ (c : Committed). c.ops) (map (λ (p : ℕ × Transaction). record { session = number; place = p.0; ops = p.1.ops; begun = p.1.begun; ended = p.1.ended }) (filter (λ (p : ℕ × Transaction). is_committed p.1) (enumerate_from n ts))) ≡ map txn_ops (filter is_committed ts)
numbered_ops number n [] = refl
numbered_ops number n (t ∷ ts) = elim (cases_Bool (is_committed t)) [
  | inl e ↦ rw e (ap (λ l. t.ops ∷ l) (numbered_ops number (n + 1) ts))
  | inr e ↦ rw e (numbered_ops number (n + 1) ts)
]

pub ops_of_each : (ss : List ClientSession) → map (λ (c : Committed). c.ops) (flat_map committed_of ss) ≡ map txn_ops (filter is_committed (txns_in ss))
ops_of_each [] = refl
ops_of_each (s ∷ ss) =
    map-append (λ (c : Committed). c.ops) (committed_of s) (flat_map committed_of ss)
    ∙ ap (λ l. l ++ map (λ (c : Committed). c.ops) (flat_map committed_of ss)) (numbered_ops s.number 1 s.txns)
    ∙ ap (λ l. map txn_ops (filter is_committed s.txns) ++ l) (ops_of_each ss)
    ∙ sym (map-append txn_ops (filter is_committed s.txns) (filter is_committed (txns_in ss)))
    ∙ ap (map txn_ops) (sym (filter-append is_committed s.txns (txns_in ss)))

committed_ops : (ss : List ClientSession) → map (λ (c : Committed). c.ops) (committed_in ss) ≡ map txn_ops (kept_in ss)
unfolding committed_in
committed_ops ss = ops_of_each (resolved ss)

pub committed_count : (ss : List ClientSession) → length (committed_in ss) ≡ length (kept_in ss)
committed_count ss =
    sym (length_mapped (λ (c : Committed). c.ops) (committed_in ss)) ∙ ap length (committed_ops ss) ∙ length_mapped txn_ops (kept_in ss)

-- node i + 1 has the operations of the i-th of them
map_or-map : {A B : Type 0} (f : A → B) (o : Option A) (d : B) → option_map_or f o d ≡ option_map_or (λ b. b) (option_map f o) d
map_or-map f None d = refl
map_or-map f (Some a) d = refl

pub node_ops : (ss : List ClientSession) (i : ℕ) → ops_of ss (suc i) ≡ option_map_or txn_ops (slice_get (kept_in ss) i) []
unfolding node_of
node_ops ss i =
    map_or-map (λ (c : Committed). c.ops) (slice_get (committed_in ss) i) []
    ∙ ap (λ o. option_map_or (λ b. b) o []) (sym (slice_get-map (λ (c : Committed). c.ops) (committed_in ss) i) ∙ ap (λ l. slice_get l i) (committed_ops ss) ∙ slice_get-map txn_ops (kept_in ss) i)
    ∙ sym (map_or-map txn_ops (slice_get (kept_in ss) i) [])

pub no_ops : (ss : List ClientSession) → ops_of ss 0 ≡ []
unfolding node_of
no_ops ss = refl

-- ---- what holds of each transaction holds of each node
pub each_kept : {X : Type 0} (P : X → Type 0) (p : X → Bool) (xs : List X) → AllByRecursion P xs → AllByRecursion P (filter p xs)
each_kept P p [] h = tt
each_kept P p (x ∷ xs) h = elim (cases_Bool (p x)) [
  | inl e ↦ rw e (h.0, each_kept P p xs h.1)
  | inr e ↦ rw e (each_kept P p xs h.1)
]

pub each_at : {X : Type 0} (P : X → Type 0) (xs : List X) (i : ℕ) (x : X) → AllByRecursion P xs → slice_get xs i ≡ Some x → P x
each_at P [] i x h e = cc
each_at P (y ∷ ys) zero x h e = let same : y ≡ x = cc in subst P same h.0
each_at P (y ∷ ys) (suc i) x h e = each_at P ys i x h.1 e

pub each_op_at : {X : Type 0} (P : Op → Type 0) (ops : X → List Op) (o : Option X) → ((x : X) → o ≡ Some x → AllByRecursion P (ops x)) → AllByRecursion P (option_map_or ops o [])
each_op_at P ops None h = tt
each_op_at P ops (Some x) h = h x refl

pub each_op : (P : Op → Type 0) (ss : List ClientSession) → AllByRecursion P (ops_in ss) → (v : ℕ) → AllByRecursion P (ops_of ss v)
each_op P ss h zero = subst (AllByRecursion P) (sym (no_ops ss)) tt
each_op P ss h (suc i) =
    let Q : Transaction → Type 0 = λ t. AllByRecursion P t.ops in
    let all = subst (AllByRecursion P) (sym (ops_resolved ss)) h in
    let kept = each_kept Q is_committed (txns_in (resolved ss)) (each_of_flat_map P txn_ops (txns_in (resolved ss)) all) in
    subst (AllByRecursion P) (sym (node_ops ss i)) (each_op_at P txn_ops (slice_get (kept_in ss) i) (λ t e. each_at Q (kept_in ss) i t kept e))

pub nodes_of_serial : (ss : List ClientSession) (order : List ℕ) → IsSerialOrder ss order → All (λ v. (0 < v) × (v ≤ (log_of ss).nodes)) order
unfolding log_of
nodes_of_serial ss order s = s.once.only

pub log_keys : (ss : List ClientSession) → (log_of ss).keys ≡ length (keys_in ss)
unfolding log_of
log_keys ss = refl

pub log_nodes : (ss : List ClientSession) → (log_of ss).nodes ≡ length (committed_in ss)
unfolding log_of
log_nodes ss = refl
