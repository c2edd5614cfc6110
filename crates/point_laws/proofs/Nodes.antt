-- The nodes of the split log: two for each node of the log.
use Rattle.point_laws.proofs.Prelude.{◌≡◌, ℕ, zero, suc, ◌+◌, ◌*◌, ◌-◌, ◌<◌, ◌≤◌, false, List, [], ◌∷◌, ◌++◌, length, Option, Some, None, refl, sym, ap, ◌∙◌, subst, inl, inr, arith, slice_get, option_and_then, flat_map, AllByRecursion}
use Rattle.point_laws.proofs.Prelude.{Contains, option_map, option_map_or, cases_Bool, flat_map-append, contains_at, is_earlier, ClientSession, Transaction, Op, Has, Apart, is_committed, txns_in, ops_in, resolved, written, Committed}
use Rattle.point_laws.proofs.Prelude.{committed_of, committed_in, node_in, node_of, ops_of, begun_of, ended_of, themselves, learnt_resolved, txn_ops, WriteOnce, WriteOnce-filter, once_resolved, apart_at, one_writer, IsLearntLog, nodes_from}
use Rattle.point_laws.proofs.Prelude.{nodes_of, ordered_node, Locks, start_ops, end_ops, split_txn, split}
use Rattle.log_definitions.proofs.Nodes.{kept_in, node_ops, no_ops, each_op}

-- ---- the two nodes of one
abbrev pub start_node : Locks → Committed → Committed
start_node locks c = record { session = c.session; place = 2 * c.place - 1; ops = start_ops locks c.ops; begun = c.begun; ended = None }

abbrev pub end_node : Locks → Committed → Committed
end_node locks c = record { session = c.session; place = 2 * c.place; ops = end_ops locks c.ops; begun = None; ended = c.ended }

abbrev pub both_nodes : Locks → Committed → List Committed
both_nodes locks c = start_node locks c ∷ end_node locks c ∷ []

split_from : (locks : Locks) (number n : ℕ) (ts : List Transaction) → 0 < n → nodes_from number (2 * n - 1) (flat_map (split_txn locks) ts) ≡ flat_map (both_nodes locks) (nodes_from number n ts)
split_from locks number n [] lo = refl
split_from locks number n (t ∷ ts) lo =
    let at : (2 * n - 1) + 1 ≡ 2 * n = omega arith in
    let next : ((2 * n - 1) + 1) + 1 ≡ 2 * (n + 1) - 1 = omega arith in
    let behind = flat_map (split_txn locks) ts in
    let ih : nodes_from number (((2 * n - 1) + 1) + 1) behind ≡ flat_map (both_nodes locks) (nodes_from number (n + 1) ts) =
    ap (λ m. nodes_from number m behind) next ∙ split_from locks number (n + 1) ts (omega arith) in
    let start : Committed = record { session = number; place = 2 * n - 1; ops = start_ops locks t.ops; begun = t.begun; ended = None } in
    let end_at : ℕ → Committed = λ m. record { session = number; place = m; ops = end_ops locks t.ops; begun = None; ended = t.ended } in
    elim (cases_Bool (is_committed t)) [
      | inl e ↦ rw e (ap (λ m. start ∷ end_at m ∷ nodes_from number (((2 * n - 1) + 1) + 1) behind) at ∙ ap (λ l. start ∷ end_at (2 * n) ∷ l) ih)
      | inr e ↦ rw e ih
    ]

pub split_nodes : (locks : Locks) (ss : List ClientSession) → nodes_of (split locks ss) ≡ flat_map (both_nodes locks) (nodes_of ss)
split_nodes locks [] = refl
split_nodes locks (s ∷ ss) =
    ap (λ l. l ++ nodes_of (split locks ss)) (split_from locks s.number 1 s.txns (omega arith))
    ∙ ap (λ l. flat_map (both_nodes locks) (committed_of s) ++ l) (split_nodes locks ss)
    ∙ sym (flat_map-append (both_nodes locks) (committed_of s) (nodes_of ss))

-- ---- where outcomes are known
pub nodes_are : (ss : List ClientSession) → IsLearntLog ss → committed_in ss ≡ nodes_of ss
unfolding committed_in
nodes_are ss h = ap (flat_map committed_of) (learnt_resolved ss h)

-- ---- what is made of nodes
pub session_kept : (f : Committed → Committed) → ((c : Committed) → (f c).session ≡ c.session) → (o : Option Committed) → option_map_or (λ (c : Committed). c.session) (option_map f o) 0 ≡ option_map_or (λ (c : Committed). c.session) o 0
session_kept f h None = refl
session_kept f h (Some c) = h c

pub ops_kept : (f : Committed → Committed) (g : List Op → List Op) → g [] ≡ [] → ((c : Committed) → (f c).ops ≡ g c.ops) → (o : Option Committed) → option_map_or (λ (c : Committed). c.ops) (option_map f o) [] ≡ g (option_map_or (λ (c : Committed). c.ops) o [])
ops_kept f g e h None = sym e
ops_kept f g e h (Some c) = h c

-- ---- operations of nodes
at_node : (nodes : List Committed) (i : ℕ) (o : Op) → Contains (option_map_or (λ (c : Committed). c.ops) (slice_get nodes i) []) o → i < length nodes
at_node [] i o c = absurd (omega (arith, c.1))
at_node (n ∷ nodes) zero o c = omega arith
at_node (n ∷ nodes) (suc i) o c = let lt = at_node nodes i o c in omega (arith, lt)

pub is_node : (ss : List ClientSession) (v : ℕ) (o : Op) → Contains (ops_of ss v) o → (0 < v) × (v ≤ length (committed_in ss))
unfolding node_of
is_node ss zero o c = absurd (omega (arith, c.1))
is_node ss (suc i) o c = let lt = at_node (committed_in ss) i o c in (omega arith, omega (arith, lt))

pub op_in_log : (ss : List ClientSession) (v : ℕ) → AllByRecursion (Contains (ops_in ss)) (ops_of ss v)
op_in_log ss v = each_op (Contains (ops_in ss)) ss (themselves (ops_in ss)) v

-- no identity is written by two nodes
one_of : (ts : List Transaction) (i j w : ℕ) → WriteOnce ts → Has w (written (option_map_or txn_ops (slice_get ts i) [])) → Has w (written (option_map_or txn_ops (slice_get ts j) [])) → i ≡ j
one_of ts i j w once a b = go (slice_get ts i) refl (slice_get ts j) refl a b
  where
    go : (x : Option Transaction) → slice_get ts i ≡ x → (y : Option Transaction) → slice_get ts j ≡ y → Has w (written (option_map_or txn_ops x [])) → Has w (written (option_map_or txn_ops y [])) → i ≡ j
    go None e y f h k = absurd h
    go (Some t) e None f h k = absurd k
    go (Some t) e (Some u) f h k = one_writer ts i j t u w once e f h k

pub one_node : (ss : List ClientSession) → Apart (written (ops_in ss)) → (u v w : ℕ) → Has w (written (ops_of ss u)) → Has w (written (ops_of ss v)) → u ≡ v
one_node ss apart zero v w a b = absurd (subst (λ ops. Has w (written ops)) (no_ops ss) a)
one_node ss apart (suc i) zero w a b = absurd (subst (λ ops. Has w (written ops)) (no_ops ss) b)
one_node ss apart (suc i) (suc j) w a b =
    ap suc (one_of (kept_in ss) i j w (WriteOnce-filter is_committed (txns_in (resolved ss)) (once_resolved ss apart))
    (subst (λ ops. Has w (written ops)) (node_ops ss i) a) (subst (λ ops. Has w (written ops)) (node_ops ss j) b))

-- nor twice by one
pub apart_node : (ss : List ClientSession) → Apart (written (ops_in ss)) → (v : ℕ) → Apart (written (ops_of ss v))
apart_node ss apart zero = subst (λ ops. Apart (written ops)) (sym (no_ops ss)) tt
apart_node ss apart (suc i) = subst (λ ops. Apart (written ops)) (sym (node_ops ss i)) (go (slice_get (kept_in ss) i) refl)
  where
    go : (o : Option Transaction) → slice_get (kept_in ss) i ≡ o → Apart (written (option_map_or txn_ops o []))
    go None e = tt
    go (Some t) e = apart_at (kept_in ss) i t (WriteOnce-filter is_committed (txns_in (resolved ss)) (once_resolved ss apart)) e

-- no node ended before it began
ordered_in : (nodes : List Committed) → ((c : Committed) → Contains nodes c → is_earlier c.ended c.begun ≡ false) → (v : ℕ) → is_earlier (option_and_then (λ (c : Committed). c.ended) (node_in nodes v)) (option_and_then (λ (c : Committed). c.begun) (node_in nodes v)) ≡ false
ordered_in nodes h zero = refl
ordered_in nodes h (suc i) = go (slice_get nodes i) refl
  where
    go : (o : Option Committed) → slice_get nodes i ≡ o → is_earlier (option_and_then (λ (c : Committed). c.ended) o) (option_and_then (λ (c : Committed). c.begun) o) ≡ false
    go None e = refl
    go (Some c) e = h c (contains_at nodes i c e)

pub ordered_at : (ss : List ClientSession) → IsLearntLog ss → AllByRecursion (λ t. is_earlier t.ended t.begun ≡ false) (txns_in ss) → (v : ℕ) → is_earlier (ended_of ss v) (begun_of ss v) ≡ false
unfolding node_of
ordered_at ss learnt h v = ordered_in (committed_in ss) (λ c d. ordered_node ss h c (subst (λ l. Contains l c) (nodes_are ss learnt) d)) v
