-- Identities, and operations of nodes and of sessions.
use Rattle.log_laws.proofs.Prelude.{◌≡◌, ℕ, zero, suc, ◌+◌, false, List, [], ◌∷◌, ◌++◌, map, refl, sym, ap, ◌∙◌, subst, inl, inr, arith, filter, flat_map, AllByRecursion, Contains, cases_Bool, cases_order, is_earlier, ClientSession}
use Rattle.log_laws.proofs.Prelude.{Transaction, Op, Has, Apart, Has-append_front, Has-append_back, Apart-not_both, each_of_flat_map, each_from_flat_map, is_committed, txns_in, ops_in, committed_ops, written, Committed, committed_of}
use Rattle.log_laws.proofs.Prelude.{member, themselves, each_weaker, txn_ops, ops_of_each, each_kept, Apart-from_IsDistinct, IsSoundLog}
use Rattle.std.proofs.lemmas.List.Concat.{flat_map-append}
use Rattle.std.proofs.lemmas.List.Folds.{flat_map-map}
use Rattle.log_definitions.proofs.Scanning.{written-append}
use Rattle.log_definitions.proofs.Identities.{Apart_front, Apart_back}
use Rattle.log_laws.proofs.Lines.{EachPair, ops_along}
use Rattle.log_laws.proofs.Sessions.{Firsts, node_at, nodes_from, nodes_of, each_node, unshift}
use Rattle.log_laws.proofs.Lists.{of_flat, EachPair-append}
use Rattle.log_laws.proofs.Moments.{place_in, one_node}
use Rattle.log_laws.proofs.Orders.{pair_at}

-- ---- operations of nodes are those of committed transactions
pub ops_of_nodes : (ss : List ClientSession) → ops_along (nodes_of ss) ≡ committed_ops ss
ops_of_nodes ss =
    sym (flat_map-map (λ (ops : List Op). ops) (λ (c : Committed). c.ops) (nodes_of ss))
    ∙ ap (flat_map (λ ops. ops)) (ops_of_each ss)
    ∙ flat_map-map (λ (ops : List Op). ops) txn_ops (filter is_committed (txns_in ss))

pub ops_unshifted : (cut : Firsts) (line : List Committed) → ops_along (map (unshift cut) line) ≡ ops_along line
ops_unshifted cut [] = refl
ops_unshifted cut (c ∷ line) = ap (λ l. c.ops ++ l) (ops_unshifted cut line)

pub committed_within : (ss : List ClientSession) (o : Op) → Contains (committed_ops ss) o → Contains (ops_in ss) o
committed_within ss o c =
    let P : Op → Type 0 = Contains (ops_in ss) in
    let Q : Transaction → Type 0 = λ t. AllByRecursion P t.ops in
    member P (committed_ops ss) o (each_from_flat_map P txn_ops (filter is_committed (txns_in ss)) (each_kept Q is_committed (txns_in ss) (each_of_flat_map P txn_ops (txns_in ss) (themselves (ops_in ss))))) c

-- ---- identities that are written

front : (w : ℕ) (a b : List Op) → Has w (written a) → Has w (written (a ++ b))
front w a b h = subst (Has w) (sym (written-append a b)) (Has-append_front w (written a) (written b) h)

back : (w : ℕ) (a b : List Op) → Has w (written b) → Has w (written (a ++ b))
back w a b h = subst (Has w) (sym (written-append a b)) (Has-append_back w (written a) (written b) h)

pub not_both : (w : ℕ) (a b : List Op) → Apart (written (a ++ b)) → Has w (written a) → Has w (written b) → ⊥
not_both w a b h = Apart-not_both w (written a) (written b) (subst Apart (written-append a b) h)

pub once_front : (a b : List Op) → Apart (written (a ++ b)) → Apart (written a)
once_front a b h = Apart_front (written a) (written b) (subst Apart (written-append a b) h)

pub once_back : (a b : List Op) → Apart (written (a ++ b)) → Apart (written b)
once_back a b h = Apart_back (written a) (written b) (subst Apart (written-append a b) h)

-- ---- of the transactions of the first part and of the rest
abbrev pub ops_by : List Transaction → List Op
ops_by ts = flat_map (λ (t : Transaction). t.ops) ts

pub ops_in-cons : (s : ClientSession) (ss : List ClientSession) → ops_in (s ∷ ss) ≡ ops_by s.txns ++ ops_in ss
ops_in-cons s ss = flat_map-append (λ (t : Transaction). t.ops) s.txns (txns_in ss)

-- ---- no identity is written by two nodes
abbrev Differ : Committed → Committed → Type 0
Differ a b = (w : ℕ) → Has w (written a.ops) → Has w (written b.ops) → ⊥

txn_wrote : (w : ℕ) (ts : List Transaction) (t : Transaction) → Contains ts t → Has w (written t.ops) → Has w (written (ops_by ts))
txn_wrote w [] t c h = absurd (omega (arith, c.1))
txn_wrote w (u ∷ ts) t (zero, lt, e) h = front w u.ops (ops_by ts) (subst (λ (x : Transaction). Has w (written x.ops)) (sym e) h)
txn_wrote w (u ∷ ts) t (suc i, lt, e) h = back w u.ops (ops_by ts) (txn_wrote w ts t (i, omega (arith, lt), e) h)

abbrev WroteIn : List Op → Committed → Type 0
WroteIn ops c = (w : ℕ) → Has w (written c.ops) → Has w (written ops)

nodes_wrote : (number n : ℕ) (ts : List Transaction) → AllByRecursion (WroteIn (ops_by ts)) (nodes_from number n ts)
nodes_wrote number n ts = each_node (WroteIn (ops_by ts)) number n ts (λ i t lo c e w h. txn_wrote w ts t c h)

all_wrote : (ss : List ClientSession) (c : Committed) → Contains (nodes_of ss) c → WroteIn (ops_in ss) c
all_wrote [] c d w h = absurd (omega (arith, d.1))
all_wrote (s ∷ ss) c d w h =
    let r = of_flat committed_of (s ∷ ss) c d in
    let one = member (WroteIn (ops_by r.0.txns)) (committed_of r.0) c (nodes_wrote r.0.number 1 r.0.txns) r.2 w h in
    session_wrote (s ∷ ss) r.0 r.1 one
  where
    session_wrote : (xs : List ClientSession) (x : ClientSession) → Contains xs x → Has w (written (ops_by x.txns)) → Has w (written (ops_in xs))
    session_wrote [] x k has = absurd (omega (arith, k.1))
    session_wrote (y ∷ ys) x (zero, lt, e) has =
        subst (λ ops. Has w (written ops)) (sym (ops_in-cons y ys)) (front w (ops_by y.txns) (ops_in ys) (subst (λ (z : ClientSession). Has w (written (ops_by z.txns))) (sym e) has))
    session_wrote (y ∷ ys) x (suc i, lt, e) has =
        subst (λ ops. Has w (written ops)) (sym (ops_in-cons y ys)) (back w (ops_by y.txns) (ops_in ys) (session_wrote ys x (i, omega (arith, lt), e) has))

nodes_differ : (number n : ℕ) (ts : List Transaction) → Apart (written (ops_by ts)) → EachPair Differ (nodes_from number n ts)
nodes_differ number n [] h = tt
nodes_differ number n (t ∷ ts) h = elim (cases_Bool (is_committed t)) [
  | inl e ↦ rw e (each_weaker (WroteIn (ops_by ts)) (Differ (node_at number n t)) (λ c f w a b. not_both w t.ops (ops_by ts) h a (f w b)) (nodes_from number (n + 1) ts) (nodes_wrote number (n + 1) ts), nodes_differ number (n + 1) ts (once_back t.ops (ops_by ts) h))
  | inr e ↦ rw e (nodes_differ number (n + 1) ts (once_back t.ops (ops_by ts) h))
]

all_differ : (ss : List ClientSession) → Apart (written (ops_in ss)) → EachPair Differ (nodes_of ss)
all_differ [] h = tt
all_differ (s ∷ ss) h =
    let all = subst (λ ops. Apart (written ops)) (ops_in-cons s ss) h in
    EachPair-append Differ (committed_of s) (nodes_of ss) (nodes_differ s.number 1 s.txns (once_front (ops_by s.txns) (ops_in ss) all)) (all_differ ss (once_back (ops_by s.txns) (ops_in ss) all))
    (λ x y c d w a b. not_both w (ops_by s.txns) (ops_in ss) all (member (WroteIn (ops_by s.txns)) (committed_of s) x (nodes_wrote s.number 1 s.txns) c w a) (all_wrote ss y d w b))

pub one_writer : (ss : List ClientSession) → Apart (written (ops_in ss)) → (a b : Committed) (w : ℕ) → Contains (nodes_of ss) a → Contains (nodes_of ss) b → Has w (written a.ops) → Has w (written b.ops) → b ≡ a
one_writer ss h a b w c d p q =
    let x = place_in (nodes_of ss) a c in
    let y = place_in (nodes_of ss) b d in
    elim (cases_order x.0 y.0) [
      | inl same ↦ one_node (nodes_of ss) y.0 x.0 b a y.1 x.1 (sym same)
      | inr apart ↦ elim apart [
        | inl less ↦ absurd (pair_at Differ (nodes_of ss) x.0 y.0 a b (all_differ ss h) x.1 y.1 less w p q)
        | inr more ↦ absurd (pair_at Differ (nodes_of ss) y.0 x.0 b a (all_differ ss h) y.1 x.1 more w q p)
      ]
    ]

-- ---- nodes of sound sessions
abbrev pub IsOrdered : Transaction → Type 0
IsOrdered t = is_earlier t.ended t.begun ≡ false

pub ordered_node : (ss : List ClientSession) → AllByRecursion IsOrdered (txns_in ss) → (c : Committed) → Contains (nodes_of ss) c → is_earlier c.ended c.begun ≡ false
ordered_node ss ordered c d =
    let r = of_flat committed_of ss c d in
    let each = each_of_flat_map IsOrdered (λ (s : ClientSession). s.txns) ss ordered in
    let txns = member (λ (s : ClientSession). AllByRecursion IsOrdered s.txns) ss r.0 each r.1 in
    member (λ (n : Committed). is_earlier n.ended n.begun ≡ false) (committed_of r.0) c
    (each_node (λ (n : Committed). is_earlier n.ended n.begun ≡ false) r.0.number 1 r.0.txns (λ i t lo e k. member IsOrdered r.0.txns t txns e)) r.2

pub all_writes : (ss : List ClientSession) → IsSoundLog ss → Apart (written (ops_in ss))
all_writes ss log = (Apart-from_IsDistinct (0 ∷ written (ops_in ss)) log.writes).1
