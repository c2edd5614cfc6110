-- The nodes at places.
use Rattle.level_refutations.proofs.Prelude.{◌≡◌, ℕ, zero, suc, ◌+◌, ◌<◌, ◌≤◌, Bool, true, false, ◌&&◌, ◌||◌, List, [], ◌∷◌, length, Option, Some, None, refl, sym, ap, ◌∙◌, subst, inl, inr, arith, map, slice_get, option_and_then, Contains}
use Rattle.level_refutations.proofs.Prelude.{filter, enumerate_from, list_any, option_map_or, cases_order, and_parts, false≢true, cond-true, same_Some, cond_some, slice_get_within, slice_get-get_or, contains_at, same_item, mapped, some_at}
use Rattle.level_refutations.proofs.Prelude.{ClientSession, Transaction, Op, Apart-from_IsDistinct, is_committed, Committed, committed_of, committed_in, node_of, session_of, ops_of, IsSoundLog, IsLearntLog, nodes_are, is_node, node_at}
use Rattle.level_refutations.proofs.Prelude.{TxnAt, kept_at, txn_at, place, Stands}
use Rattle.log_laws.proofs.Lists.{in_flat, of_flat, kept as kept_by, of_kept, of_mapped}
use Rattle.log_laws.proofs.Orders.{InOrder, pair_at, one_place}
use Rattle.log_laws.proofs.Sessions.{nodes_from, in_order}
use Rattle.level_refutations.specs.Places.{kept}

-- ---- options, tests and lists
pub and_then_some : {A B : Type 0} (f : A → Option B) (o : Option A) (b : B) → option_and_then f o ≡ Some b → (a : A) × (o ≡ Some a) × (f a ≡ Some b)
and_then_some f None b e = cc
and_then_some f (Some a) b e = (a, refl, e)

pub map_or_true : {X : Type 0} (f : X → Bool) (o : Option X) → option_map_or f o false ≡ true → (x : X) × (o ≡ Some x) × (f x ≡ true)
map_or_true f None t = absurd (false≢true t)
map_or_true f (Some x) t = (x, refl, t)

pub four_parts : (a b c d : Bool) → (a && (b && (c && d))) ≡ true → (a ≡ true) × (b ≡ true) × (c ≡ true) × (d ≡ true)
four_parts a b c d t =
    let p = and_parts a (b && (c && d)) t in
    let q = and_parts b (c && d) p.1 in
    let r = and_parts c d q.1 in
    (p.0, q.0, r.0, r.1)

pub any_map : {X Y : Type 0} (p : Y → Bool) (f : X → Y) (xs : List X) → list_any p (map f xs) ≡ list_any (λ x. p (f x)) xs
any_map p f [] = refl
any_map p f (x ∷ xs) = ap (λ b. p (f x) || b) (any_map p f xs)

pub index_of : {X : Type 0} (xs : List X) (x : X) → Contains xs x → (i : ℕ) × (slice_get xs i ≡ Some x)
index_of xs x c = (c.0, slice_get-get_or xs c.0 x c.1 ∙ ap Some c.2)

-- an item with its number
pub numbered_at : {X : Type 0} (n i j : ℕ) (xs : List X) (x : X) → slice_get xs i ≡ Some x → n + i ≡ j → slice_get (enumerate_from n xs) i ≡ Some (j, x)
numbered_at n i j [] x e f = cc
numbered_at n zero j (y ∷ xs) x e f = let here : n ≡ j = omega (arith, f) in ap (λ k. Some (k, y)) here ∙ ap (λ z. Some (j, z)) (same_Some y x e)
numbered_at n (suc i) j (y ∷ xs) x e f = numbered_at (n + 1) i j xs x e (omega (arith, f))

pub of_numbered : {X : Type 0} (n i : ℕ) (xs : List X) (p : ℕ × X) → slice_get (enumerate_from n xs) i ≡ Some p → (slice_get xs i ≡ Some p.1) × (p.0 ≡ n + i)
of_numbered n i [] p e = cc
of_numbered n zero (y ∷ xs) p e = let same = same_Some (n, y) p e in let here : n ≡ n + 0 = omega arith in (ap (λ q. Some q.1) same, sym (ap (λ q. q.0) same) ∙ here)
of_numbered n (suc i) (y ∷ xs) p e = let r = of_numbered (n + 1) i xs p e in let number = r.1 in (r.0, omega (arith, number))

-- ---- the transaction at a place
pub record At (ss : List ClientSession) (at : TxnAt) (t : Transaction) : Type 0 where
  pub session : ClientSession
  pub picked : slice_get ss at.session ≡ Some session
  pub stands : slice_get session.txns at.txn ≡ Some t
  pub committed : is_committed t ≡ true

pub at_place : (ss : List ClientSession) (at : TxnAt) (t : Transaction) → txn_at ss at ≡ Some t → At ss at t
at_place ss at t e =
    let s = and_then_some (λ (s : ClientSession). kept_at s.txns at.txn) (slice_get ss at.session) t e in
    let u = and_then_some kept (slice_get s.0.txns at.txn) t s.2 in
    let k = cond_some (is_committed u.0) u.0 t u.2 in
    record { session = s.0; picked = s.1; stands = u.1 ∙ ap Some k.1; committed = ap is_committed (sym k.1) ∙ k.0 }

pub found_at : (ss : List ClientSession) (i j : ℕ) (s : ClientSession) (t : Transaction) → slice_get ss i ≡ Some s → slice_get s.txns j ≡ Some t → is_committed t ≡ true → txn_at ss (place i j) ≡ Some t
found_at ss i j s t e f c = ap (option_and_then (λ (x : ClientSession). kept_at x.txns j)) e ∙ ap (option_and_then kept) f ∙ cond-true (is_committed t) (Some t) None c

-- ---- its node
abbrev made : ℕ → ℕ × Transaction → Committed
made number p = node_at number p.0 p.1

abbrev is_kept : ℕ × Transaction → Bool
is_kept p = is_committed p.1

node_from : (number n i j : ℕ) (ts : List Transaction) (t : Transaction) → slice_get ts i ≡ Some t → is_committed t ≡ true → n + i ≡ j → Contains (nodes_from number n ts) (node_at number j t)
node_from number n i j ts t e c f =
    let all = enumerate_from n ts in
    mapped (made number) (filter is_kept all) (j, t) (kept_by is_kept all (j, t) (contains_at all i (j, t) (numbered_at n i j ts t e f)) c)

place_from : (number n : ℕ) (ts : List Transaction) (c : Committed) → Contains (nodes_from number n ts) c → (i : ℕ) × (t : Transaction) × (slice_get ts i ≡ Some t) × (is_committed t ≡ true) × (c ≡ node_at number (n + i) t)
place_from number n ts c d =
    let all = enumerate_from n ts in
    let m = of_mapped (made number) (filter is_kept all) c d in
    let k = of_kept is_kept all m.0 m.1 in
    let x = index_of all m.0 k.0 in
    let w = of_numbered n x.0 ts m.0 x.1 in
    (x.0, m.0.1, w.0, k.1, sym m.2 ∙ ap (λ j. node_at number j m.0.1) w.1)

node_there : (ss : List ClientSession) (k : ℕ) (c : Committed) → slice_get (committed_in ss) k ≡ Some c → node_of ss (suc k) ≡ Some c
unfolding node_of
node_there ss k c e = e

pub standing : (ss : List ClientSession) (at : TxnAt) (t : Transaction) → IsLearntLog ss → txn_at ss at ≡ Some t → (v : ℕ) × Stands ss at v
standing ss at t learnt e =
    let p = at_place ss at t e in
    let node = node_at p.session.number (at.txn + 1) t in
    let here : Contains (committed_of p.session) node = node_from p.session.number 1 at.txn (at.txn + 1) p.session.txns t p.stands p.committed (omega arith) in
    let all = in_flat committed_of ss p.session node (contains_at ss at.session p.session p.picked) here in
    let k = index_of (committed_in ss) node (subst (λ l. Contains l node) (sym (nodes_are ss learnt)) all) in
    (suc k.0, record { session = p.session; txn = t; picked = p.picked; found = e; node = node_there ss k.0 node k.1 })

-- ---- what is known of it
pub ops_are : (ss : List ClientSession) (at : TxnAt) (v : ℕ) (s : Stands ss at v) → ops_of ss v ≡ s.txn.ops
ops_are ss at v s = ap (λ o. option_map_or (λ (c : Committed). c.ops) o []) s.node

pub session_is : (ss : List ClientSession) (at : TxnAt) (v : ℕ) (s : Stands ss at v) → session_of ss v ≡ s.session.number
session_is ss at v s = ap (λ o. option_map_or (λ (c : Committed). c.session) o 0) s.node

-- a node is numbered from 1
record Numbered (ss : List ClientSession) (v : ℕ) (c : Committed) : Type 0 where
  pub index : ℕ
  pub number : v ≡ suc index
  pub stands : slice_get (committed_in ss) index ≡ Some c

numbered : (ss : List ClientSession) (v : ℕ) (c : Committed) → node_of ss v ≡ Some c → Numbered ss v c
unfolding node_of
numbered ss zero c e = cc
numbered ss (suc k) c e = record { index = k; number = refl; stands = e }

by_place : (ss : List ClientSession) → IsSoundLog ss → IsLearntLog ss → InOrder (committed_in ss)
by_place ss sound learnt = subst InOrder (sym (nodes_are ss learnt)) (in_order ss (Apart-from_IsDistinct (map (λ (s : ClientSession). s.number) ss) sound.sessions))

-- a place has one node
pub one_node : (ss : List ClientSession) (at : TxnAt) (u v : ℕ) → IsSoundLog ss → IsLearntLog ss → Stands ss at u → Stands ss at v → u ≡ v
one_node ss at u v sound learnt s r =
    let a = same_item ss at.session s.session r.session s.picked r.picked in
    let b = same_Some s.txn r.txn (sym s.found ∙ r.found) in
    let node = node_at s.session.number (at.txn + 1) s.txn in
    let same : node_at r.session.number (at.txn + 1) r.txn ≡ node = ap (λ (x : ClientSession). node_at x.number (at.txn + 1) r.txn) (sym a) ∙ ap (node_at s.session.number (at.txn + 1)) (sym b) in
    let x = numbered ss u node s.node in
    let y = numbered ss v node (r.node ∙ ap Some same) in
    x.number ∙ ap suc (one_place (committed_in ss) x.index y.index node (by_place ss sound learnt) x.stands y.stands) ∙ sym y.number

-- of one session, the one with the lower number has the lower place there
pub lower : (ss : List ClientSession) (a b : TxnAt) (u v : ℕ) → IsSoundLog ss → IsLearntLog ss → (s : Stands ss a u) (r : Stands ss b v) → s.session.number ≡ r.session.number → u < v → a.txn < b.txn
lower ss a b u v sound learnt s r e lt =
    let one = node_at s.session.number (a.txn + 1) s.txn in
    let other = node_at r.session.number (b.txn + 1) r.txn in
    let x = numbered ss u one s.node in
    let y = numbered ss v other r.node in
    let f = x.number in
    let g = y.number in
    let less : x.index < y.index = omega (arith, f, g, lt) in
    let places : a.txn + 1 < b.txn + 1 = pair_at (λ c d. c.session ≡ d.session → c.place < d.place) (committed_in ss) x.index y.index one other (by_place ss sound learnt) x.stands y.stands less e in
    omega (arith, places)

-- and the other way round
pub in_session : (ss : List ClientSession) (a b : TxnAt) (u v : ℕ) → IsSoundLog ss → IsLearntLog ss → Stands ss a u → Stands ss b v → a.session ≡ b.session → a.txn < b.txn → u < v
in_session ss a b u v sound learnt s r e lt =
    let session = same_item ss b.session s.session r.session (ap (slice_get ss) (sym e) ∙ s.picked) r.picked in
    let number : r.session.number ≡ s.session.number = ap (λ (z : ClientSession). z.number) (sym session) in
    elim (cases_order u v) [
      | inl same ↦
          let nodes = same_Some (node_at s.session.number (a.txn + 1) s.txn) (node_at r.session.number (b.txn + 1) r.txn) (sym s.node ∙ ap (node_of ss) same ∙ r.node) in
          let places : a.txn + 1 ≡ b.txn + 1 = ap (λ (c : Committed). c.place) nodes in
          absurd (omega (arith, places, lt))
      | inr apart ↦ elim apart [
        | inl less ↦ less
        | inr more ↦ let back = lower ss b a v u sound learnt r s number more in absurd (omega (arith, back, lt))
      ]
    ]

-- the node of a session's transaction is one of 1 to n
pub within : (ss : List ClientSession) (at : TxnAt) (v : ℕ) → Stands ss at v → (0 < v) × (v ≤ length (committed_in ss))
within ss at v s =
    let x = numbered ss v (node_at s.session.number (at.txn + 1) s.txn) s.node in
    let lt = slice_get_within (committed_in ss) x.index (node_at s.session.number (at.txn + 1) s.txn) x.stands in
    let e = x.number in
    (omega (arith, e), omega (arith, e, lt))

-- ---- its place
place_of_node : (ss : List ClientSession) (v : ℕ) (c : Committed) → IsLearntLog ss → node_of ss v ≡ Some c → (at : TxnAt) × Stands ss at v
place_of_node ss v c learnt e =
    let x = numbered ss v c e in
    let f = of_flat committed_of ss c (subst (λ l. Contains l c) (nodes_are ss learnt) (contains_at (committed_in ss) x.index c x.stands)) in
    let s = index_of ss f.0 f.1 in
    let p = place_from f.0.number 1 f.0.txns c f.2 in
    let number : 1 + p.0 ≡ p.0 + 1 = omega arith in
    (place s.0 p.0, record { session = f.0; txn = p.1; picked = s.1; found = found_at ss s.0 p.0 f.0 p.1 s.1 p.2 p.3; node = e ∙ ap Some (p.4 ∙ ap (λ j. node_at f.0.number j p.1) number) })

-- of one of 1 to n
pub place_within : (ss : List ClientSession) (v : ℕ) → IsLearntLog ss → 0 < v → v ≤ length (committed_in ss) → (at : TxnAt) × Stands ss at v
place_within ss zero learnt low high = absurd (omega (arith, low))
place_within ss (suc i) learnt low high =
    let c = some_at (committed_in ss) i (omega (arith, high)) in
    place_of_node ss (suc i) c.0 learnt (node_there ss i c.0 c.1)

-- of one with operations
pub place_with : (ss : List ClientSession) (v : ℕ) (op : Op) → IsLearntLog ss → Contains (ops_of ss v) op → (at : TxnAt) × Stands ss at v
place_with ss v op learnt c = let is = is_node ss v op c in place_within ss v learnt is.0 is.1
