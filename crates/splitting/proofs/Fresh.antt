-- The locks' names are new, and a log can hold them.
use Rattle.splitting.proofs.Prelude.{◌≡◌, ℕ, zero, suc, ◌+◌, ◌≤◌, ◌<◌, ◌^◌, Bool, true, false, ◌&&◌, List, [], ◌∷◌, length, map, ◌⊎◌, ap, sym, ◌∙◌, inl, inr, arith, subst, Option, Some, None, cond, replicate, nat_lt, nat_le, ◌↔◌, decimal}
use Rattle.splitting.proofs.Prelude.{AllByRecursion, Contains, list_all, cases_Bool, and_from, length-append, and_first, IsKey, is_key_byte, is_key, ClientSession, IsLegal, IsLegalOp, IsLegalTxn, key_of, Op, Read, Write, place_of, Has}
use Rattle.splitting.proofs.Prelude.{Has-from_Contains, place_within, ops_in, txns_in, resolved, written, keys_in, first_seen, number_in, member, of_mapped, of_flat, test_le, le_true, HasSnapshotOrder, HasPrefixOrder, Locks, HasKey}
use Rattle.splitting.proofs.Prelude.{split_writers, no_locks, leading, most_leading, longest, largest, lock_key, marks, is_long, name_in, widest, locks_of, refusal, no_room, HasRoom}
use Rattle.std.proofs.Math.ListN.{length-replicate}
use Rattle.log_definitions.proofs.Keys.{Listed, all_listed, number_below, same_number}
use Rattle.log_definitions.proofs.Settled.{learnt_resolved, ops_resolved}
use Rattle.log_laws.specs.Logs.{IsLog, HasOrder}
use Rattle.point_laws.proofs.Legal.{split_is_log, resolved_split_is_log}
use Rattle.point_laws.proofs.Points.{snapshot_by_writers}
use Rattle.point_laws.proofs.Fresh.{same_behind}
use Rattle.point_laws.proofs.Prefix.{prefix_by_split, bare_split_log}
use Rattle.point_laws.proofs.Doubled.{same_place}
use Rattle.splitting.specs.Laws.{LocksAreFresh, SnapshotBySplitLog, SnapshotByResolvedSplit, PrefixBySplitLog}
use Rattle.splitting.specs.declared.room.NoRoom.{NoRoom}
use Rattle.splitting.proofs.Greatest.{within_greatest}
use Rattle.splitting.proofs.Decimals.{below_tens, below_wide, fewer_digits, same_decimal, decimal_is_key}

-- ---- keys
begins : (n : ℕ) (key : List ℕ) → n ≤ leading (lock_key n key)
begins zero key = omega arith
begins (suc n) key = let ih = begins n key in omega (arith, ih)

pub lock_same : (n : ℕ) (a b : List ℕ) → lock_key n a ≡ lock_key n b → a ≡ b
lock_same zero a b e = e
lock_same (suc n) a b e = lock_same n a b (same_behind 95 (lock_key n a) (lock_key n b) e)

lock_length : (n : ℕ) (key : List ℕ) → length (lock_key n key) ≡ n + length key
lock_length n key = length-append (replicate n 95) key ∙ ap (λ k. k + length key) (length-replicate n 95)

lock_bytes : (n : ℕ) (key : List ℕ) → list_all is_key_byte key ≡ true → list_all is_key_byte (lock_key n key) ≡ true
unfolding is_key_byte
lock_bytes zero key e = e
lock_bytes (suc n) key e = lock_bytes n key e

and_right : (a b : Bool) → (a && b) ≡ true → b ≡ true
and_right true b e = e
and_right false b e = cc

-- the lock of a key is a key where it has room
pub lock_is_key : (n : ℕ) (key : List ℕ) → IsKey key → n + length key ≤ 64 → IsKey (lock_key n key)
lock_is_key n key h le =
    let front = and_first (nat_le 1 (length key) && nat_le (length key) 64) (list_all is_key_byte key) h in
    let one : 1 ≤ length key = test_le 1 (length key) (and_first (nat_le 1 (length key)) (nat_le (length key) 64) front) in
    let bytes = and_right (nat_le 1 (length key) && nat_le (length key) 64) (list_all is_key_byte key) h in
    let is = lock_length n key in
    and_from (nat_le 1 (length (lock_key n key)) && nat_le (length (lock_key n key)) 64) (list_all is_key_byte (lock_key n key))
    (and_from (nat_le 1 (length (lock_key n key))) (nat_le (length (lock_key n key)) 64) (le_true 1 (length (lock_key n key)) (omega (arith, is, one))) (le_true (length (lock_key n key)) 64 (omega (arith, is, le))))
    (lock_bytes n key bytes)

pub never_none : (text lock : List ℕ) (o : Option (List ℕ)) → text ≡ lock → IsKey lock → o ≡ cond (is_key text) (Some text) None → o ≡ None → ⊥
never_none text lock o e h is none = let yes : is_key text ≡ true = ap is_key e ∙ h in some_none (sym (rw yes at is) ∙ none)
  where
    some_none : {X : Type 0} {x : X} → Some x ≡ None → ⊥
    some_none e = cc

-- ---- room
pub record Room (marks widest largest writes : ℕ) : Type 0 where
  pub keys : marks + widest ≤ 64
  pub identities : largest + writes < 2 ^ 64

room_where : (m k l g w : ℕ) → refusal m k l g w ≡ None → Room m l g w
room_where m k l g w e = elim (cases_Bool (nat_lt 64 (m + l))) [
  | inl a ↦ absurd (some_none (rw a at e))
  | inr a ↦ elim (cases_Bool (nat_lt (g + w) (2 ^ 64))) [
    | inl b ↦ record { keys = not_below 64 (m + l) a; identities = below (g + w) (2 ^ 64) b }
    | inr b ↦ absurd (some_none (rw (a, b) at e))
  ]
]
  where
    some_none : {X : Type 0} {x : X} → Some x ≡ None → ⊥
    some_none e = cc

    not_below : (a b : ℕ) → nat_lt a b ≡ false → b ≤ a
    not_below a b e = grind arith

    below : (a b : ℕ) → nat_lt a b ≡ true → a < b
    below a b e = grind arith

pub room_of : (ss : List ClientSession) → HasRoom ss → Room (marks ss) (widest ss) (largest (ops_in ss)) (length (written (ops_in ss)))
unfolding no_room
room_of ss h = room_where (marks ss) (longest (ops_in ss)) (widest ss) (largest (ops_in ss)) (length (written (ops_in ss))) h

-- ---- what the log has
record WithKey (ss : List ClientSession) (key : List ℕ) : Type 0 where
  pub op : Op
  pub has : Contains (ops_in ss) op
  pub is : key_of op ≡ key

with_key : (ss : List ClientSession) (key : List ℕ) → HasKey ss key → WithKey ss key
with_key ss key h = let m = of_mapped key_of (ops_in ss) key h in record { op = m.0; has = m.1; is = m.2 }

fewer_begin : (ss : List ClientSession) (key : List ℕ) → HasKey ss key → leading key < marks ss
fewer_begin ss key h =
    let m = with_key ss key h in
    let le = within_greatest (λ o. leading (key_of o)) (ops_in ss) m.op m.has in
    let same = ap leading m.is in
    omega (arith, le, same)

legal_key : (o : Op) → IsLegalOp o → IsKey (key_of o)
legal_key (Read key wid) h = h.0
legal_key (Write key wid) h = h.0

legal_ops : (ss : List ClientSession) → AllByRecursion IsLegal ss → (o : Op) → Contains (ops_in ss) o → IsLegalOp o
legal_ops ss h o c =
    let in_txn = of_flat (λ t. t.ops) (txns_in ss) o c in
    let in_session = of_flat (λ s. s.txns) ss in_txn.0 in_txn.1 in
    let session : IsLegal in_session.0 = member IsLegal ss in_session.0 h in_session.1 in
    let txn : IsLegalTxn in_txn.0 = member IsLegalTxn in_session.0.txns in_txn.0 session.txns in_session.2 in
    member IsLegalOp in_txn.0.ops o txn.ops in_txn.2

is_key_of : (ss : List ClientSession) → AllByRecursion IsLegal ss → (key : List ℕ) → HasKey ss key → IsKey key
is_key_of ss h key k = let m = with_key ss key k in subst IsKey m.is (legal_key m.op (legal_ops ss h m.op m.has))

written_within : (ops : List Op) (v : ℕ) → Has v (written ops) → v ≤ largest ops
written_within [] v h = absurd h
written_within (Read key wid ∷ ops) v h = let ih = written_within ops v h in omega (arith, ih)
written_within (Write key wid ∷ ops) v (inl e) = omega (arith, e)
written_within (Write key wid ∷ ops) v (inr h) = let ih = written_within ops v h in omega (arith, ih)

-- ---- the names of keys
-- where they are numbers, these are few
record IsNumbered (ss : List ClientSession) (key : List ℕ) : Type 0 where
  pub within : number_in (keys_in ss) key + 1 ≤ length (keys_in ss)
  pub wide : length (keys_in ss) < 10 ^ 64

numbers_few : (ss : List ClientSession) → HasRoom ss → is_long ss ≡ true → length (decimal (length (keys_in ss))) < 64
numbers_few ss room long = let r = (room_of ss room).keys in let few = rw long at r in omega (arith, few)

listed : (ss : List ClientSession) (o : Op) → Contains (ops_in ss) o → Listed (keys_in ss) (key_of o)
listed ss o c = member (λ o. Listed (keys_in ss) (key_of o)) (ops_in ss) o (all_listed ss) c

listed_key : (ss : List ClientSession) (key : List ℕ) → HasKey ss key → Listed (keys_in ss) key
listed_key ss key h = let m = with_key ss key h in subst (Listed (keys_in ss)) m.is (listed ss m.op m.has)

is_numbered : (ss : List ClientSession) → HasRoom ss → is_long ss ≡ true → (key : List ℕ) → Listed (keys_in ss) key → IsNumbered ss key
is_numbered ss room long key h = record {
  within = (let lt = number_below (keys_in ss) key h in omega (arith, lt));
  wide = (let few = numbers_few ss room long in below_wide 63 (length (keys_in ss)) (omega arith) (below_tens 63 (length (keys_in ss)) (omega arith) (omega (arith, few))));
}

-- the lock of a key of the log has no more bytes than a key may have
pub name_within : (ss : List ClientSession) → HasRoom ss → (o : Op) → Contains (ops_in ss) o → marks ss + length (name_in ss (key_of o)) ≤ 64
name_within ss room o c = go (cases_Bool (is_long ss))
  where
    go : (is_long ss ≡ true) ⊎ (is_long ss ≡ false) → marks ss + length (name_in ss (key_of o)) ≤ 64
    go (inl long) =
        let r = (room_of ss room).keys in
        let few = rw long at r in
        let le = fewer_digits (number_in (keys_in ss) (key_of o) + 1) (length (keys_in ss)) (omega arith) (is_numbered ss room long (key_of o) (listed ss o c)).within (numbers_few ss room long) in
        rw long (omega (arith, few, le))
    go (inr short) =
        let r = (room_of ss room).keys in
        let few = rw short at r in
        let le = within_greatest (λ p. length (key_of p)) (ops_in ss) o c in
        rw short (omega (arith, few, le))

one_name : (ss : List ClientSession) → HasRoom ss → (a b : List ℕ) → HasKey ss a → HasKey ss b → name_in ss a ≡ name_in ss b → a ≡ b
one_name ss room a b h k e = go (cases_Bool (is_long ss))
  where
    go : (is_long ss ≡ true) ⊎ (is_long ss ≡ false) → a ≡ b
    go (inl long) =
        let same : decimal (number_in (keys_in ss) a + 1) ≡ decimal (number_in (keys_in ss) b + 1) = rw long at e in
        let l = listed_key ss a h in
        let p = is_numbered ss room long a l in
        let q = is_numbered ss room long b (listed_key ss b k) in
        let x = p.within in
        let y = q.within in
        let w = p.wide in
        let numbers = same_decimal (number_in (keys_in ss) a + 1) (number_in (keys_in ss) b + 1) (omega (arith, x, w)) (omega (arith, y, w)) same in
        same_number (keys_in ss) a b l (omega (arith, numbers))
    go (inr short) = rw short at e

name_is_key : (ss : List ClientSession) → AllByRecursion IsLegal ss → HasRoom ss → (key : List ℕ) → HasKey ss key → IsKey (name_in ss key)
name_is_key ss legal room key h = go (cases_Bool (is_long ss))
  where
    go : (is_long ss ≡ true) ⊎ (is_long ss ≡ false) → IsKey (name_in ss key)
    go (inl long) =
        let p = is_numbered ss room long key (listed_key ss key h) in
        let x = p.within in
        let w = p.wide in
        let le = fewer_digits (number_in (keys_in ss) key + 1) (length (keys_in ss)) (omega arith) p.within (numbers_few ss room long) in
        let few = numbers_few ss room long in
        rw long (decimal_is_key (number_in (keys_in ss) key + 1) (omega (arith, x, w)) (omega (arith, le, few)))
    go (inr short) = rw short (is_key_of ss legal key h)

-- ---- the laws
pub locks_are_fresh : LocksAreFresh
unfolding locks_of
locks_are_fresh ss legal sound room = (
  record {
    new_key = λ a b h k e. (let le = begins (marks ss) (name_in ss a) in let few = fewer_begin ss b k in let same = ap leading e in omega (arith, le, few, same));
    one_key = λ a b h k e. one_name ss room a b h k (lock_same (marks ss) (name_in ss a) (name_in ss b) e);
    new_identity = λ v w h k e. (let le = written_within (ops_in ss) w (Has-from_Contains (written (ops_in ss)) w k) in omega (arith, le, e));
    one_identity = λ v w h k e. same_place (written (ops_in ss)) v w (Has-from_Contains (written (ops_in ss)) v h) (Has-from_Contains (written (ops_in ss)) w k) (omega (arith, e));
  },
  record {
    key = λ a h. lock_is_key (marks ss) (name_in ss a) (name_is_key ss legal room a h)
        (let m = with_key ss a h in subst (λ k. marks ss + length (name_in ss k) ≤ 64) m.is (name_within ss room m.op m.has));
    identity = λ v h. (let lt = place_within (written (ops_in ss)) v (Has-from_Contains (written (ops_in ss)) v h) in let r = (room_of ss room).identities in (omega arith, omega (arith, lt, r)));
  },
)

pub snapshot_by_split_log : SnapshotBySplitLog
unfolding locks_of
snapshot_by_split_log ss log room =
    let names = locks_are_fresh ss log.legal log.sound room in
    let same : resolved ss ≡ ss = learnt_resolved ss log.learnt in
    ((split_is_log ss (locks_of ss) log names.0 names.1).1, subst (λ l. (HasSnapshotOrder ss ↔ HasOrder (split_writers (locks_of ss) l))) same (snapshot_by_writers ss (locks_of ss) log.sound names.0))

-- ---- where outcomes are unknown: the names are those of the operations alone
same_keys : (a b : List ClientSession) → ops_in a ≡ ops_in b → keys_in a ≡ keys_in b
unfolding keys_in
same_keys a b e = ap (λ (ops : List Op). first_seen [] (map key_of ops)) e

pub same_locks : (a b : List ClientSession) → ops_in a ≡ ops_in b → locks_of a ≡ locks_of b
unfolding locks_of
same_locks a b e = ap (by_ops (keys_in a)) e ∙ ap (λ keys. by_ops keys (ops_in b)) (same_keys a b e)
  where
    by_ops : List (List ℕ) → List Op → Locks
    by_ops keys ops = record {
      key = λ key. lock_key (most_leading ops + 1) (cond (nat_lt 64 (most_leading ops + 1 + longest ops)) (decimal (number_in keys key + 1)) key);
      identity = λ v. largest ops + 1 + place_of (written ops) v;
      taken = true;
    }

pub same_room : (a b : List ClientSession) → ops_in a ≡ ops_in b → no_room a ≡ no_room b
unfolding no_room
same_room a b e = ap (by_ops (keys_in a)) e ∙ ap (λ keys. by_ops keys (ops_in b)) (same_keys a b e)
  where
    by_ops : List (List ℕ) → List Op → Option NoRoom
    by_ops keys ops = refusal (most_leading ops + 1) (longest ops) (cond (nat_lt 64 (most_leading ops + 1 + longest ops)) (length (decimal (length keys))) (longest ops)) (largest ops) (length (written ops))

pub snapshot_by_resolved_split : SnapshotByResolvedSplit
unfolding locks_of
snapshot_by_resolved_split ss legal sound room =
    let same : ops_in (resolved ss) ≡ ops_in ss = ops_resolved ss in
    let names = locks_are_fresh ss legal sound (sym (same_room (resolved ss) ss same) ∙ room) in
    let P : Locks → Type 0 = λ l. IsLog (split_writers l (resolved ss)) × (HasSnapshotOrder ss ↔ HasOrder (split_writers l (resolved ss))) in
    subst P (sym (same_locks (resolved ss) ss same)) ((resolved_split_is_log ss (locks_of ss) legal sound names.0 names.1).1, snapshot_by_writers ss (locks_of ss) sound names.0)

-- ---- without locks
pub prefix_by_split_log : PrefixBySplitLog
prefix_by_split_log ss log =
    let P : List ClientSession → Type 0 = λ l. IsLog (split_writers no_locks l) × (HasPrefixOrder ss ↔ HasOrder (split_writers no_locks l)) in
    subst P (learnt_resolved ss log.learnt) (bare_split_log ss log.legal log.sound, prefix_by_split ss log.sound)
