-- The log in which each transaction is split in two, its reads from the snapshot and its rest, and
-- the laws of it.
use Rattle.std.specs.Prelude.{◌≡◌, ◌≢◌, ◌↔◌, ℕ, ◌<◌, ◌^◌, if◌then◌else◌, List, [], ◌∷◌, ◌++◌, map, None, Bool, true, false, ◌&&◌}
use Rattle.std.specs.List.{flat_map, list_any, AllByRecursion, Contains}
use Rattle.session_log.specs.Key.{IsKey}
use Rattle.session_log.specs.Text.{ClientSession, Transaction, IsLegal, is_write, key_of}
use Rattle.session_log.specs.declared.session.Op.{Op}
use Rattle.session_log.specs.declared.session.Op.TheVariants.{Read, Write}
use Rattle.log_definitions.specs.Unknown.{is_committed, ops_in, resolved}
use Rattle.log_definitions.specs.WellFormed.{written}
use Rattle.log_definitions.specs.Serial.{IsSerialOrder}
use Rattle.log_laws.specs.Logs.{IsSoundLog, IsLearntLog, IsLog, HasOrder}
use Rattle.point_laws.specs.Snapshot.{is_in, snapshot_reads, rest, Point, number, IsPointOrder, HasPointOrder, HasSomePointOrder}

-- ---- locks

-- How locks are named: the lock of each key is a key, and a transaction takes the lock of a key
-- under an identity that is named after that of its first write of the key. And whether locks are
-- taken: for prefix consistency none is.
pub record Locks : Type 0 where
  pub key : List ℕ → List ℕ
  pub identity : ℕ → ℕ
  pub taken : Bool

abbrev pub HasKey : List ClientSession → List ℕ → Type 0
HasKey ss key = Contains (map key_of (ops_in ss)) key

abbrev pub HasWritten : List ClientSession → ℕ → Type 0
HasWritten ss wid = Contains (written (ops_in ss)) wid

-- The lock of each key of the log is a key that the log has not, and the identity under which it is
-- taken one that the log does not write; no two keys have one lock, and no two identities one.
pub record AreFresh (locks : Locks) (ss : List ClientSession) : Type 0 where
  pub new_key : (a b : List ℕ) → HasKey ss a → HasKey ss b → locks.key a ≢ b
  pub one_key : (a b : List ℕ) → HasKey ss a → HasKey ss b → locks.key a ≡ locks.key b → a ≡ b
  pub new_identity : (v w : ℕ) → HasWritten ss v → HasWritten ss w → locks.identity v ≢ w
  pub one_identity : (v w : ℕ) → HasWritten ss v → HasWritten ss w
      → locks.identity v ≡ locks.identity w → v ≡ w

-- and a log can hold them
pub record AreLegalLocks (locks : Locks) (ss : List ClientSession) : Type 0 where
  pub key : (a : List ℕ) → HasKey ss a → IsKey (locks.key a)
  pub identity : (v : ℕ) → HasWritten ss v → (0 < locks.identity v) × (locks.identity v < 2 ^ 64)

-- ---- the split log

abbrev pub first_writes_behind : List (List ℕ) → List Op → List (List ℕ × ℕ)
first_writes_behind written [] = []
first_writes_behind written (Read key wid ∷ ops) = first_writes_behind written ops
first_writes_behind written (Write key wid ∷ ops) =
    if is_in written key then first_writes_behind written ops else
    ((key, wid) ∷ first_writes_behind (key ∷ written) ops)

-- the keys that a transaction writes, once each, each with the identity of its first write
abbrev pub first_writes : List Op → List (List ℕ × ℕ)
first_writes ops = first_writes_behind [] ops

-- those of which it takes the locks: all of them, or none
abbrev pub locked_writes : Locks → List Op → List (List ℕ × ℕ)
locked_writes locks ops = if locks.taken then first_writes ops else []

abbrev pub take_lock : Locks → List ℕ × ℕ → Op
take_lock locks (key, wid) = Write (locks.key key) (locks.identity wid)

abbrev pub find_lock : Locks → List ℕ × ℕ → Op
find_lock locks (key, wid) = Read (locks.key key) (locks.identity wid)

-- it reads from its snapshot, and takes the lock of each key that it is going to write
abbrev pub start_ops : Locks → List Op → List Op
start_ops locks ops = snapshot_reads ops ++ map (take_lock locks) (locked_writes locks ops)

-- no other has taken a lock of it since, and it does the rest
abbrev pub end_ops : Locks → List Op → List Op
end_ops locks ops = map (find_lock locks) (locked_writes locks ops) ++ rest ops

-- The one stands behind the other in the session. The first says when the transaction began, and
-- the second when it ended.
abbrev pub split_txn : Locks → Transaction → List Transaction
split_txn locks t =
    record { ops = start_ops locks t.ops; outcome = t.outcome; begun = t.begun; ended = None }
    ∷ record { ops = end_ops locks t.ops; outcome = t.outcome; begun = None; ended = t.ended } ∷ []

abbrev pub split : Locks → List ClientSession → List ClientSession
split locks ss = map (λ s. record {
  number = s.number;
  txns = flat_map (split_txn locks) s.txns;
}) ss

-- ---- the same with fewer transactions: only those that commit writes are split

abbrev pub is_writer : Transaction → Bool
is_writer t = is_committed t && list_any is_write t.ops

abbrev pub split_writers : Locks → List ClientSession → List ClientSession
split_writers locks ss = map (λ s. record {
  number = s.number;
  txns = flat_map (λ t. if is_writer t then split_txn locks t else (t ∷ [])) s.txns;
}) ss

-- ---- the laws

-- A list of points is a snapshot order of a log exactly where their numbers are a serial order of the
-- split log: there node 2v - 1 is the start of node v, and node 2v its end.
abbrev pub OrdersOfSplit : Type 0
OrdersOfSplit =
    (ss : List ClientSession) (locks : Locks) → IsSoundLog ss → IsLearntLog ss → AreFresh locks ss
    → (points : List Point) →
    (IsPointOrder locks.taken ss points ↔ IsSerialOrder (split locks ss) (map number points))

-- so a log has a snapshot order exactly where the split log has a serial order
abbrev pub SnapshotBySplit : Type 0
SnapshotBySplit =
    (ss : List ClientSession) (locks : Locks) → IsSoundLog ss → IsLearntLog ss → AreFresh locks ss
    → (HasPointOrder locks.taken ss ↔ HasOrder (split locks ss))

-- the same where only those that write are split
abbrev pub SnapshotByWriters : Type 0
SnapshotByWriters = (ss : List ClientSession) (locks : Locks) → IsSoundLog ss → AreFresh locks ss
    → (HasPointOrder locks.taken ss ↔ HasOrder (split_writers locks (resolved ss)))

-- every log has such locks, but for the bounds on keys and identities
abbrev pub SomeAreFresh : Type 0
SomeAreFresh = (ss : List ClientSession) (taken : Bool) → (locks : Locks)
    × (locks.taken ≡ taken) × AreFresh locks ss

-- Where outcomes are unknown, some order of the committed and of some unknown transactions is a
-- snapshot order exactly where some order of the committed and the taken ones is.
abbrev pub PointsOfTaken : Bool → Type 0
PointsOfTaken locked = (ss : List ClientSession) → IsSoundLog ss
    → (HasSomePointOrder locked ss ↔ HasPointOrder locked ss)

abbrev pub SnapshotOfTaken : Type 0
SnapshotOfTaken = PointsOfTaken true

abbrev pub PrefixOfTaken : Type 0
PrefixOfTaken = PointsOfTaken false

-- and the log is split once it is resolved
abbrev pub SnapshotOfResolved : Type 0
SnapshotOfResolved = (ss : List ClientSession) (locks : Locks) → IsSoundLog ss → AreFresh locks ss
    → (HasPointOrder locks.taken ss ↔ HasOrder (split locks (resolved ss)))

-- each of the two can be judged by itself
abbrev pub SplitIsLog : Type 0
SplitIsLog = (ss : List ClientSession) (locks : Locks) → IsLog ss → AreFresh locks ss
    → AreLegalLocks locks ss → IsLog (split locks ss) × IsLog (split_writers locks ss)

-- and so can those of a log with unknown outcomes, once it is resolved
abbrev pub ResolvedSplitIsLog : Type 0
ResolvedSplitIsLog =
    (ss : List ClientSession) (locks : Locks) → AllByRecursion IsLegal ss → IsSoundLog ss
    → AreFresh locks ss → AreLegalLocks locks ss
    → IsLog (split locks (resolved ss)) × IsLog (split_writers locks (resolved ss))

-- what is serializable is snapshot isolated
abbrev pub SnapshotWhereSerial : Type 0
SnapshotWhereSerial = (ss : List ClientSession) → IsSoundLog ss → IsLearntLog ss → HasOrder ss
    → HasPointOrder true ss

-- a snapshot order is a prefix order
abbrev pub PrefixWhereSnapshot : Type 0
PrefixWhereSnapshot = (ss : List ClientSession) (points : List Point) → IsPointOrder true ss points
    → IsPointOrder false ss points
