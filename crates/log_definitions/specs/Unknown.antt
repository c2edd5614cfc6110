-- Transactions whose outcome the client never learnt, and which of them must have been committed. A
-- legal session has one such transaction at most, its last, so that sets of them are sets of
-- session numbers.
use Rattle.std.specs.Prelude.{◌≡◌, ℕ, zero, suc, ◌==◌, ◌&&◌, ◌||◌, Bool, false, IsTrue, if◌then◌else◌, List, length, map}
use Rattle.std.specs.List.{filter, flat_map, list_any, Contains}
use Rattle.std.specs.Str.{bytes_eq}
use Rattle.session_log.specs.Text.{ClientSession, Transaction, is_commit, is_unknown as is_unknown_outcome}
use Rattle.session_log.specs.declared.session.Op.{Op}
use Rattle.session_log.specs.declared.session.Op.TheVariants.{Read, Write}
use Rattle.session_log.specs.declared.session.Outcome.{Outcome}
use Rattle.session_log.specs.declared.session.Outcome.TheVariants.{Commit, Abort, Unknown}

abbrev pub is_committed : Transaction → Bool
is_committed t = is_commit t.outcome

abbrev pub is_unknown : Transaction → Bool
is_unknown t = is_unknown_outcome t.outcome

-- the transactions, and the operations of all of them
abbrev pub txns_in : List ClientSession → List Transaction
txns_in ss = flat_map (λ s. s.txns) ss

abbrev pub ops_in : List ClientSession → List Op
ops_in ss = flat_map (λ t. t.ops) (txns_in ss)

-- ---- the unknown transactions of the chosen sessions count as committed, and the others as
-- aborted

abbrev pub settled_as : Bool → Outcome → Outcome
settled_as is_chosen Commit = Commit
settled_as is_chosen Abort = Abort
settled_as is_chosen Unknown = if is_chosen then Commit else Abort

abbrev pub settle : Bool → Transaction → Transaction
settle is_chosen t = record {
  ops = t.ops;
  outcome = settled_as is_chosen t.outcome;
  begun
      = t.begun;
  ended = t.ended;
}

unfoldable pub settled : (ℕ → Bool) → List ClientSession → List ClientSession
settled chosen ss = map (λ s. record {
  number = s.number;
  txns = map
      (settle (chosen s.number)) s.txns;
}) ss

-- ---- the taken ones: the least set of unknown transactions that holds each of which a committed
-- or a taken one reads a write

-- the one reads what the other writes: the same key, under the same identity
abbrev pub reads_write : Op → Op → Bool
reads_write (Read key wid) (Write k w) = bytes_eq key k && (wid == w)
reads_write (Read key wid) (Read k w) = false
reads_write (Write key wid) other = false

-- one of these operations reads a write of those
abbrev pub reads_of : List Op → List Op → Bool
reads_of ops writes = list_any (λ r. list_any (reads_write r) writes) ops

abbrev pub committed_ops : List ClientSession → List Op
committed_ops ss = flat_map (λ t. t.ops) (filter is_committed (txns_in ss))

-- one of these operations reads a write of an unknown transaction of the session
abbrev pub is_needed : List Op → ClientSession → Bool
is_needed ops s = list_any (λ t. is_unknown t && reads_of ops t.ops) s.txns

-- the chosen sessions, and those that are needed where these are chosen
abbrev pub taking : List ClientSession → (ℕ → Bool) → ℕ → Bool
taking ss chosen n = chosen n || list_any (λ s. (s.number == n) && is_needed
    (committed_ops (settled chosen ss)) s) ss

-- so many times, each time with what was taken before
abbrev pub taking_times : ℕ → List ClientSession → (ℕ → Bool) → ℕ → Bool
taking_times zero ss chosen = chosen
taking_times (suc k) ss chosen = taking_times k ss (taking ss chosen)

-- whether the unknown transaction of the session with this number is taken: each time takes one
-- session more, or none is left
unfoldable pub taken : List ClientSession → ℕ → Bool
taken ss = taking_times (length ss) ss (λ n. false)

-- The sessions with the taken transactions as committed ones, and with each other unknown one,
-- which no node reads from, as an aborted one.
unfoldable pub resolved : List ClientSession → List ClientSession
resolved ss = settled (taken ss) ss

-- ---- the same in words

-- the session with this number has an unknown transaction that writes what a committed one reads,
-- where the chosen ones count as committed: the same key, under the same identity
pub record IsNeeded (ss : List ClientSession) (chosen : ℕ → Bool) (n : ℕ) : Type 0 where
  pub session : ClientSession
  pub txn : Transaction
  pub key : List ℕ
  pub wid : ℕ
  pub is_session : Contains ss session
  pub is_txn : Contains session.txns txn
  pub number : session.number ≡ n
  pub outcome : txn.outcome ≡ Unknown
  pub writes : Contains txn.ops (Write key wid)
  pub reads : Contains (committed_ops (settled chosen ss)) (Read key wid)

-- each session that is needed is chosen
pub record IsClosed (ss : List ClientSession) (chosen : ℕ → Bool) : Type 0 where
  pub each : (n : ℕ) → IsNeeded ss chosen n → IsTrue (chosen n)

-- all that these choose, those choose too
abbrev pub IsWithin : (ℕ → Bool) → (ℕ → Bool) → Type 0
IsWithin these those = (n : ℕ) → IsTrue (these n) → IsTrue (those n)
