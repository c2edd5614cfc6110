-- Which transactions of unknown outcome are taken, found session by session.
use Rattle.std.specs.Prelude.{ℕ, ◌==◌, Bool, true, false, if◌then◌else◌, List, [], ◌∷◌, ◌++◌, map, Option, None, Some, nat_eq}
use Rattle.std.specs.List.{flat_map, list_any, IsDistinct}
use Rattle.std.specs.Option.{option_or}
use Rattle.std.specs.Str.{bytes_eq}
use Rattle.session_log.specs.Text.{ClientSession, Transaction}
use Rattle.session_log.specs.declared.session.Op.{Op}
use Rattle.session_log.specs.declared.session.Op.TheVariants.{Read, Write}
use Rattle.session_log.specs.declared.session.Outcome.{Outcome}
use Rattle.session_log.specs.declared.session.Outcome.TheVariants.{Commit, Abort, Unknown}
use Rattle.log_definitions.specs.Unknown.{is_unknown, ops_in}
use Rattle.log_definitions.specs.WellFormed.{written}

-- ---- how a transaction ended

abbrev pub same_outcome : Outcome → Outcome → Bool
same_outcome Commit Commit = true
same_outcome Commit Abort = false
same_outcome Commit Unknown = false
same_outcome Abort Commit = false
same_outcome Abort Abort = true
same_outcome Abort Unknown = false
same_outcome Unknown Commit = false
same_outcome Unknown Abort = false
same_outcome Unknown Unknown = true

abbrev pub has_ended : Outcome → Transaction → Bool
has_ended outcome t = same_outcome t.outcome outcome

-- the operations of the transactions that ended so
abbrev pub ops_ended : Outcome → List Transaction → List Op
ops_ended outcome ts = flat_map (λ t. if has_ended outcome t then t.ops else []) ts

abbrev pub committed_in_all : List ClientSession → List Op
committed_in_all ss = flat_map (λ s. ops_ended Commit s.txns) ss

-- ---- the writes of the transactions of unknown outcome

-- a write's key and session
pub record WriteView : Type 0 where
  pub key : List ℕ
  pub session : ClientSession

-- with its identity
abbrev pub WriteAt : Type 0
WriteAt = ℕ × WriteView

-- the writes of these operations of a session
abbrev pub writes_of : ClientSession → List Op → List WriteAt
writes_of s [] = []
writes_of s (Read key wid ∷ ops) = writes_of s ops
writes_of s (Write key wid ∷ ops) = (wid, record { key = key; session = s }) ∷ writes_of s ops

-- those of its transactions of unknown outcome
abbrev pub unknown_writes_of : ClientSession → List Transaction → List WriteAt
unknown_writes_of s ts = flat_map (λ t. if is_unknown t then writes_of s t.ops else []) ts

abbrev pub unknown_writes : List ClientSession → List WriteAt
unknown_writes ss = flat_map (λ s. unknown_writes_of s s.txns) ss

-- the last of these that has an identity
abbrev pub last_with : ℕ → List WriteAt → Option WriteView
last_with wid [] = None
last_with wid (x ∷ xs) = option_or (last_with wid xs) (if x.0 == wid then Some x.1 else None)

-- ---- the sessions that are taken so far, in the order in which they were found

-- the session with this number is one of these
abbrev pub has : List ClientSession → ℕ → Bool
has taken n = list_any (λ s. s.number == n) taken

abbrev pub with_session : ClientSession → List ClientSession → List ClientSession
with_session s taken = if has taken s.number then taken else taken ++ s ∷ []

-- with the session of the write that was found, where it is of the key
abbrev pub with_found : Option WriteView → List ℕ → List ClientSession → List ClientSession
with_found None key taken = taken
with_found (Some w) key taken = if bytes_eq key w.key then with_session w.session taken else taken

-- with what an operation reads from, where the writes are found so
abbrev pub with_read : (ℕ → Option WriteView) → Op → List ClientSession → List ClientSession
with_read found (Read key wid) taken = with_found (found wid) key taken
with_read found (Write key wid) taken = taken

abbrev pub with_reads : (ℕ → Option WriteView) → List Op → List ClientSession → List ClientSession
with_reads found [] taken = taken
with_reads found (op ∷ ops) taken = with_reads found ops (with_read found op taken)

-- ---- what makes a session and a write known by its number and its identity

pub record IsOnce (ss : List ClientSession) : Type 0 where
  pub sessions : IsDistinct nat_eq (map (λ s. s.number) ss)
  pub writes : IsDistinct nat_eq (written (ops_in ss))
