-- What each anomaly says of its read, or of its two transactions.
use Rattle.std.specs.Prelude.{◌≡◌, ◌≢◌, ℕ, ◌+◌, ◌<◌, ◌≤◌, List, ◌∷◌, ◌++◌, length, None, Some}
use Rattle.std.specs.List.{Contains}
use Rattle.serializability.specs.declared.event.Event.{Event}
use Rattle.serializability.specs.declared.event.Event.TheVariants.{Read, Write}
use Rattle.serializability.specs.Log.{Log}
use Rattle.serializability.specs.Reads.{last_write, WritesAfter}
use Rattle.serializability.specs.Polygraph.{source}
use Rattle.serializability.specs.Anomalies.{read_anomaly}
use Rattle.anomaly_laws.specs.Aborted.{WritesAborted}

-- the read at operation k of node v, where operations count from 1, with the operations before it
-- and behind it
pub record ReadAt (log : Log) (v k : ℕ) : Type 0 where
  pub key : ℕ
  pub identity : ℕ
  pub before : List Event
  pub behind : List Event
  pub low : 0 < v
  pub high : v ≤ log.nodes
  pub stands : log.ops v ≡ before ++ Read key identity ∷ behind
  pub place : k ≡ length before + 1

-- no own write of the key stands before the read
abbrev pub IsExternal : {log : Log} {v k : ℕ} → ReadAt log v k → Type 0
IsExternal r = last_write r.key r.before ≡ None

-- w is not the initial identity, and no write of x in the log has it
pub record IsWrittenNowhere (log : Log) (x w : ℕ) : Type 0 where
  pub nonzero : w ≢ 0
  pub committed : (u : ℕ) (before : List Event) → WritesAfter log u before x w → ⊥
  pub aborted : WritesAborted log x w → ⊥

-- a node other than v writes x as w, and has another final write of x
pub record IsIntermediateWrite (log : Log) (v x w : ℕ) : Type 0 where
  pub writer : ℕ
  pub other : writer ≢ v
  pub before : List Event
  pub writes : WritesAfter log writer before x w
  pub final : ℕ
  pub ends : last_write x (log.ops writer) ≡ Some final
  pub differs : final ≢ w

-- an external read of an identity other than 0 that no write of the key in the log has
abbrev pub IsUnknownRead : {log : Log} {v k : ℕ} → ReadAt log v k → Type 0
IsUnknownRead {log} r = IsExternal r × IsWrittenNowhere log r.key r.identity

-- an external read of a write of an aborted transaction
abbrev pub IsAbortedRead : {log : Log} {v k : ℕ} → ReadAt log v k → Type 0
IsAbortedRead {log} r = IsExternal r × WritesAborted log r.key r.identity

-- an external read of a write of another node that is not its final write of the key
abbrev pub IsIntermediateRead : {log : Log} {v k : ℕ} → ReadAt log v k → Type 0
IsIntermediateRead {log} {v} r = IsExternal r × IsIntermediateWrite log v r.key r.identity

-- a read that does not name the latest own write before it
abbrev pub IsOwnWriteMissed : {log : Log} {v k : ℕ} → ReadAt log v k → Type 0
IsOwnWriteMissed r = (own : ℕ) × (last_write r.key r.before ≡ Some own) × (own ≢ r.identity)

-- an external read of a later own write
abbrev pub IsFutureRead : {log : Log} {v k : ℕ} → ReadAt log v k → Type 0
IsFutureRead r = IsExternal r × Contains r.behind (Write r.key r.identity)

-- an external read of a key that an earlier read of the transaction names another identity of
abbrev pub IsSplitRead : {log : Log} {v k : ℕ} → ReadAt log v k → Type 0
IsSplitRead r = IsExternal r × ((other : ℕ) × Contains r.before (Read r.key other)
    × (other ≢ r.identity))

-- no anomaly is found in the read
abbrev pub IsNoAnomaly : {log : Log} {v k : ℕ} → ReadAt log v k → Type 0
IsNoAnomaly {log} {v} r = read_anomaly log v r.before r.key r.identity r.behind
    (last_write r.key r.before) ≡ None

-- node v reads x externally from node u, and writes it
pub record IsUpdate (log : Log) (x u v : ℕ) : Type 0 where
  pub low : 0 < v
  pub high : v ≤ log.nodes
  pub reads : source log v x ≡ Some u
  pub writes : (w : ℕ) × (last_write x (log.ops v) ≡ Some w)
