-- The write that has an identity.
use Rattle.std.specs.Prelude.{◌≡◌, ◌⊎◌, ℕ, ◌<◌, ◌≤◌, Bool, IsTrue, ◌↔◌, List, Some}
use Rattle.std.specs.List.{Contains}
use Rattle.serializability.specs.declared.event.Event.{Event}
use Rattle.serializability.specs.declared.event.Event.TheVariants.{Write}
use Rattle.serializability.specs.Log.{Log}
use Rattle.serializability.specs.Reads.{last_write}

-- no transaction of the log, aborted ones included, writes this identity
pub record IsUnwritten (log : Log) (wid : ℕ) : Type 0 where
  pub committed : (v x : ℕ) → 0 < v → v ≤ log.nodes → Contains (log.ops v) (Write x wid) → ⊥
  pub aborted : (x : ℕ) (ops : List Event) → Contains log.aborted ops → Contains ops (Write x wid)
      → ⊥

-- an aborted transaction writes the key with this identity
abbrev pub IsAbortedWrite : Log → ℕ → ℕ → Type 0
IsAbortedWrite log x wid = (ops : List Event) × Contains log.aborted ops
    × Contains ops (Write x wid)

-- node v writes the key with this identity, and whether that is its last write of the key
pub record IsNodesWrite (log : Log) (v x wid : ℕ) (last : Bool) : Type 0 where
  pub node : (0 < v) × (v ≤ log.nodes)
  pub stands : Contains (log.ops v) (Write x wid)
  pub is_last : IsTrue last ↔ (last_write x (log.ops v) ≡ Some wid)

-- the write that has the identity: of an aborted transaction (node 0), or of a node
abbrev pub IsWrite : Log → ℕ → ℕ → ℕ → Bool → Type 0
IsWrite log wid x v last = ((v ≡ 0) × IsAbortedWrite log x wid) ⊎ IsNodesWrite log v x wid last
