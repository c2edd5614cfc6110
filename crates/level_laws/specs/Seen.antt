-- Read committed, monotonic atomic view, read atomic and causal consistency of a log: some order of
-- the nodes keeps that of each session, has a writer before each node that reads from it, and each
-- read finds the last write of its key among the nodes that it sees. Moments play no part.
--
-- With no order of sessions read committed is PL-2 (Adya 1999), and monotonic atomic view that of
-- Bailis and others (2013). Biswas and Enea (2019) and AWDIT (2025) call the latter read committed.
use Rattle.std.specs.Prelude.{◌≡◌, ◌≢◌, ◌⊎◌, ℕ, ◌<◌, ◌≤◌, if◌then◌else◌, List, [], ◌∷◌, ◌++◌, length, Bool, Option, None, Some}
use Rattle.std.specs.List.{Contains}
use Rattle.std.specs.Str.{bytes_eq}
use Rattle.session_log.specs.Text.{ClientSession}
use Rattle.session_log.specs.declared.session.Op.{Op}
use Rattle.session_log.specs.declared.session.Op.TheVariants.{Read, Write}
use Rattle.serializability.specs.Replay.{Before, ListsOnce}
use Rattle.serializability.specs.Reads.{later}
use Rattle.log_definitions.specs.Unknown.{settled}
use Rattle.log_definitions.specs.Serial.{committed_in, session_of, ops_of}
use Rattle.level_laws.specs.declared.level.Level.{Level}
use Rattle.level_laws.specs.declared.level.Level.TheVariants.{ReadCommitted, MonotonicAtomicView, ReadAtomic, Causal}

-- ---- reads and writes of nodes

-- the last write of the key
abbrev pub last_write : List ℕ → List Op → Option ℕ
last_write key [] = None
last_write key (Read k w ∷ ops) = last_write key ops
last_write key (Write k w ∷ ops) = later (if bytes_eq k key then Some w else None)
    (last_write key ops)

-- node v reads the key under this identity, behind these of its operations; the read is its own if
-- they write the key, and else external
abbrev pub ReadsBehind : List ClientSession → ℕ → List Op → List ℕ → ℕ → Type 0
ReadsBehind ss v before key wid = (behind : List Op) × (ops_of ss v ≡ before ++ Read key wid
    ∷ behind)

abbrev pub WritesKey : List ClientSession → ℕ → List ℕ → Type 0
WritesKey ss u key = (wid : ℕ) × Contains (ops_of ss u) (Write key wid)

-- ---- which node another one follows

-- u stands before v in their session
pub record IsEarlier (ss : List ClientSession) (u v : ℕ) : Type 0 where
  pub low : 0 < u
  pub less : u < v
  pub high : v ≤ length (committed_in ss)
  pub session : session_of ss u ≡ session_of ss v

-- v reads what u, another node, writes: the same key, under the same identity
pub record ReadsFrom (ss : List ClientSession) (u v : ℕ) : Type 0 where
  pub key : List ℕ
  pub wid : ℕ
  pub other : u ≢ v
  pub writes : Contains (ops_of ss u) (Write key wid)
  pub reads : Contains (ops_of ss v) (Read key wid)

abbrev pub Direct : List ClientSession → ℕ → ℕ → Type 0
Direct ss u v = IsEarlier ss u v ⊎ ReadsFrom ss u v

-- one or more such steps lead from u to v
pub data Past (ss : List ClientSession) : ℕ → ℕ → Type 0 where
  step : (u v : ℕ) → Direct ss u v → Past ss u v
  path : (u v w : ℕ) → Direct ss u v → Past ss v w → Past ss u w

-- ---- what a read sees

-- one of these operations of node v reads what u, another node, writes
pub record IsReadBehind (ss : List ClientSession) (u v : ℕ) (before : List Op) : Type 0 where
  pub key : List ℕ
  pub wid : ℕ
  pub other : u ≢ v
  pub writes : Contains (ops_of ss u) (Write key wid)
  pub reads : Contains before (Read key wid)

-- whether a read of node v behind these of its operations sees node u
abbrev pub Sees : Level → List ClientSession → ℕ → ℕ → List Op → Type 0
Sees ReadCommitted ss u v before = ⊥
Sees MonotonicAtomicView ss u v before = IsReadBehind ss u v before
Sees ReadAtomic ss u v before = Direct ss u v
Sees Causal ss u v before = Past ss u v

-- of the nodes that it sees none writes the key
abbrev pub NoneSeen : Level → List ClientSession → ℕ → List Op → List ℕ → Type 0
NoneSeen level ss v before key = (u : ℕ) → Sees level ss u v before → WritesKey ss u key → ⊥

-- t, another node, has this as its final write of the key, and each further node that the read sees
-- and that writes the key stands before t
pub record IsLastSeen
    (level : Level)
    (ss : List ClientSession)
    (order : List ℕ)
    (v : ℕ)
    (before : List Op)
    (key : List ℕ)
    (wid t : ℕ) : Type 0 where
  pub other : t ≢ v
  pub final : last_write key (ops_of ss t) ≡ Some wid
  pub last : (u : ℕ) → u ≢ t → Sees level ss u v before → WritesKey ss u key → Before order u t

-- the read finds the initial value, or the last write that it sees
abbrev pub FindsLast : Level → List ClientSession → List ℕ → ℕ → List Op → List ℕ → ℕ → Type 0
FindsLast level ss order v before key wid =
    ((wid ≡ 0) × NoneSeen level ss v before key)
    ⊎ ((t : ℕ) × IsLastSeen level ss order v before key wid t)

-- ---- the levels

-- The order lists nodes 1 to n once each, keeps each session's order, and has a writer before each
-- node that reads from it. An own read finds the node's last write of the key before it, and an
-- external one the last write that it sees.
pub record IsLevelOrder (level : Level) (ss : List ClientSession) (order : List ℕ) : Type 0 where
  pub once : ListsOnce (length (committed_in ss)) order
  pub sessions : (u v : ℕ) → IsEarlier ss u v → Before order u v
  pub reads_from : (u v : ℕ) → ReadsFrom ss u v → Before order u v
  pub own : (v : ℕ) (before : List Op) (key : List ℕ) (wid last : ℕ)
      → ReadsBehind ss v before key wid → last_write key before ≡ Some last → wid ≡ last
  pub found : (v : ℕ) (before : List Op) (key : List ℕ) (wid : ℕ) → ReadsBehind ss v before key wid
      → last_write key before ≡ None → FindsLast level ss order v before key wid

abbrev pub HasLevelOrder : Level → List ClientSession → Type 0
HasLevelOrder level ss = (order : List ℕ) × IsLevelOrder level ss order

-- An order of the committed and some unknown transactions: these count as committed, and the other
-- unknown ones as aborted.
pub record IsSomeLevelOrder (level : Level) (ss : List ClientSession) (order : List ℕ) : Type
    0 where
  pub chosen : ℕ → Bool
  pub at_level : IsLevelOrder level (settled chosen ss) order

abbrev pub HasSomeLevelOrder : Level → List ClientSession → Type 0
HasSomeLevelOrder level ss = (order : List ℕ) × IsSomeLevelOrder level ss order
