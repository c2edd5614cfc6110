-- What the edges of evidence say of nodes, and what follows of each order of a level.
use Rattle.std.specs.Prelude.{◌≡◌, ◌≢◌, ◌⊎◌, ◌↔◌, ℕ, ◌+◌, IsTrue, List, length, Some, None, slice_get}
use Rattle.std.specs.List.{Contains}
use Rattle.session_log.specs.Text.{ClientSession, Transaction}
use Rattle.session_log.specs.declared.session.Op.{Op}
use Rattle.session_log.specs.declared.session.Op.TheVariants.{Write}
use Rattle.serializability.specs.Replay.{Before, ListsOnce}
use Rattle.log_definitions.specs.Serial.{committed_in, node_of, ops_of}
use Rattle.log_laws.specs.Logs.{IsSoundLog, IsLearntLog}
use Rattle.node_names.specs.Names.{node_at}
use Rattle.level_laws.specs.declared.level.Level.{Level}
use Rattle.level_laws.specs.Seen.{last_write, ReadsBehind, WritesKey, ReadsFrom, IsEarlier, Sees, IsLevelOrder, HasLevelOrder}
use Rattle.level_refutations.specs.declared.evidence.{TxnAt.TxnAt, OpAt.OpAt, Hop.Hop, Step.Step, Edge.Edge, Evidence.Evidence}
use Rattle.level_refutations.specs.Places.{txn_at}
use Rattle.level_refutations.specs.Edges.{is_edge, is_step, is_forced_by, is_initial_by, edge_from, edge_to}
use Rattle.level_refutations.specs.Whys.{is_fault}
use Rattle.level_refutations.specs.Refuted.{is_refuted}

-- node v is the committed transaction at this place
pub record Stands (ss : List ClientSession) (at : TxnAt) (v : ℕ) : Type 0 where
  pub session : ClientSession
  pub txn : Transaction
  pub picked : slice_get ss at.session ≡ Some session
  pub found : txn_at ss at ≡ Some txn
  pub node : node_of ss v ≡ Some (node_at session.number (at.txn + 1) txn)

-- ---- what a level forces

-- an external read of node v, behind these of its operations, names this identity, though it sees
-- u, which writes the key
pub record Overlooks (level : Level) (ss : List ClientSession) (u v : ℕ) (before : List Op)
    (key : List ℕ) (wid : ℕ) : Type 0 where
  pub reads : ReadsBehind ss v before key wid
  pub external : last_write key before ≡ None
  pub sees : Sees level ss u v before
  pub writes : WritesKey ss u key

-- some read overlooks u, and names what t, another node, writes
pub record IsForced (level : Level) (ss : List ClientSession) (u t : ℕ) : Type 0 where
  pub reader : ℕ
  pub before : List Op
  pub key : List ℕ
  pub wid : ℕ
  pub overlooks : Overlooks level ss u reader before key wid
  pub other : u ≢ t
  pub found : Contains (ops_of ss t) (Write key wid)

-- why a node stands before another
pub data Stood (level : Level) (ss : List ClientSession) : ℕ → ℕ → Type 0 where
  session : (u v : ℕ) → IsEarlier ss u v → Stood level ss u v
  read : (u v : ℕ) → ReadsFrom ss u v → Stood level ss u v
  forced : (u v : ℕ) → IsForced level ss u v → Stood level ss u v

-- ---- the laws

-- what is forced holds in each order of the level
abbrev pub ForcedIsKept : Type 0
ForcedIsKept =
    (level : Level) (ss : List ClientSession) (order : List ℕ) → IsSoundLog ss
    → IsLevelOrder level ss order → (u t : ℕ) → IsForced level ss u t → Before order u t

-- no read overlooks a write and names the initial value
abbrev pub InitialIsNotOverlooked : Type 0
InitialIsNotOverlooked =
    (level : Level) (ss : List ClientSession) (order : List ℕ) → IsSoundLog ss
    → IsLevelOrder level ss order → (u v : ℕ) (before : List Op) (key : List ℕ)
    → Overlooks level ss u v before key 0 → ⊥

-- each right edge is one of these, between the nodes at its places
abbrev pub EdgesStand : Type 0
EdgesStand =
    (level : Level) (ss : List ClientSession) → IsSoundLog ss → IsLearntLog ss → (edge : Edge)
    → IsTrue (is_edge level ss edge) → (u v : ℕ) → Stands ss (edge_from edge) u
    → Stands ss (edge_to edge) v → Stood level ss u v

-- and its places are those of nodes
abbrev pub EdgesHaveNodes : Type 0
EdgesHaveNodes =
    (level : Level) (ss : List ClientSession) → IsLearntLog ss → (edge : Edge)
    → IsTrue (is_edge level ss edge) → ((u : ℕ) × Stands ss (edge_from edge) u)
    × ((v : ℕ) × Stands ss (edge_to edge) v)

-- operations and a path that show what a level forces
pub record ShowsForced (level : Level) (ss : List ClientSession) (a b : TxnAt) : Type 0 where
  pub read : OpAt
  pub write : OpAt
  pub path : List Hop
  pub found : OpAt
  pub from : write.txn ≡ a
  pub to : found.txn ≡ b
  pub right : IsTrue (is_forced_by level ss read write path found)

-- the transaction at one place stands before that at another by a right edge
abbrev pub IsShown : Level → List ClientSession → TxnAt → TxnAt → Type 0
IsShown level ss a b = ((step : Step) × IsTrue (is_step ss a b step)) ⊎ ShowsForced level ss a b

-- whatever stands before another node is shown by a right edge
abbrev pub EachIsShown : Type 0
EachIsShown =
    (level : Level) (ss : List ClientSession) → IsSoundLog ss → IsLearntLog ss → (u v : ℕ)
    → Stood level ss u v → (a b : TxnAt) → Stands ss a u → Stands ss b v → IsShown level ss a b

-- so each right edge holds in each order of the level
abbrev pub EdgesAreKept : Type 0
EdgesAreKept =
    (level : Level) (ss : List ClientSession) (order : List ℕ) → IsSoundLog ss → IsLearntLog ss
    → IsLevelOrder level ss order → (edge : Edge) → IsTrue (is_edge level ss edge) → (u v : ℕ)
    → Stands ss (edge_from edge) u → Stands ss (edge_to edge) v → Before order u v

-- where evidence is right, there is no order of the level
abbrev pub NoOrderWhereRefuted : Type 0
NoOrderWhereRefuted =
    (level : Level) (ss : List ClientSession) (evidence : Evidence) → IsSoundLog ss
    → IsLearntLog ss → IsTrue (is_refuted level ss evidence) → HasLevelOrder level ss → ⊥

-- ---- what makes an order one of a level

-- each own read names the write before it, and each external one what another node leaves, or the
-- initial value, of which it overlooks no write
pub record HasItsReads (level : Level) (ss : List ClientSession) : Type 0 where
  pub own : (v : ℕ) (before : List Op) (key : List ℕ) (wid last : ℕ)
      → ReadsBehind ss v before key wid → last_write key before ≡ Some last → wid ≡ last
  pub left : (v : ℕ) (before : List Op) (key : List ℕ) (wid : ℕ) → ReadsBehind ss v before key wid
      → last_write key before ≡ None → wid ≢ 0
      → (t : ℕ) × (t ≢ v) × (last_write key (ops_of ss t) ≡ Some wid)
  pub initial : (u v : ℕ) (before : List Op) (key : List ℕ) → Overlooks level ss u v before key 0
      → ⊥

-- So evidence needs no further kind: an order of the nodes of a sound log is one of the level
-- exactly where the log has its reads, and the order keeps each edge.
abbrev pub OrderIsOfEdges : Type 0
OrderIsOfEdges =
    (level : Level) (ss : List ClientSession) (order : List ℕ) → IsSoundLog ss
    → (IsLevelOrder level ss order ↔ (ListsOnce (length (committed_in ss)) order
    × HasItsReads level ss × ((u v : ℕ) → Stood level ss u v → Before order u v)))

-- one or more edges lead from u to v
pub data Follows (level : Level) (ss : List ClientSession) : ℕ → ℕ → Type 0 where
  once : (u v : ℕ) → Stood level ss u v → Follows level ss u v
  then : (u v w : ℕ) → Stood level ss u v → Follows level ss v w → Follows level ss u w

-- where a sound log has its reads, and no edges lead from a node to itself, there is an order of the
-- level: it cannot be that there is none
abbrev pub OrderWhereNoCircle : Type 0
OrderWhereNoCircle = (level : Level) (ss : List ClientSession) → IsSoundLog ss → HasItsReads level ss
    → ((v : ℕ) → Follows level ss v v → ⊥) → (HasLevelOrder level ss → ⊥) → ⊥

-- a sound log in which no fault and no overlooked initial value passes the test has its reads
abbrev pub ReadsWhereNoFault : Type 0
ReadsWhereNoFault =
    (level : Level) (ss : List ClientSession) → IsSoundLog ss → IsLearntLog ss
    → ((read : OpAt) → IsTrue (is_fault ss read) → ⊥)
    → ((read write : OpAt) (path : List Hop) → IsTrue (is_initial_by level ss read write path) → ⊥)
    → HasItsReads level ss
