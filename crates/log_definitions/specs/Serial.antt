-- The nodes of a log, replay on a plain map from keys to identities, and serial orders.
use Rattle.std.specs.Prelude.{◌≡◌, ◌≢◌, true, ℕ, zero, suc, ◌<◌, ◌≤◌, if◌then◌else◌, List, [], ◌∷◌, length, slice_get, Bool, Option, None, option_and_then, map}
use Rattle.std.specs.List.{flat_map, filter, enumerate_from}
use Rattle.std.specs.Option.{option_map_or}
use Rattle.std.specs.Str.{bytes_eq}
use Rattle.session_log.specs.Moments.{is_earlier}
use Rattle.session_log.specs.Text.{ClientSession}
use Rattle.session_log.specs.declared.session.Op.{Op}
use Rattle.session_log.specs.declared.session.Op.TheVariants.{Read, Write}
use Rattle.serializability.specs.Replay.{Before, ListsOnce}
use Rattle.log_definitions.specs.Unknown.{is_committed, resolved, settled}

-- ---- the nodes: the committed transactions, and those of unknown outcome that were taken

-- a node: the number of its session, its place in the session from 1, every transaction counted,
-- its operations, and the moments at which it began and ended, where they are stated
pub record Committed : Type 0 where
  pub session : ℕ
  pub place : ℕ
  pub ops : List Op
  pub begun : Option ℕ
  pub ended : Option ℕ

abbrev pub committed_of : ClientSession → List Committed
committed_of s =
    map (λ t. record {
      session = s.number;
      place = t.0;
      ops = t.1.ops;
      begun = t.1.begun;
      ended
          = t.1.ended;
    })
    (filter (λ t. is_committed t.1) (enumerate_from 1 s.txns))

-- by session in log order, then by place in the session
unfoldable pub committed_in : List ClientSession → List Committed
committed_in ss = flat_map committed_of (resolved ss)

-- node i, from 1, is the i-th of them; node 0 is none of them
abbrev pub node_in : List Committed → ℕ → Option Committed
node_in nodes zero = None
node_in nodes (suc i) = slice_get nodes i

unfoldable pub node_of : List ClientSession → ℕ → Option Committed
node_of ss v = node_in (committed_in ss) v

abbrev pub session_of : List ClientSession → ℕ → ℕ
session_of ss v = option_map_or (λ node. node.session) (node_of ss v) 0

abbrev pub ops_of : List ClientSession → ℕ → List Op
ops_of ss v = option_map_or (λ node. node.ops) (node_of ss v) []

abbrev pub begun_of : List ClientSession → ℕ → Option ℕ
begun_of ss v = option_and_then (λ node. node.begun) (node_of ss v)

abbrev pub ended_of : List ClientSession → ℕ → Option ℕ
ended_of ss v = option_and_then (λ node. node.ended) (node_of ss v)

-- ---- replay

-- a map from keys to identities, which has 0 everywhere at first
abbrev pub Map : Type 0
Map = List ℕ → ℕ

abbrev pub initial : Map
initial = λ key. 0

abbrev pub set : Map → List ℕ → ℕ → Map
set map key wid = λ k. if bytes_eq key k then wid else map k

-- from this map on, each read names the identity that the map has for its key
abbrev pub Replays : Map → List Op → Type 0
Replays map [] = Unit {0}
Replays map (Read key wid ∷ ops) = (map key ≡ wid) × Replays map ops
Replays map (Write key wid ∷ ops) = Replays (set map key wid) ops

-- ---- serial orders

-- The order lists nodes 1 to n once each, keeps each session's order and the order of the stated
-- moments (a node that ended before another began stands before it), and its replay, transaction by
-- transaction with nothing in between, meets every read. So of the transactions of unknown outcome
-- it lists exactly the taken ones.
pub record IsSerialOrder (ss : List ClientSession) (order : List ℕ) : Type 0 where
  pub once : ListsOnce (length (committed_in ss)) order
  pub sessions : (a b : ℕ) → 0 < a → a < b → b ≤ length (committed_in ss)
      → session_of ss a ≡ session_of ss b → Before order a b
  pub moments : (a b : ℕ) → 0 < a → a ≤ length (committed_in ss) → 0 < b
      → b ≤ length (committed_in ss) → a ≢ b → is_earlier (ended_of ss a) (begun_of ss b) ≡ true
      → Before order a b
  pub reads : Replays initial (flat_map (ops_of ss) order)

-- An order of the committed and some unknown transactions: these count as committed, and the other
-- unknown ones as aborted.
pub record IsSomeOrder (ss : List ClientSession) (order : List ℕ) : Type 0 where
  pub chosen : ℕ → Bool
  pub serial : IsSerialOrder (settled chosen ss) order
