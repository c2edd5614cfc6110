-- The polygraph of a history's chains, and its serial orders.
use Rattle.std.specs.Prelude.{◌≡◌, ◌↔◌, ◌⊎◌, ℕ, ◌≤◌, List, length, None}
use Rattle.std.specs.List.{Contains}
use Rattle.session_log.specs.Text.{ClientSession}
use Rattle.serializability.specs.Anomalies.{anomaly_of}
use Rattle.serializability.specs.Log.{Log}
use Rattle.serializability.specs.Polygraph.{Edge, Polygraph, Fits, arcs}
use Rattle.reach_laws.specs.Reach.{IsCyclic, IsCycle}
use Rattle.chain_laws.specs.Chains.{chain_polygraph, chain_choices}
use Rattle.log_definitions.specs.Serial.{IsSerialOrder}
use Rattle.polygraph.specs.declared.index.TheConstants.{MAX_CHOICES}

-- the polygraph of the log's chains: of the known edges the set counts
pub record IsChained (log : Log) (p : Polygraph) : Type 0 where
  pub nodes : p.nodes ≡ log.nodes
  pub known : (e : Edge) → (Contains p.known e ↔ Contains (chain_polygraph log).known e)
  pub choices : p.choices ≡ chain_choices log

-- the orders that fit the polygraph are the serial orders of the sessions
pub record HasItsOrders (ss : List ClientSession) (p : Polygraph) : Type 0 where
  pub each : (order : List ℕ) → (IsSerialOrder ss order ↔ Fits p order)

-- no order is a serial order of the sessions
pub record HasNoSerialOrder (ss : List ClientSession) : Type 0 where
  pub none : (order : List ℕ) → IsSerialOrder ss order → ⊥

-- neither an anomaly stands nor have the arcs a cycle, and there are at most 100,000 choices
-- between chains
pub record IsCoalesced (log : Log) : Type 0 where
  pub anomaly : anomaly_of log ≡ None
  pub acyclic : IsCyclic (arcs log) → ⊥
  pub few : length (chain_choices log) ≤ MAX_CHOICES

-- of such a log this is the polygraph of its chains, whose known edges have no cycle
pub record IsUnpruned (log : Log) (p : Polygraph) : Type 0 where
  pub coalesced : IsCoalesced log
  pub chained : IsChained log p
  pub acyclic : IsCyclic p.known → ⊥

-- a cycle of the arcs or, where these have none, of all known edges of the chains
abbrev pub IsKnownCycle : Log → List ℕ → Type 0
IsKnownCycle log line = IsCycle (arcs log) line
    ⊎ (IsCoalesced log × IsCycle (chain_polygraph log).known line)
