-- What the steps before a search make of sessions.
use Rattle.std.specs.Prelude.{◌≡◌, ℕ, ◌<◌, ◌≤◌, List, length, Option, None, Some}
use Rattle.std.specs.List.{All}
use Rattle.session_log.specs.Text.{ClientSession}
use Rattle.serializability.specs.declared.anomaly.Anomaly.{Anomaly}
use Rattle.serializability.specs.Polygraph.{Polygraph, arcs}
use Rattle.serializability.specs.Anomalies.{anomaly_of}
use Rattle.reach_laws.specs.Reach.{IsCyclic}
use Rattle.chain_laws.specs.Chains.{chain_choices}
use Rattle.log_definitions.specs.Numbers.{log_of}
use Rattle.polygraph.specs.declared.fault.PolyFault.{PolyFault}
use Rattle.polygraph.specs.declared.fault.PolyFault.TheVariants.{TooManyChoices, Memory}
use Rattle.prune_ledger.specs.declared.ledger.Ledger.{Ledger}
use Rattle.prune_ledger.specs.Pruned.{Remainder, IsDeadBy, IsRemainder}
use Rattle.reduction.specs.declared.outcome.Reduction.{Reduction}
use Rattle.reduction.specs.declared.outcome.Reduction.TheVariants.{Anomalous, Cyclic, Dead, Open}
use Rattle.reduction.specs.Chained.{HasItsOrders, HasNoSerialOrder, IsUnpruned, IsKnownCycle}
use Rattle.polygraph.specs.declared.index.TheConstants.{MAX_CHOICES}

-- the anomaly that is reported, where there is one
abbrev pub anomaly_in : Reduction → Option Anomaly
anomaly_in (Anomalous a) = Some a
anomaly_in (Cyclic line) = None
anomaly_in (Dead ledger) = None
anomaly_in (Open choices reduced) = None

-- the line is a cycle of what is known, between nodes of the log
pub record IsCyclicHistory (ss : List ClientSession) (line : List ℕ) : Type 0 where
  pub cycle : IsKnownCycle (log_of ss) line
  pub within : All (λ v. v ≤ (log_of ss).nodes) line
  pub orders : HasNoSerialOrder ss

-- the known edges of the chains have no cycle, and the ledger shows that the polygraph of the
-- chains is dead
pub record IsDeadHistory (ss : List ClientSession) (ledger : Ledger) : Type 0 where
  pub poly : Polygraph
  pub unpruned : IsUnpruned (log_of ss) poly
  pub dead : IsDeadBy poly ledger
  pub orders : HasNoSerialOrder ss

-- this is what pruning leaves of the polygraph of the chains, and the orders that fit it are the
-- serial ones
pub record IsOpenHistory (ss : List ClientSession) (reduced : Remainder) : Type 0 where
  pub poly : Polygraph
  pub unpruned : IsUnpruned (log_of ss) poly
  pub left : IsRemainder poly reduced
  pub orders : HasItsOrders ss reduced.poly

-- the polygraph of the chains has so many choices, and this is what pruning leaves of it
pub record IsCountedHistory (ss : List ClientSession) (choices : ℕ)
    (reduced : Remainder) : Type 0 where
  pub counted : choices ≡ length (chain_choices (log_of ss))
  pub left : IsOpenHistory ss reduced

-- of the anomaly that is reported `anomaly_in` speaks
abbrev pub IsReduction : List ClientSession → Reduction → Type 0
IsReduction ss (Anomalous a) = HasNoSerialOrder ss
IsReduction ss (Cyclic line) = IsCyclicHistory ss line.items
IsReduction ss (Dead ledger) = IsDeadHistory ss ledger
IsReduction ss (Open choices reduced) = IsCountedHistory ss choices reduced

-- where neither an anomaly stands nor the arcs have a cycle, there are more than 100,000 choices
-- between chains; of want of memory nothing is said
abbrev pub IsReduceFault : List ClientSession → PolyFault → Type 0
IsReduceFault ss TooManyChoices = (anomaly_of (log_of ss) ≡ None)
    × (IsCyclic (arcs (log_of ss)) → ⊥) × (MAX_CHOICES < length (chain_choices (log_of ss)))
IsReduceFault ss Memory = Unit {0}
