-- The nodes of which it is stated when they ended.
use Rattle.std.specs.Prelude.{◌≡◌, ◌↔◌, ◌<◌, ◌≤◌, List, Some}
use Rattle.std.specs.List.{Contains}
use Rattle.std.specs.List.Sorted.{IsNonDecreasingBy}
use Rattle.session_log.specs.Text.{ClientSession}
use Rattle.log_definitions.specs.Serial.{ended_of}
use Rattle.log_definitions.specs.Numbers.{log_of}
use Rattle.known_graph.specs.declared.moments.Ended.{Ended}

-- each of them with its moment, in the order of these
pub record AreEnded (ss : List ClientSession) (ended : List Ended) : Type 0 where
  pub each : (e : Ended) → (Contains ended e ↔
      ((0 < e.node) × (e.node ≤ (log_of ss).nodes) × (ended_of ss e.node ≡ Some e.moment)))
  pub sorted : IsNonDecreasingBy (λ e. e.moment) ended
