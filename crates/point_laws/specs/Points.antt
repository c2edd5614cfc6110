-- The points of an order of the log in which only the transactions that write are split.
use Rattle.std.specs.Prelude.{ℕ, zero, suc, ◌+◌, if◌then◌else◌, List, [], ◌∷◌, ◌++◌, unwrap_or, slice_get}
use Rattle.std.specs.List.{flat_map, list_any}
use Rattle.session_log.specs.Text.{ClientSession, is_write}
use Rattle.session_log.specs.declared.session.Op.{Op}
use Rattle.log_definitions.specs.Unknown.{resolved}
use Rattle.log_definitions.specs.Serial.{Committed, committed_in, IsSerialOrder}
use Rattle.log_laws.specs.Logs.{IsSoundLog}
use Rattle.point_laws.specs.Snapshot.{Point, snapshot, commit, IsPointOrder}
use Rattle.point_laws.specs.Split.{Locks, AreFresh, split_writers}

-- the points of its nodes that stand for node v: the snapshot and the commit apart, if it writes
abbrev pub points_of_node : ℕ → List Op → List (List Point)
points_of_node v ops = if list_any is_write ops then ((snapshot v ∷ []) ∷ (commit v ∷ []) ∷ []) else
    ((snapshot v ∷ commit v ∷ []) ∷ [])

-- of those that stand for these nodes, the first of which has this number
abbrev pub points_from : ℕ → List Committed → List (List Point)
points_from v [] = []
points_from v (c ∷ nodes) = points_of_node v c.ops ++ points_from (v + 1) nodes

abbrev pub points_at : List (List Point) → ℕ → List Point
points_at table zero = []
points_at table (suc i) = unwrap_or (slice_get table i) []

-- the points of its nodes, one node after the other
abbrev pub points_along : List ClientSession → List ℕ → List Point
points_along ss order = flat_map (points_at (points_from 1 (committed_in ss))) order

-- each serial order of it is, by these points, a snapshot order
abbrev pub PointsOfWriters : Type 0
PointsOfWriters = (ss : List ClientSession) (locks : Locks) → IsSoundLog ss → AreFresh locks ss
    → (order : List ℕ) → IsSerialOrder (split_writers locks (resolved ss)) order
    → IsPointOrder locks.taken ss (points_along ss order)
