-- A part of a log that has a snapshot order has one.
use Rattle.point_laws.proofs.Prelude.{Bool, true, false, settled}
use Rattle.part_laws.proofs.Logs.{part_is_log}
use Rattle.point_laws.specs.OfPart.{PointsOfPart, SomePointsOfPart, SnapshotOfPart, SomeSnapshotOfPart, PrefixOfPart, SomePrefixOfPart}
use Rattle.point_laws.proofs.Some.{points_of_taken}
use Rattle.point_laws.proofs.Left.{left_of}
use Rattle.point_laws.proofs.Kept.{number_back}
use Rattle.point_laws.proofs.Known.{known_part}
use Rattle.point_laws.proofs.OrderLeft.{order_left}

-- ---- the laws
pub some_points_of_part : (locked : Bool) → SomePointsOfPart locked
some_points_of_part locked ss part sound h (points, some) =
    let k = known_part some.chosen ss part sound h in
    (left_of (number_back k.nodes) points, record { chosen = some.chosen; order = order_left (settled some.chosen ss) (settled some.chosen part) k points some.order })

pub points_of_part : (locked : Bool) → PointsOfPart locked
points_of_part locked ss part legal sound h o =
    (points_of_taken locked part (part_is_log ss part legal sound h).1).0 (some_points_of_part locked ss part sound h ((points_of_taken locked ss sound).1 o))

pub some_snapshot_of_part : SomeSnapshotOfPart
some_snapshot_of_part = some_points_of_part true

pub snapshot_of_part : SnapshotOfPart
snapshot_of_part = points_of_part true

pub some_prefix_of_part : SomePrefixOfPart
some_prefix_of_part = some_points_of_part false

pub prefix_of_part : PrefixOfPart
prefix_of_part = points_of_part false
