-- Each serial order of the log in which writers are split is, by the points of its nodes, a snapshot order; so it is enough to split those.
use Rattle.point_laws.proofs.Prelude.{List, sym, subst, flat_map, ClientSession, settled, taken, IsSerialOrder, ops_settled, resolved_is, IsPointOrder, split_writers, SnapshotByWriters, points_from, points_at, points_along, PointsOfWriters}
use Rattle.point_laws.proofs.Parted.{is_parted, points_of_writer}
use Rattle.point_laws.proofs.Orders.{writer_test, points_from_serial}
use Rattle.point_laws.proofs.Resolved.{settled_sound, settled_learnt, same_fresh, to_nodes, from_nodes, resolved_nodes, Snapshots, of_resolved}

pub points_of_writers : PointsOfWriters
points_of_writers ss locks sound fresh order h = from_nodes ss (points_along ss order) (subst (λ nodes. Snapshots locks.taken nodes (flat_map (points_at (points_from 1 nodes)) order)) (resolved_nodes ss) (to_nodes other (points_along other order) of_other))
  where
    other : List ClientSession
    other = settled (taken ss) ss

    of_other : IsPointOrder locks.taken (settled (taken ss) ss) (points_along (settled (taken ss) ss) order)
    of_other =
        subst (IsPointOrder locks.taken (settled (taken ss) ss)) (sym (points_of_writer (settled (taken ss) ss) order))
        (points_from_serial (is_parted writer_test locks (settled (taken ss) ss) (settled_learnt (taken ss) ss)) (settled_sound (taken ss) ss sound) (settled_learnt (taken ss) ss) (same_fresh locks ss (settled (taken ss) ss) (ops_settled (taken ss) ss) fresh) order (subst (λ xs. IsSerialOrder (split_writers locks xs) order) (resolved_is ss) h))

pub snapshot_by_writers : SnapshotByWriters
snapshot_by_writers = of_resolved writer_test
