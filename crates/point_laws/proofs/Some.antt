-- Of the transactions of unknown outcome a snapshot order needs the taken ones, and no others.
use Rattle.point_laws.proofs.Prelude.{Bool, true, false, ◌∷◌, sym, Apart-from_IsDistinct, ops_in, settled, taken, written, taken_closed, taken_least, HasPointOrder, HasSomePointOrder, PointsOfTaken, SnapshotOfTaken, PrefixOfTaken}
use Rattle.point_laws.proofs.Resolved.{of_same_nodes, resolved_nodes}
use Rattle.point_laws.proofs.Chosen.{chosen_closed}
use Rattle.point_laws.proofs.Left.{left_of}
use Rattle.point_laws.proofs.Kept.{number_back}
use Rattle.point_laws.proofs.Known.{known_taken}
use Rattle.point_laws.proofs.OrderLeft.{order_left}

-- ---- the law
pub points_of_taken : (locked : Bool) → PointsOfTaken locked
points_of_taken locked ss sound = (to, from)
  where
    to : HasSomePointOrder locked ss → HasPointOrder locked ss
    to (points, some) =
        let apart = Apart-from_IsDistinct (0 ∷ written (ops_in ss)) sound.writes in
        let closed = chosen_closed some.chosen ss points apart some.order in
        let k = known_taken some.chosen (taken ss) ss apart.1 (taken_closed ss) (taken_least ss some.chosen closed) in
        of_same_nodes (settled (taken ss) ss) ss (resolved_nodes ss) (left_of (number_back k.nodes) points, order_left (settled some.chosen ss) (settled (taken ss) ss) k points some.order)

    from : HasPointOrder locked ss → HasSomePointOrder locked ss
    from h = let r = of_same_nodes ss (settled (taken ss) ss) (sym (resolved_nodes ss)) h in (r.0, record { chosen = taken ss; order = r.1 })

pub snapshot_of_taken : SnapshotOfTaken
snapshot_of_taken = points_of_taken true

pub prefix_of_taken : PrefixOfTaken
prefix_of_taken = points_of_taken false
