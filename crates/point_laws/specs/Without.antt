-- A log as if it stated no moments.
use Rattle.std.specs.Prelude.{Bool, true, false, List, map, None}
use Rattle.session_log.specs.Text.{ClientSession, Transaction}
use Rattle.point_laws.specs.Snapshot.{HasPointOrder}

-- a transaction without its moments
abbrev pub without : Transaction → Transaction
without t = record { ops = t.ops; outcome = t.outcome; begun = None; ended = None }

abbrev pub session_without : ClientSession → ClientSession
session_without s = record { number = s.number; txns = map without s.txns }

abbrev pub without_moments : List ClientSession → List ClientSession
without_moments ss = map session_without ss

-- leaving out the moments loses no snapshot order
abbrev pub PointsWithoutMoments : Bool → Type 0
PointsWithoutMoments locked = (ss : List ClientSession) → HasPointOrder locked ss
    → HasPointOrder locked (without_moments ss)

abbrev pub SnapshotWithoutMoments : Type 0
SnapshotWithoutMoments = PointsWithoutMoments true

abbrev pub PrefixWithoutMoments : Type 0
PrefixWithoutMoments = PointsWithoutMoments false
