-- Snapshot orders of the parts of a log.
use Rattle.std.specs.Prelude.{Bool, true, false, List}
use Rattle.std.specs.List.{AllByRecursion}
use Rattle.session_log.specs.Text.{ClientSession, IsLegal}
use Rattle.log_laws.specs.Logs.{IsSoundLog}
use Rattle.part_laws.specs.Parts.{IsPart}
use Rattle.point_laws.specs.Snapshot.{HasPointOrder, HasSomePointOrder}

-- where the committed and some unknown transactions of a log have a snapshot order, those of a part
-- of it have one
abbrev pub SomePointsOfPart : Bool → Type 0
SomePointsOfPart locked = (ss part : List ClientSession) → IsSoundLog ss → IsPart ss part
    → HasSomePointOrder locked ss → HasSomePointOrder locked part

abbrev pub SomeSnapshotOfPart : Type 0
SomeSnapshotOfPart = SomePointsOfPart true

abbrev pub SomePrefixOfPart : Type 0
SomePrefixOfPart = SomePointsOfPart false

-- a part of a log that has a snapshot order has one
abbrev pub PointsOfPart : Bool → Type 0
PointsOfPart locked = (ss part : List ClientSession) → AllByRecursion IsLegal ss → IsSoundLog ss
    → IsPart ss part → HasPointOrder locked ss → HasPointOrder locked part

abbrev pub SnapshotOfPart : Type 0
SnapshotOfPart = PointsOfPart true

abbrev pub PrefixOfPart : Type 0
PrefixOfPart = PointsOfPart false
