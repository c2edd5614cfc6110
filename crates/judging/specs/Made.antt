-- Which part of a log is told.
use Rattle.std.specs.Prelude.{◌≡◌, Bool, List, map, Option, Some, None, Vec}
use Rattle.std.specs.declared.alloc.Global.{Global}
use Rattle.session_log.specs.Text.{ClientSession, view}
use Rattle.log_definitions.specs.Unknown.{resolved}
use Rattle.judging.specs.Levels.{HasNoOrderAt}
use Rattle.judging.specs.declared.level.Level.{Level}
use Rattle.judging.specs.Judges.{IsRefutedPart}
use Rattle.log_parts.specs.Picked.{flags_view, chosen}
use Rattle.judging.specs.declared.judged.RefutedPart.{RefutedPart}
use Rattle.judging.specs.declared.judged.Verdict.{Verdict}
use Rattle.judging.specs.declared.judged.Verdict.TheVariants.{NotSerializable}

-- these are what the flags choose of the sessions, or all of them
abbrev pub IsChosen : List ClientSession → List ClientSession
    → Option (Vec (Vec Bool Global) Global) → Type 0
IsChosen known part (Some flags) = part ≡ chosen (flags_view flags.items) known
IsChosen known part None = part ≡ known

-- the part is what its flags choose of the sessions with their outcomes known, or all of these
abbrev pub IsMadeOf : List ClientSession → RefutedPart → Type 0
IsMadeOf known told = IsChosen known (map view told.part.items) told.flags

abbrev pub IsMade : List ClientSession → Verdict → Type 0
IsMade known (NotSerializable told) = IsMadeOf known told
IsMade known _ = Unit {0}

-- a part that is told of a log: it has no order, so the log has none, and it is what its flags choose
-- of the sessions with their outcomes known
pub record IsToldPart (level : Level) (ss : List ClientSession) (told : RefutedPart)
    : Type 0 where
  pub none : HasNoOrderAt level ss
  pub part : IsRefutedPart level ss (map view told.part.items) told.finding
  pub made : IsMadeOf (resolved ss) told
