-- What telling a part needs of it.
use Rattle.std.specs.Prelude.{◌≡◌, List, map}
use Rattle.std.specs.List.{AllByRecursion}
use Rattle.session_log.specs.Text.{ClientSession, IsLegal, view}
use Rattle.log_definitions.specs.Unknown.{resolved}
use Rattle.log_laws.specs.Logs.{IsSoundLog}
use Rattle.judging.specs.Made.{IsMadeOf}
use Rattle.judging.specs.declared.judged.RefutedPart.{RefutedPart}
use Rattle.judging.specs.declared.judged.Verdict.{Verdict}
use Rattle.judging.specs.declared.judged.Verdict.TheVariants.{NotSerializable}

-- these are the sessions of a legal and sound log with their outcomes known
pub record IsResolved (known : List ClientSession) : Type 0 where
  pub ss : List ClientSession
  pub legal : AllByRecursion IsLegal ss
  pub sound : IsSoundLog ss
  pub is : known ≡ resolved ss

-- legal sessions, chosen of these
pub record IsPartOf (known : List ClientSession) (told : RefutedPart) : Type 0 where
  pub legal : AllByRecursion IsLegal (map view told.part.items)
  pub made : IsMadeOf known told

abbrev pub IsPartOfVerdict : List ClientSession → Verdict → Type 0
IsPartOfVerdict known (NotSerializable told) = IsPartOf known told
IsPartOfVerdict known _ = Unit {0}
