-- What is said of a part: why it has no order of the level that is judged, and what the field calls it.
use Rattle.std.specs.Prelude.{ℕ, ◌⊎◌, true, false, List, Option, String, map}
use Rattle.std.specs.declared.alloc.Global.{Global}
use Rattle.session_log.specs.Text.{ClientSession, view}
use Rattle.judging.specs.declared.judged.RefutedPart.{RefutedPart}
use Rattle.judging.specs.declared.level.Level.{Level}
use Rattle.judging.specs.declared.level.Level.TheVariants as level
use Rattle.judging.specs.declared.means.JudgeMeans.{JudgeMeans}
use Rattle.part_reasons.specs.Why.{IsWhyOf, IsNamedBy, IsSaidBelow}
use Rattle.part_reasons.specs.Points.{IsSaidOfPoints}
use Rattle.part_reasons.specs.Weaker.{IsWeakerTold}

-- why it has no order of a level, and what the field calls it
abbrev pub IsSaidAt : Level → ℕ → ℕ → List ClientSession → RefutedPart → Option (String Global)
    → List ℕ → Type 0
IsSaidAt level.Serializable budget n known p name text =
    IsWhyOf p.finding budget n known p text × IsNamedBy (map view p.part.items) p.finding name text
IsSaidAt level.Snapshot budget n known p name text = IsSaidOfPoints true budget n known p name text
IsSaidAt level.Prefix budget n known p name text = IsSaidOfPoints false budget n known p name text
IsSaidAt (level.Below below) budget n known p name text = IsSaidBelow below n known p name text

-- by the level that is judged, or that a weaker one is broken too
abbrev pub IsSaid : JudgeMeans → ℕ → List ClientSession → RefutedPart → Option (String Global)
    → List ℕ → Type 0
IsSaid m n known p name text = IsSaidAt m.level m.deciding.budget n known p name text
    ⊎ IsWeakerTold m.level n known p name text
