-- What the steps of a judgement find.
use Rattle.std.specs.Prelude.{Bool, true, false, List}
use Rattle.session_log.specs.Text.{ClientSession}
use Rattle.session_log.specs.declared.fault.LogFault.{LogFault}
use Rattle.session_log.specs.declared.fault.LogFault.TheVariants.{OverLimit, Memory}
use Rattle.log_parts.specs.Picked.{chosen}
use Rattle.judging.specs.Levels.{HasOrderAt, IsOrderAt}
use Rattle.judging.specs.Judges.{IsRefutedLog, IsUndecidedBy, IsTried}
use Rattle.judging.specs.Made.{IsToldPart}
use Rattle.judging.specs.declared.found.Found.{Found}
use Rattle.judging.specs.declared.found.Found.TheVariants as found
use Rattle.judging.specs.declared.judged.Why.{Why}
use Rattle.judging.specs.declared.judged.Why.TheVariants.{Spent}
use Rattle.judging.specs.declared.judged.Verdict.{Verdict}
use Rattle.judging.specs.declared.judged.Verdict.TheVariants as verdict
use Rattle.judging.specs.declared.level.Level.TheVariants.{Serializable}
use Rattle.judging.specs.declared.judged.Tried.{Tried}
use Rattle.judging.specs.declared.judged.Tried.TheVariants.{Nothing, NotSerial, PartSerial, PartOpen}
use Rattle.judging.specs.declared.trial.Attempt.{Attempt}
use Rattle.judging.specs.declared.trial.Attempt.TheVariants as attempt
use Rattle.judging.specs.declared.means.JudgeMeans.{JudgeMeans}
use Rattle.judging.specs.declared.judging.Whole.{Whole}
use Rattle.judging.specs.declared.judging.Whole.TheVariants as whole

-- what is found of a log: that the log that is judged for it has this order, that it has none, or
-- that it is not decided
abbrev pub IsFound : JudgeMeans → List ClientSession → Found → Type 0
IsFound m ss (found.Serial order) = IsOrderAt m.level ss order
IsFound m ss (found.Refuted finding) = IsRefutedLog m.level ss finding
IsFound m ss (found.Undecided why) = IsUndecidedBy m ss why

-- a search closed as many cubes as it may, and found nothing
abbrev pub is_spent_why : Why → Bool
is_spent_why (Spent closed) = true
is_spent_why _ = false

abbrev pub is_spent : Found → Bool
is_spent (found.Serial order) = false
is_spent (found.Refuted finding) = false
is_spent (found.Undecided why) = is_spent_why why

-- with the means of a judgement at some level, for one of serializability
abbrev pub of_serial : JudgeMeans → JudgeMeans
of_serial m = record m { level = Serializable }

-- the fault is a limit, or that memory was refused
abbrev pub IsLimitOrMemory : LogFault → Type 0
IsLimitOrMemory (OverLimit which) = Unit {0}
IsLimitOrMemory Memory = Unit {0}
IsLimitOrMemory _ = ⊥

-- what became of this part
abbrev pub IsTriedOf : JudgeMeans → List ClientSession → Tried → Type 0
IsTriedOf m part Nothing = ⊥
IsTriedOf m part NotSerial = ⊥
IsTriedOf m part PartSerial = HasOrderAt m.level part
IsTriedOf m part (PartOpen why) = IsUndecidedBy m part why

-- what the part of these flags says: that there is a part of its transactions that has no order, and
-- so the log has none; or what became of it
abbrev pub IsAttempt : JudgeMeans → List ClientSession → List (List Bool) → Attempt → Type 0
IsAttempt m ss flags (attempt.Refuted told) = IsToldPart m.level ss told
IsAttempt m ss flags (attempt.Open tried) = IsTriedOf m (chosen flags ss) tried

-- what is said, and which part is told
abbrev pub IsSaid : JudgeMeans → List ClientSession → Verdict → Type 0
IsSaid m ss (verdict.Serializable order) = IsOrderAt m.level ss order.items
IsSaid m ss (verdict.NotSerializable told) = IsToldPart m.level ss told
IsSaid m ss (verdict.Undecided why tried) = IsUndecidedBy m ss why × IsTried m ss tried

-- what is found of the whole: a verdict, or why it is not decided
abbrev pub IsWhole : JudgeMeans → List ClientSession → Whole → Type 0
IsWhole m ss (whole.Done verdict) = IsSaid m ss verdict
IsWhole m ss (whole.Open why) = IsUndecidedBy m ss why
