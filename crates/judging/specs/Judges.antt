-- What is said of a log of any length.
use Rattle.std.specs.Prelude.{◌≡◌, ◌≢◌, ◌⊎◌, ℕ, true, false, List, map, Some, None}
use Rattle.session_log.specs.Text.{ClientSession, view}
use Rattle.serializability.specs.Anomalies.{anomaly_of}
use Rattle.serializability.specs.declared.anomaly.Anomaly.{Anomaly as Reported}
use Rattle.log_definitions.specs.Unknown.{resolved}
use Rattle.log_definitions.specs.Numbers.{log_of}
use Rattle.part_laws.specs.Parts.{IsPart}
use Rattle.polygraph.specs.declared.fault.PolyFault.TheVariants as poly_fault
use Rattle.prune_ledger.specs.declared.ledger.Ledger.{Ledger}
use Rattle.prune_ledger.specs.Pruned.{Remainder}
use Rattle.cube_laws.specs.declared.tree.TreeNode.{TreeNode}
use Rattle.reduction.specs.Outcome.{IsDeadHistory, IsOpenHistory, IsReduceFault}
use Rattle.branch_search.specs.declared.answer.Answer.TheVariants.{Unknown}
use Rattle.splitting.specs.Locks.{no_room}
use Rattle.deciding.specs.Decides.{IsSearched, IsCycleOf, IsRefutedBy}
use Rattle.solving.specs.Solved.{IsRefutedFor}
use Rattle.judging.specs.Limits.{IsOver}
use Rattle.level_laws.specs.declared.level.Level.{Level as BelowLevel}
use Rattle.level_refutations.specs.declared.evidence.Evidence.{Evidence}
use Rattle.level_refutations.specs.Refuted.{is_refuted}
use Rattle.judging.specs.Levels.{judged_at, HasOrderAt, HasNoOrderAt, HasRoomAt, IsOrderAt}
use Rattle.judging.specs.declared.level.Level.{Level}
use Rattle.judging.specs.declared.level.Level.TheVariants.{Serializable, Snapshot, Prefix, Below}
use Rattle.judging.specs.declared.judged.Finding.{Finding}
use Rattle.judging.specs.declared.judged.Finding.TheVariants.{Anomaly, Cycle, Dead, Refuted, Formula, Overlooked}
use Rattle.judging.specs.declared.judged.Why.{Why}
use Rattle.judging.specs.declared.judged.Why.TheVariants.{Spent, TooLarge, TooManyChoices, NoRoom, NotBegun, NotShown}
use Rattle.judging.specs.declared.means.JudgeMeans.{JudgeMeans}
use Rattle.judging.specs.declared.judged.Tried.{Tried}
use Rattle.judging.specs.declared.judged.Tried.TheVariants.{Nothing, NotSerial, PartSerial, PartOpen}
use Rattle.judging.specs.declared.judged.Verdict.{Verdict}
use Rattle.judging.specs.declared.judged.Verdict.TheVariants as verdict

-- ---- a log that is judged by itself

-- neither an anomaly nor a cycle stands against a log, and pruning leaves choices open
abbrev pub IsLeftOpen : List ClientSession → Type 0
IsLeftOpen ss = (left : Remainder) × IsOpenHistory ss left

-- what stands against a log: the anomaly that is reported; a cycle of what is known; a ledger of
-- pruning, which ends in a cycle; a tree that refutes every cube; or, where none of the first three
-- does, that its reduced formula cannot be satisfied
abbrev pub Finds : List ClientSession → Finding → Type 0
Finds ss (Anomaly a) = anomaly_of (log_of ss) ≡ Some a
Finds ss Cycle = (line : List ℕ) × IsCycleOf ss line
Finds ss Dead = (ledger : Ledger) × IsDeadHistory ss ledger
Finds ss Refuted = (budget : ℕ) × (left : Remainder) × (tree : List TreeNode)
    × IsRefutedBy budget ss left tree
Finds ss Formula = IsRefutedFor false ss × IsLeftOpen ss
Finds ss Overlooked = ⊥

-- what stands against a log at a level below prefix: evidence, of which each place can be looked up
abbrev pub FindsBelow : BelowLevel → List ClientSession → Finding → Type 0
FindsBelow below ss Overlooked = (evidence : Evidence) × (is_refuted below ss evidence ≡ true)
FindsBelow below ss _ = ⊥

-- an anomaly of these sessions themselves, in place of one of their split log
pub record IsOwnOf (ss : List ClientSession) (first finding : Finding) : Type 0 where
  pub of_split : Reported
  pub own : Reported
  pub was : first ≡ Anomaly of_split
  pub told : finding ≡ Anomaly own
  pub reported : anomaly_of (log_of ss) ≡ Some own

-- what stands against the split log of these sessions; or, of an anomaly there, their own
pub record FindsIn (judged ss : List ClientSession) (finding : Finding) : Type 0 where
  pub first : Finding
  pub finds : Finds judged first
  pub told : (finding ≡ first) ⊎ IsOwnOf ss first finding

-- what stands against a log at a level, in the log that is judged for it
abbrev pub FindsAt : Level → List ClientSession → Finding → Type 0
FindsAt Serializable ss finding = Finds ss finding
FindsAt Snapshot ss finding = FindsIn (judged_at Snapshot ss) ss finding
FindsAt Prefix ss finding = FindsIn (judged_at Prefix ss) ss finding
FindsAt (Below below) ss finding = FindsBelow below ss finding

-- no order of the level explains the log's committed and any unknown transactions, and why: in the
-- log that is judged for it, whose locks have room
pub record IsRefutedLog (level : Level) (ss : List ClientSession) (finding : Finding)
    : Type 0 where
  pub none : HasNoOrderAt level ss
  pub room : HasRoomAt level ss
  pub found : FindsAt level ss finding

-- why a log is not decided: the search of the log that is judged closed as many cubes as it may, and
-- found nothing; it has too many of something; its chains have too many choices; names of locks have
-- no room; a time was set, of which no more is said; or the level is below prefix, of which no more is
-- said either
abbrev pub IsUndecidedBy : JudgeMeans → List ClientSession → Why → Type 0
IsUndecidedBy m ss (Spent closed) = (closed ≡ m.deciding.budget)
    × IsSearched m.deciding.budget (judged_at m.level ss) (Unknown closed)
IsUndecidedBy m ss (TooLarge which) = IsOver (judged_at m.level ss) which
IsUndecidedBy m ss TooManyChoices = IsReduceFault (judged_at m.level ss) poly_fault.TooManyChoices
IsUndecidedBy m ss (NoRoom why) = (m.level ≡ Snapshot) × (no_room ss ≡ Some why)
IsUndecidedBy m ss NotBegun = m.deadline ≢ None
IsUndecidedBy m ss NotShown = (below : BelowLevel) × (m.level ≡ Below below)

-- ---- the whole

-- it is a part of the log, whose unknown outcomes are resolved; it has no order, and why
pub record IsRefutedPart (level : Level) (ss part : List ClientSession) (finding : Finding)
    : Type 0 where
  pub is_part : IsPart (resolved ss) part
  pub refuted : IsRefutedLog level part finding

-- a part of the log that has an order, or that is not decided, and why
pub record IsSerialPart (level : Level) (ss part : List ClientSession) : Type 0 where
  pub is_part : IsPart (resolved ss) part
  pub order : HasOrderAt level part

pub record IsOpenPart (m : JudgeMeans) (ss part : List ClientSession) (why : Why) : Type 0 where
  pub is_part : IsPart (resolved ss) part
  pub undecided : IsUndecidedBy m part why

-- what became of what was proposed
abbrev pub IsTried : JudgeMeans → List ClientSession → Tried → Type 0
IsTried m ss Nothing = Unit {0}
IsTried m ss NotSerial = Unit {0}
IsTried m ss PartSerial = (part : List ClientSession) × IsSerialPart m.level ss part
IsTried m ss (PartOpen why) = (part : List ClientSession) × IsOpenPart m ss part why

-- That the log has an order of the level, of the committed and of the taken transactions, and which;
-- that none of the committed and of any unknown ones explains it, since this part of it has none; or
-- that it is not decided: then the log itself was searched in vain, or is too large to be.
abbrev pub IsVerdict : JudgeMeans → List ClientSession → Verdict → Type 0
IsVerdict m ss (verdict.Serializable order) = IsOrderAt m.level ss order.items
IsVerdict m ss (verdict.NotSerializable told) = HasNoOrderAt m.level ss
    × IsRefutedPart m.level ss (map view told.part.items) told.finding
IsVerdict m ss (verdict.Undecided why tried) = IsUndecidedBy m ss why × IsTried m ss tried

-- ---- a log that `check` takes

-- why it is not decided: its search closed as many cubes as it may, and found nothing; or its chains
-- have too many choices
abbrev pub IsInVain : JudgeMeans → List ClientSession → Why → Type 0
IsInVain m ss (Spent closed) = (closed ≡ m.deciding.budget)
    × IsSearched m.deciding.budget ss (Unknown closed)
IsInVain m ss TooManyChoices = IsReduceFault ss poly_fault.TooManyChoices
IsInVain m ss _ = ⊥
