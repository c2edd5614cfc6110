-- What `audit` makes of a log of any length.
use Rattle.std.specs.Prelude.{◌≡◌, ◌≢◌, ◌⊎◌, ℕ, ◌+◌, ◌-◌, ◌<◌, ◌≤◌, ◌||◌, ◌&&◌, Bool, true, false, not, if◌then◌else◌, List, [], ◌∷◌, length, map, count_by, Option, Some, None, is_some, Vec, string_bytes}
use Rattle.std.specs.List.{list_any, AllByRecursion}
use Rattle.std.specs.declared.alloc.Global.{Global}
use Rattle.session_log.specs.Text.{ClientSession, Transaction, view, least_version, log_text}
use Rattle.session_log.specs.Version.{first_line, version_of}
use Rattle.session_log.specs.declared.fault.LogFault.{LogFault}
use Rattle.session_log.specs.declared.fault.LogFault.TheVariants.{Memory}
use Rattle.log_definitions.specs.Unknown.{txns_in, is_committed, resolved}
use Rattle.log_definitions.specs.Serial.{IsSerialOrder}
use Rattle.long_log_definitions.specs.LongLog.{IsLongLog, IsLongLogFault}
use Rattle.long_log_definitions.specs.declared.limits.TheConstants.{MAX_LONG_LOG_BYTES}
use Rattle.fault_words.specs.Words.{IsSaidOf}
use Rattle.order_text.specs.Text.{order_text}
use Rattle.call_options.specs.declared.format.Format.{Format}
use Rattle.call_options.specs.declared.format.Format.TheVariants as format
use Rattle.call_options.specs.declared.report_form.ReportForm.{ReportForm}
use Rattle.call_options.specs.declared.report_form.ReportForm.TheVariants.{Text, Json}
use Rattle.judging.specs.Levels.{HasOrderAt, HasNoOrderAt}
use Rattle.judging.specs.Judges.{IsVerdict}
use Rattle.judging.specs.Made.{IsToldPart}
use Rattle.point_laws.specs.Snapshot.{Point, IsSnapshotOrder, IsPrefixOrder}
use Rattle.level_laws.specs.Seen.{IsLevelOrder}
use Rattle.point_laws.specs.Without.{without_moments}
use Rattle.point_orders.specs.Text.{points_text}
use Rattle.judging.specs.declared.level.Level.{Level}
use Rattle.judging.specs.declared.level.Level.TheVariants as level
use Rattle.judging.specs.declared.judged.Why.{Why}
use Rattle.judging.specs.declared.judged.Tried.{Tried}
use Rattle.judging.specs.declared.judged.Verdict.{Verdict}
use Rattle.judging.specs.declared.judged.Verdict.TheVariants as verdict
use Rattle.judging.specs.declared.means.JudgeMeans.{JudgeMeans}
use Rattle.part_reasons.specs.Apart.{IsSerialApartWhere}
use Rattle.audit_report.specs.Counts.{AreCounts}
use Rattle.audit_command.specs.Distinct.{AreDistinct, AreLeastFirst, adds_nothing, is_told_by}
use Rattle.isolation.specs.declared.level.Isolation.{Isolation}
use Rattle.isolation.specs.declared.level.Isolation.TheVariants as isolation
use Rattle.judging.specs.declared.judged.RefutedPart.{RefutedPart}
use Rattle.audit_command.specs.Levels.{judged_of, is_above, asks_moments}
use Rattle.audit_report.specs.Lower.{weakest_of}
use Rattle.audit_report.specs.declared.told.Lower.{Lower}
use Rattle.audit_report.specs.Words.{status_of, is_kept}
use Rattle.audit_command.specs.Places.{told_by}
use Rattle.audit_report.specs.Report.{report_text}
use Rattle.part_reasons.specs.Said.{IsSaid}
use Rattle.part_reasons.specs.Drawn.{IsDrawnWhere}
use Rattle.audit_report.specs.Graph.{graph_text}
use Rattle.part_reasons.specs.Why.{told_where}
use Rattle.audit_command.specs.Printed.{IsLine, AreLines}
use Rattle.audit_report.specs.Objects.{report_object, refusal_object, parts_of}
use Rattle.audit_command.specs.declared.options.AuditOptions.{AuditOptions}
use Rattle.audit_report.specs.declared.told.ToldPart.{ToldPart}
use Rattle.audit_report.specs.declared.told.Word.{Word}
use Rattle.audit_report.specs.declared.told.Word.TheVariants as word
use Rattle.audit_report.specs.declared.told.Answer.{Answer}
use Rattle.audit_report.specs.declared.told.Answer.TheVariants as answer
use Rattle.audit_report.specs.declared.told.Totals.{Totals}
use Rattle.audit_report.specs.declared.told.Told.{Told}
use Rattle.audit_command.specs.declared.weaker.Side.{Side}
use Rattle.audit_command.specs.declared.weaker.Side.TheVariants as side
use Rattle.audit_command.specs.declared.weaker.Weaker.{Weaker}
use Rattle.audit_command.specs.declared.telling.Answered.{Answered}
use Rattle.audit_report.specs.declared.files.PartFile.{PartFile}
use Rattle.audit_command.specs.declared.known.Known.{Known}
use Rattle.audit_command.specs.declared.outcome.Audited.{Audited}
use Rattle.audit_command.specs.declared.outcome.Refusal.{Refusal}
use Rattle.audit_command.specs.declared.outcome.Refusal.TheVariants as refusal

-- the sessions that are judged: without their moments, where that is asked for
abbrev pub seen : Bool → List ClientSession → List ClientSession
seen no_moments ss = if no_moments then without_moments ss else ss

-- the committed transactions
abbrev pub nodes_in : List ClientSession → ℕ
nodes_in ss = count_by is_committed (txns_in ss)

-- the counts; the taken transactions are the nodes that no commit made
pub record AreTotals (ss : List ClientSession) (t : Totals) : Type 0 where
  pub counts : AreCounts ss t.counts
  pub taken : t.taken ≡ nodes_in (resolved ss) - nodes_in ss

-- ---- the answer

-- it is told of a part of the log that it has no order, and so the log has none; its transactions
-- are told by their names and lines in the log, whose first session begins at line n; and why it has
-- none, where that is asked for, with the name that goes with it, and whether it has one without the
-- order of sessions
pub record IsPartTold (o : AuditOptions) (n : ℕ) (ss : List ClientSession) (p : ToldPart)
    : Type 0 where
  pub part : IsToldPart o.means.level ss p.refuted
  pub txns : p.txns.items ≡ told_by p.refuted.flags n (resolved ss)
  pub is_serial_apart : IsSerialApartWhere o.explain o.means (map view p.refuted.part.items)
      p.is_serial_apart
  pub said : (text : List ℕ) × IsSaid o.means n (resolved ss) p.refuted p.known_as text
      × (p.why.items ≡ told_where o.explain text)
  pub drawn : IsDrawnWhere o.explanation o.means n (resolved ss) p.refuted p.graph.items

abbrev pub AreToldParts : AuditOptions → ℕ → List ClientSession → List ToldPart → Type 0
AreToldParts o n ss parts = AllByRecursion (IsPartTold o n ss) parts

-- of these parts, one at least and no more than are asked for, the least stands first, and no two
-- have the same transactions
pub record AreParts (o : AuditOptions) (n : ℕ) (ss : List ClientSession)
    (parts : List ToldPart) : Type 0 where
  pub some : 0 < length parts
  pub at_most : length parts ≤ 1 + (o.faults - 1)
  pub least_first : AreLeastFirst parts
  pub distinct : AreDistinct parts
  pub told : AreToldParts o n ss parts

-- it is not decided, and why
abbrev pub IsOpen : JudgeMeans → List ClientSession → Type 0
IsOpen m ss = (why : Why) × (tried : Tried) × IsVerdict m ss (verdict.Undecided why tried)

-- whether a committed transaction states when it began, or when it ended
abbrev pub states_moment : Side → Transaction → Bool
states_moment side.Begun t = is_committed t && is_some t.begun
states_moment side.Ended t = is_committed t && is_some t.ended

abbrev pub some_state : Side → List Transaction → Bool
some_state side ts = list_any (states_moment side) ts

abbrev pub one_states : Side → List ClientSession → Bool
one_states side ss = list_any (λ s. some_state side s.txns) ss

-- some state the one, and some the other: without both, the order of real time says nothing. It is asked
-- of what the log comes to: a taken transaction counts
abbrev pub states_moments : List ClientSession → Bool
states_moments ss = one_states side.Begun ss && one_states side.Ended ss

-- That the sessions have an order of the level, at least so many are committed, and moments are
-- stated where the level is one of these; that they have one, and state no moments; that they have
-- none, since each of these parts has none; that they have one or are not decided, and fewer are
-- committed, and how many; or that they are not decided.
abbrev pub IsAnswer : AuditOptions → ℕ → List ClientSession → Answer → Type 0
IsAnswer o n ss answer.Serializable = HasOrderAt o.means.level ss × (o.at_least ≤ nodes_in ss)
    × (asks_moments o.level ≡ true → states_moments (resolved ss) ≡ true)
IsAnswer o n ss answer.NoMoments = HasOrderAt o.means.level ss × (o.at_least ≤ nodes_in ss)
    × (asks_moments o.level ≡ true) × (states_moments (resolved ss) ≡ false)
IsAnswer o n ss (answer.NotSerializable parts) = AreParts o n ss parts.items
IsAnswer o n ss (answer.TooFew committed asked) = (committed ≡ nodes_in ss)
    × (asked ≡ o.at_least) × (committed < o.at_least)
    × (HasOrderAt o.means.level ss ⊎ IsOpen o.means ss)
IsAnswer o n ss (answer.Undecided reason advice) = IsOpen o.means ss × (o.at_least ≤ nodes_in ss)
    × IsLine (string_bytes reason) × AreLines advice.items

-- ---- without moments and at weaker levels

-- the word is the verdict on these sessions
abbrev pub IsWord : JudgeMeans → List ClientSession → Word → Type 0
IsWord m ss word.Serializable = HasOrderAt m.level ss
IsWord m ss word.NotSerializable = HasNoOrderAt m.level ss
IsWord m ss word.Unknown = IsOpen m ss

-- it is, where it is asked for
abbrev pub IsWordWhere : JudgeMeans → List ClientSession → Bool → Option Word → Type 0
IsWordWhere m ss asked None = asked ≡ false
IsWordWhere m ss asked (Some w) = (asked ≡ true) × IsWord m ss w

-- they are asked for: a level was not kept or is not decided, and more than the first line is told
abbrev pub asks_levels : AuditOptions → Answer → Bool
asks_levels o (answer.NotSerializable parts) = not o.quiet && not o.only
asks_levels o (answer.Undecided reason advice) = not o.quiet && not o.only
asks_levels o _ = false

abbrev pub is_serial : Level → Bool
is_serial level.Serializable = true
is_serial _ = false

-- serial orders are asked for without moments, and snapshot isolation in the order of the stated ones;
-- and it is asked for without moments
abbrev pub asks_strict : AuditOptions → List ClientSession → Answer → Bool
asks_strict o ss a = asks_levels o a && is_serial o.means.level && states_moments (resolved ss)

abbrev pub asks_plain : AuditOptions → List ClientSession → Answer → Bool
asks_plain o ss a = asks_levels o a && (is_serial o.means.level || states_moments (resolved ss))

abbrev pub at_snapshot : JudgeMeans → JudgeMeans
at_snapshot m = record m { level = level.Snapshot }

abbrev pub asked_at_snapshot : AuditOptions → AuditOptions
asked_at_snapshot o = record o { means = at_snapshot o.means }

-- the verdict, in a word
abbrev pub verdict_word : Verdict → Word
verdict_word (verdict.Serializable order) = word.Serializable
verdict_word (verdict.NotSerializable told) = word.NotSerializable
verdict_word (verdict.Undecided why tried) = word.Unknown

-- the part, unless it adds nothing to one of these
abbrev pub unless_told : ToldPart → List ToldPart → Option ToldPart
unless_told p parts = if is_told_by p parts then None else Some p

-- a part that has no snapshot order; it is told, unless it adds nothing to one of the answer
pub record IsShown (o : AuditOptions) (n : ℕ) (ss : List ClientSession) (a : Answer)
    (shown : Option ToldPart) : Type 0 where
  pub part : ToldPart
  pub told : IsPartTold (asked_at_snapshot o) n ss part
  pub where_other : shown ≡ unless_told part (parts_of a)

-- where snapshot isolation was not kept, such a part shows it
abbrev pub IsShownBy : AuditOptions → ℕ → List ClientSession → Answer → Option Word
    → Option ToldPart → Type 0
IsShownBy o n ss a (Some word.NotSerializable) shown = IsShown o n ss a shown
IsShownBy o n ss a _ shown = shown ≡ None

-- What holds: of serial orders without moments, of snapshot isolation in the order of the stated
-- moments, and of it without them, which is kept where one of the others is; and what shows that it
-- was not. The first line of the log is number n.
pub record IsWeaker (o : AuditOptions) (n : ℕ) (ss : List ClientSession) (a : Answer) (w : Weaker)
    : Type 0 where
  pub without : IsWordWhere o.means (without_moments ss) (asks_strict o ss a) w.without_moments
  pub strict : IsWordWhere (at_snapshot o.means) ss (asks_strict o ss a) w.strict_snapshot
  pub plain : IsWordWhere (at_snapshot o.means) (without_moments ss) (asks_plain o ss a) w.snapshot
  pub below : (is_kept w.without_moments || is_kept w.strict_snapshot) ≡ true
      → w.snapshot ≡ Some word.Serializable
  pub shown : IsShownBy o n (without_moments ss) a w.snapshot w.shown

-- ---- below snapshot isolation

abbrev pub at_level : Isolation → JudgeMeans → JudgeMeans
at_level l m = record m { level = judged_of l }

abbrev pub asked_at : Isolation → AuditOptions → AuditOptions
asked_at l o = record o { means = at_level l o.means }

-- levels below snapshot isolation are asked for where it was not kept either
abbrev pub asks_lower : AuditOptions → Answer → Option Word → Bool
asks_lower o a snapshot = asks_levels o a && not (is_kept snapshot)

-- and one of them where it stands below the one that is asked for, and none above it was kept
abbrev pub asks_at : AuditOptions → Bool → Bool → Isolation → Bool
asks_at o asked kept l = asked && (not kept && is_above o.means.level (judged_of l))

-- one of these was kept
abbrev pub down_to_causal : Lower → Bool
down_to_causal w = is_kept w.prefix || is_kept w.causal

abbrev pub down_to_atomic : Lower → Bool
down_to_atomic w = down_to_causal w || is_kept w.read_atomic

abbrev pub down_to_view : Lower → Bool
down_to_view w = down_to_atomic w || is_kept w.monotonic_atomic_view

-- the part, unless it adds nothing to one of these, or to this one
abbrev pub is_shown : ToldPart → Option ToldPart → Bool
is_shown p None = false
is_shown p (Some told) = adds_nothing p told

abbrev pub unless_shown : ToldPart → List ToldPart → Option ToldPart → Option ToldPart
unless_shown p parts shown = if is_told_by p parts || is_shown p shown then None else Some p

-- a part that has no order of this level; it is told, unless it adds nothing to one that is told
pub record IsLowestAt
    (o : AuditOptions)
    (l : Isolation)
    (n : ℕ)
    (ss : List ClientSession)
    (a : Answer)
    (shown lowest : Option ToldPart) : Type 0 where
  pub part : ToldPart
  pub told : IsPartTold (asked_at l o) n ss part
  pub where_other : lowest ≡ unless_shown part (parts_of a) shown

-- where a level was not kept, such a part shows the weakest one
abbrev pub IsLowest : AuditOptions → ℕ → List ClientSession → Answer → Option ToldPart
    → Option Isolation → Option ToldPart → Type 0
IsLowest o n ss a shown None lowest = lowest ≡ None
IsLowest o n ss a shown (Some l) lowest = IsLowestAt o l n ss a shown lowest

-- What holds of levels below snapshot isolation, down to the first that was kept, where this holds of
-- it; and what shows that the weakest one was not. The first line of the log is number n.
pub record IsLower
    (o : AuditOptions)
    (n : ℕ)
    (ss : List ClientSession)
    (a : Answer)
    (snapshot : Option Word)
    (shown : Option ToldPart)
    (w : Lower)
    (lowest : Option ToldPart) : Type 0 where
  pub prefix : IsWordWhere (at_level isolation.Prefix o.means) ss
      (asks_at o (asks_lower o a snapshot) false isolation.Prefix) w.prefix
  pub causal : IsWordWhere (at_level isolation.Causal o.means) ss
      (asks_at o (asks_lower o a snapshot) (is_kept w.prefix) isolation.Causal) w.causal
  pub read_atomic : IsWordWhere (at_level isolation.ReadAtomic o.means) ss
      (asks_at o (asks_lower o a snapshot) (down_to_causal w) isolation.ReadAtomic) w.read_atomic
  pub monotonic_atomic_view : IsWordWhere (at_level isolation.MonotonicAtomicView o.means) ss
      (asks_at o (asks_lower o a snapshot) (down_to_atomic w) isolation.MonotonicAtomicView)
      w.monotonic_atomic_view
  pub read_committed : IsWordWhere (at_level isolation.ReadCommitted o.means) ss
      (asks_at o (asks_lower o a snapshot) (down_to_view w) isolation.ReadCommitted) w.read_committed
  pub shows : IsLowest o n ss a shown (weakest_of w) lowest

-- a part was refuted at this level exactly where it was not kept
abbrev pub IsRefutedWhere : Level → List ClientSession → Option Word → Option RefutedPart → Type 0
IsRefutedWhere l ss (Some word.NotSerializable) (Some told) = IsToldPart l ss told
IsRefutedWhere l ss (Some word.NotSerializable) None = ⊥
IsRefutedWhere l ss _ refuted = refuted ≡ None

-- the part that is refuted at the weakest of some levels
abbrev pub IsWeakest : List ClientSession → Option Isolation → Option (Isolation × RefutedPart)
    → Type 0
IsWeakest ss None found = found ≡ None
IsWeakest ss (Some l) None = ⊥
IsWeakest ss (Some l) (Some (k, told)) = (k ≡ l) × IsToldPart (judged_of l) ss told

abbrev pub refuted_of : Verdict → Option RefutedPart
refuted_of (verdict.NotSerializable told) = Some told
refuted_of _ = None

-- ---- files

-- the part that is told first, where it is asked for
abbrev pub first_part : List ToldPart → Option (List ClientSession)
first_part [] = None
first_part (p ∷ ps) = Some (map view p.refuted.part.items)

abbrev pub part_asked : Answer → Bool → Option (List ClientSession)
part_asked (answer.NotSerializable parts) asked = if asked then first_part parts.items else None
part_asked _ asked = None

-- the text of the part as a log
abbrev pub IsPartFile : Option (List ClientSession) → Option PartFile → Type 0
IsPartFile None None = Unit {0}
IsPartFile (Some part) (Some file) = file.log.items ≡ log_text (least_version part) part
IsPartFile _ _ = ⊥

abbrev pub order_asked : Answer → Bool → Bool
order_asked answer.Serializable asked = asked
order_asked _ asked = false

-- the text of an order of this level: of transactions, or of snapshots and commits
abbrev pub IsOrderText : Level → List ClientSession → List ℕ → Type 0
IsOrderText level.Serializable ss text = (order : List ℕ) × IsSerialOrder ss order
    × (text ≡ order_text ss order)
IsOrderText level.Snapshot ss text = (points : List Point) × IsSnapshotOrder ss points
    × (text ≡ points_text ss points)
IsOrderText level.Prefix ss text = (points : List Point) × IsPrefixOrder ss points
    × (text ≡ points_text ss points)
IsOrderText (level.Below below) ss text = (order : List ℕ) × IsLevelOrder below ss order
    × (text ≡ order_text ss order)

-- it is written, where it is asked for
abbrev pub IsOrderFile : Level → List ClientSession → Bool → Option (Vec ℕ Global) → Type 0
IsOrderFile level ss false None = Unit {0}
IsOrderFile level ss true (Some text) = IsOrderText level ss text.items
IsOrderFile level ss _ _ = ⊥

-- the answer is so, and so is the order beside it
pub record IsAnswered (o : AuditOptions) (n : ℕ) (ss : List ClientSession) (a : Answered)
    : Type 0 where
  pub answer : IsAnswer o n ss a.answer
  pub order : IsOrderFile o.means.level ss (order_asked a.answer o.order) a.order

-- what is known of a judged log: its sessions with their outcomes known, the answer, the counts, and
-- the part as a log
pub record IsKnown (o : AuditOptions) (n : ℕ) (ss : List ClientSession) (k : Known) : Type 0 where
  pub resolved : map view k.sessions.items ≡ resolved ss
  pub answered : IsAnswered o n ss k.answered
  pub totals : AreTotals ss k.totals
  pub part : IsPartFile (part_asked k.answered.answer o.part) k.part

-- ---- the whole

abbrev pub weaker_of : Told → Weaker
weaker_of t = record {
  without_moments = t.without_moments;
  strict_snapshot = t.strict_snapshot;
  snapshot = t.snapshot;
  shown = t.shown;
}

-- the text in the form that is asked for
abbrev pub text_in : ReportForm → AuditOptions → Told → List ℕ
text_in Text o told = report_text o.faults o.quiet told
text_in Json o told = report_object o.explain o.quiet o.version.now told

-- or a graph, where that is asked for
abbrev pub written_in : Format → AuditOptions → Told → List ℕ
written_in format.Text o told = text_in o.form o told
written_in format.Dot o told = graph_text told

-- the log is one, what is told of it is so, and the text is that of what is told
pub record IsAudited (o : AuditOptions) (log : List ℕ) (a : Audited) : Type 0 where
  pub sessions : List ClientSession
  pub long : IsLongLog log sessions
  pub told : Told
  pub level : told.level ≡ o.level
  pub answer : IsAnswer o (first_line (version_of log)) (seen o.no_moments sessions) told.answer
  pub weaker : IsWeaker o (first_line (version_of log)) (seen o.no_moments sessions) told.answer
      (weaker_of told)
  pub lower : IsLower o (first_line (version_of log)) (without_moments (seen o.no_moments sessions))
      told.answer told.snapshot told.shown told.lower told.lowest
  pub totals : AreTotals (seen o.no_moments sessions) told.totals
  pub ends : a.reply.status ≡ status_of told.answer
  pub text : a.reply.text.items ≡ written_in o.explanation o told
  pub part : IsPartFile (part_asked told.answer o.part) a.part
  pub order : IsOrderFile o.means.level (seen o.no_moments sessions)
      (order_asked told.answer o.order) a.order

-- what is said of a refused log: nothing, or an object with what is said of the fault
abbrev pub IsRefusal : ReportForm → AuditOptions → LogFault → List ℕ → Type 0
IsRefusal Text o f text = text ≡ []
IsRefusal Json o f text = (words : List ℕ) × IsSaidOf MAX_LONG_LOG_BYTES f words
    × (text ≡ refusal_object o.quiet f words o.version.now)

-- memory was refused; or the log is no long log, with this fault, and that is said
abbrev pub IsRefused : AuditOptions → List ℕ → Refusal → Type 0
IsRefused o log refusal.Memory = Unit {0}
IsRefused o log (refusal.Log f text) = IsLongLogFault log f × (f ≢ Memory)
    × IsRefusal o.form o f text.items
