-- The report as text.
use Rattle.std.specs.Prelude.{ℕ, ◌==◌, nat_lt, Bool, true, false, ◌&&◌, if◌then◌else◌, List, [], ◌∷◌, ◌++◌, length, codes, decimal, count_by, Option, Some, None, is_some, String}
use Rattle.std.specs.List.{flat_map, list_any}
use Rattle.std.specs.String.{string_bytes}
use Rattle.std.specs.declared.alloc.Global.{Global}
use Rattle.isolation.specs.Levels.{level_title, level_asks}
use Rattle.audit_report.specs.Words.{code_number, finding_title, hint_text, word_text, word_of, verdict_text, kept_text, is_kept}
use Rattle.judging.specs.declared.judged.Finding.{Finding}
use Rattle.judging.specs.declared.judged.Finding.TheVariants as finding
use Rattle.isolation.specs.declared.level.Isolation.{Isolation}
use Rattle.isolation.specs.declared.level.Isolation.TheVariants.{StrictSnapshot, Snapshot, Prefix, Serializable, Causal, ReadAtomic, MonotonicAtomicView, ReadCommitted}
use Rattle.audit_report.specs.Lower.{weakest_of}
use Rattle.audit_report.specs.declared.told.Lower.{Lower}
use Rattle.audit_report.specs.declared.told.ToldTxn.{ToldTxn}
use Rattle.audit_report.specs.declared.told.ToldPart.{ToldPart}
use Rattle.audit_report.specs.declared.told.Word.{Word}
use Rattle.audit_report.specs.declared.told.Word.TheVariants as word
use Rattle.audit_report.specs.declared.told.Answer.{Answer}
use Rattle.audit_report.specs.declared.told.Answer.TheVariants as answer
use Rattle.audit_report.specs.declared.told.Totals.{Totals}
use Rattle.audit_report.specs.declared.told.Told.{Told}

-- a number behind a text
unfoldable pub field : List ℕ → ℕ → List ℕ
field text n = text ++ decimal n

-- a line
abbrev pub line_of : String Global → List ℕ
line_of text = string_bytes text ++ 10 ∷ []

abbrev pub lines_of : List (String Global) → List ℕ
lines_of texts = flat_map line_of texts

-- a word, a space and a number, as a line
abbrev pub count_line : List ℕ → ℕ → List ℕ
count_line word n = word ++ field (codes " ") n ++ 10 ∷ []

-- how many committed transactions there are, and how many must be
unfoldable pub too_few : ℕ → ℕ → List ℕ
too_few committed asked = field [] committed ++ field (codes " committed, ") asked
    ++ codes " asked for"

-- the name of the level, where it is asked for by name
abbrev pub level_text : Option Isolation → List ℕ
level_text None = []
level_text (Some level) = level_title level ++ codes ": "

-- the verdict, and why it is unknown
unfoldable pub reason_line : Answer → List ℕ
reason_line answer.NoMoments = codes ": the log states no moments\n"
reason_line (answer.TooFew committed asked) = codes ": " ++ too_few committed asked ++ 10 ∷ []
reason_line (answer.Undecided reason advice) = codes ": " ++ line_of reason
reason_line _ = codes "\n"

abbrev pub first_line : Option Isolation → Answer → List ℕ
first_line level a = level_text level ++ verdict_text level (word_of a) ++ reason_line a

-- ---- a part without an order

-- the name of a transaction: its session, a dot, and its place
abbrev pub name_of : ToldTxn → List ℕ
name_of t = field [] t.session ++ field (codes ".") t.place

-- its name and its lines
abbrev pub txn_text : ToldTxn → List ℕ
txn_text t = name_of t ++ field (codes " (lines ") t.first ++ field (codes " to ") t.last
    ++ codes ")"

-- texts with a comma and a space between them
abbrev pub behind_comma : List ToldTxn → List ℕ
behind_comma [] = []
behind_comma (t ∷ ts) = codes ", " ++ txn_text t ++ behind_comma ts

abbrev pub txns_text : List ToldTxn → List ℕ
txns_text [] = []
txns_text (t ∷ ts) = txn_text t ++ behind_comma ts

abbrev pub noun_of : ℕ → List ℕ
noun_of n = if n == 1 then codes " transaction: " else codes " transactions: "

-- the code of a finding, or its name where it has none
unfoldable pub short_title : Finding → List ℕ
short_title f = if code_number f == 0 then finding_title f else field (codes "A") (code_number f)

-- what stands behind what the field calls a finding: nothing where that is all that is to say
unfoldable pub behind_name : Finding → List ℕ
behind_name finding.Overlooked = []
behind_name f = codes ", " ++ short_title f

-- what was found of a part: what the field calls it and the code, or the code and its name
unfoldable pub found_text : Option (String Global) → Finding → List ℕ
found_text None f = finding_title f
found_text (Some name) f = string_bytes name ++ behind_name f

-- how many transactions it has, and what was found of it
abbrev pub heading_of : ToldPart → List ℕ
heading_of p = field (codes "shown by ") (length p.txns.items) ++ noun_of (length p.txns.items)
    ++ found_text p.known_as p.refuted.finding ++ 10 ∷ []

-- which they are
abbrev pub listed : List ToldTxn → List ℕ
listed txns = codes "transactions " ++ txns_text txns ++ 10 ∷ []

-- that it has a serial order without that of sessions
abbrev pub sessions_line : Bool → List ℕ
sessions_line told = if told
    then codes "this level keeps the order of each session, and that is what these transactions break: without it they have a serial order (whether the whole log has one is not known)\n"
    else []

-- why it has no order, and what to check first
unfoldable pub why_text : ToldPart → List ℕ
why_text p = sessions_line p.is_serial_apart ++ p.why.items ++ hint_text p.refuted.finding

-- these
unfoldable pub part_text : ToldPart → List ℕ
part_text p = heading_of p ++ listed p.txns.items ++ why_text p

-- what a level asks for; where none is named, that is serializability in the order of stated moments
unfoldable pub rule_text : Option Isolation → List ℕ
rule_text None = codes "serializability asks for an order in which each transaction reads what was written last before it; sessions and stated moments keep their order\n"
rule_text (Some level) = level_asks level

-- that stands above a part of which it is told why it has no order
abbrev pub rule_above : Option Isolation → ToldPart → List ℕ
rule_above level p = if length p.why.items == 0 then [] else rule_text level

abbrev pub first_rule : Option Isolation → List ToldPart → List ℕ
first_rule level [] = []
first_rule level (p ∷ ps) = rule_above level p

-- so many of the parts have the code of this number, or none
abbrev pub code_count : List ToldPart → ℕ → ℕ
code_count parts n = count_by (λ p. code_number p.refuted.finding == n) parts

unfoldable pub code_line : List ToldPart → ℕ → List ℕ
code_line parts n = if code_count parts n == 0 then [] else field (codes "A") n
    ++ count_line [] (code_count parts n)

unfoldable pub uncoded_line : List ToldPart → List ℕ
uncoded_line parts = if code_count parts 0 == 0 then [] else count_line (codes "no code")
    (code_count parts 0)

-- a line for each code that a part has, and one for those without
abbrev pub codes_text : List ToldPart → List ℕ
codes_text parts = code_line parts 1 ++ code_line parts 2 ++ code_line parts 3 ++ code_line parts 4
    ++ code_line parts 5 ++ code_line parts 6 ++ code_line parts 7 ++ code_line parts 8
    ++ code_line parts 9 ++ uncoded_line parts

abbrev pub parts_text : List ToldPart → List ℕ
parts_text parts = flat_map part_text parts

-- ---- the whole

abbrev pub codes_where : ℕ → List ToldPart → List ℕ
codes_where faults parts = if nat_lt 1 faults then codes_text parts else []

-- the lines behind the first; those of codes where several parts were asked for
unfoldable pub middle_text : ℕ → Option Isolation → Answer → List ℕ
middle_text faults level (answer.NotSerializable parts) = first_rule level parts.items
    ++ parts_text parts.items ++ codes_where faults parts.items
middle_text faults level (answer.Undecided reason advice) = lines_of advice.items
middle_text faults level _ = []

-- what holds of the log without moments
abbrev pub without_line : Word → List ℕ
without_line word = codes "without real time: " ++ word_text word ++ 10 ∷ []

-- of a log that has an order without them: where it has none with them, they alone were broken
unfoldable pub time_text : Word → List ℕ
time_text word.Serializable = without_line word.Serializable
time_text word.NotSerializable =
    codes "only real time was broken: the whole log has a serial order, but none in the order of its moments\n"
    ++ codes "check first: do the clients share a clock?\n"
time_text word.Unknown = without_line word.Serializable

-- the same of each log, of which this holds with them
abbrev pub without_text : Word → Word → List ℕ
without_text with word.Serializable = time_text with
without_text with word.NotSerializable = without_line word.NotSerializable
without_text with word.Unknown = without_line word.Unknown

abbrev pub without_row : Word → Option Word → List ℕ
without_row with None = []
without_row with (Some without) = without_text with without

-- the name of a level, and whether it was kept
unfoldable pub kept_line : Isolation → Word → List ℕ
kept_line level word = level_title level ++ codes ": " ++ kept_text word

-- a line of these
unfoldable pub level_row : Isolation → Option Word → List ℕ
level_row level None = []
level_row level (Some word) = kept_line level word ++ 10 ∷ []

-- which part shows that snapshot isolation was not kept: one of the answer's, or one behind them
abbrev pub shown_by : Word → Option ToldPart → List ℕ
shown_by word.NotSerializable None = codes ", as shown below\n"
shown_by word.NotSerializable (Some p) = codes ", as a part below shows\n"
shown_by _ _ = 10 ∷ []

-- a line of snapshot isolation
unfoldable pub snapshot_row : Option Word → Option ToldPart → List ℕ
snapshot_row None shown = []
snapshot_row (Some word) shown = kept_line Snapshot word ++ shown_by word shown

-- the lines of levels below it
unfoldable pub lower_text : Lower → List ℕ
lower_text w = level_row Prefix w.prefix ++ level_row Causal w.causal
    ++ level_row ReadAtomic w.read_atomic
    ++ level_row MonotonicAtomicView w.monotonic_atomic_view
    ++ level_row ReadCommitted w.read_committed

-- what is told of the log without moments, and of weaker levels
abbrev pub weaker_words : Told → List (Option Word)
weaker_words told = told.without_moments ∷ told.strict_snapshot ∷ told.snapshot
    ∷ told.lower.prefix ∷ told.lower.causal ∷ told.lower.read_atomic
    ∷ told.lower.monotonic_atomic_view ∷ told.lower.read_committed ∷ []

-- something weaker was kept
abbrev pub is_some_kept : Told → Bool
is_some_kept told = list_any is_kept (weaker_words told)

-- the log has no serial order, and something weaker was not decided
abbrev pub is_open : Option Word → Bool
is_open (Some word.Unknown) = true
is_open _ = false

abbrev pub is_order_refuted : Word → Bool
is_order_refuted word.NotSerializable = true
is_order_refuted _ = false

abbrev pub is_some_open : Told → Bool
is_some_open told = is_order_refuted (word_of told.answer) && list_any is_open (weaker_words told)

abbrev pub promise_text : Option Word → List ℕ
promise_text without = if is_kept without then codes "a store that promises no strict level"
    else codes "a store that promises no more than that"

-- Where no level was named and a weaker one was kept, the store may have promised no more: the level
-- that is told last, or each one that is not of moments. Where none was kept and one was not decided,
-- nobody knows.
unfoldable pub blame_text : Told → List ℕ
blame_text told = if is_some told.level then []
    else if is_some_kept told then promise_text told.without_moments
    ++ codes " did nothing wrong: name its level by --level\n"
    else if is_some_open told then
    codes "a store that promises less may have done nothing wrong"
    ++ codes ": name its level by --level\n"
    else []

-- what holds without moments and at weaker levels
unfoldable pub weaker_text : Told → List ℕ
weaker_text told = without_row (word_of told.answer) told.without_moments
    ++ level_row StrictSnapshot told.strict_snapshot ++ snapshot_row told.snapshot told.shown
    ++ lower_text told.lower ++ blame_text told

-- a part that shows that snapshot isolation was not kept
abbrev pub broken_text : ToldPart → List ℕ
broken_text p = codes "why snapshot isolation was not kept:\n" ++ rule_above (Some Snapshot) p
    ++ part_text p

-- the same, where the answer has none
abbrev pub last_part : Option ToldPart → List ℕ
last_part None = []
last_part (Some p) = broken_text p

-- what shows that the weakest of the levels below it was not kept
abbrev pub title_of : Option Isolation → List ℕ
title_of None = []
title_of (Some level) = level_title level

abbrev pub why_lowest : Option Isolation → ToldPart → List ℕ
why_lowest level p = codes "why " ++ title_of level ++ codes " was not kept:\n"
    ++ rule_above level p ++ part_text p

abbrev pub lowest_part : Option Isolation → Option ToldPart → List ℕ
lowest_part level None = []
lowest_part level (Some p) = why_lowest level p

-- so many transactions has the first part that is told
abbrev pub first_size : List ToldPart → ℕ
first_size [] = 0
first_size (p ∷ ps) = length p.txns.items

abbrev pub part_size : Answer → ℕ
part_size (answer.NotSerializable parts) = first_size parts.items
part_size _ = 0

unfoldable pub counts_text : Totals → ℕ → List ℕ
counts_text t part =
    count_line (codes "sessions") t.counts.sessions
    ++ count_line (codes "committed") t.counts.committed
    ++ count_line (codes "aborted") t.counts.aborted
    ++ count_line (codes "unknown") t.counts.unknown
    ++ count_line (codes "taken") t.taken
    ++ count_line (codes "keys") t.counts.keys
    ++ count_line (codes "operations") t.counts.operations
    ++ count_line (codes "part") part

abbrev pub behind_first : ℕ → Told → List ℕ
behind_first faults told = weaker_text told ++ middle_text faults told.level told.answer
    ++ last_part told.shown ++ lowest_part (weakest_of told.lower) told.lowest
    ++ counts_text told.totals (part_size told.answer)

-- the report where so many parts were asked for; the first line alone where it is to be quiet
abbrev pub report_text : ℕ → Bool → Told → List ℕ
report_text faults quiet told = first_line told.level told.answer
    ++ (if quiet then [] else behind_first faults told)
