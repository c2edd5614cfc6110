-- The report as one object of JSON.
use Rattle.std.specs.Prelude.{ℕ, ◌==◌, ◌/◌, ◌%◌, ◌+◌, nat_lt, Bool, if◌then◌else◌, List, [], ◌∷◌, ◌++◌, codes, length, take, Option, Some, None, String}
use Rattle.std.specs.List.{flat_map}
use Rattle.std.specs.String.{string_bytes}
use Rattle.std.specs.declared.alloc.Global.{Global}
use Rattle.session_log.specs.declared.fault.LogFault.{LogFault}
use Rattle.session_log.specs.Codes.{code_of, line_of}
use Rattle.isolation.specs.Levels.{level_title}
use Rattle.audit_report.specs.Words.{code_number, word_text, word_of, verdict_text, kept_text}
use Rattle.isolation.specs.declared.level.Isolation.{Isolation}
use Rattle.audit_report.specs.Report.{field, too_few}
use Rattle.audit_report.specs.declared.told.ToldTxn.{ToldTxn}
use Rattle.audit_report.specs.declared.told.ToldPart.{ToldPart}
use Rattle.audit_report.specs.declared.told.Word.{Word}
use Rattle.audit_report.specs.declared.told.Answer.{Answer}
use Rattle.audit_report.specs.declared.told.Answer.TheVariants as answer
use Rattle.audit_report.specs.declared.told.Totals.{Totals}
use Rattle.audit_report.specs.declared.told.Lower.{Lower}
use Rattle.audit_report.specs.declared.told.Told.{Told}

-- ---- values

-- a digit of base 16
abbrev pub hex_digit : ℕ → ℕ
hex_digit n = if nat_lt n 10 then 48 + n else 87 + n

-- a byte as it stands between quotes
abbrev pub escaped_byte : ℕ → List ℕ
escaped_byte b =
    if b == 34 then codes "\\\"" else
    if b == 92 then codes "\\\\" else
    if nat_lt b 32 then codes "\\u00" ++ hex_digit (b / 16) ∷ hex_digit (b % 16) ∷ [] else b ∷ []

-- a text between quotes
abbrev pub escaped : List ℕ → List ℕ
escaped text = flat_map escaped_byte text

abbrev pub quoted : List ℕ → List ℕ
quoted text = 34 ∷ escaped text ++ 34 ∷ []

abbrev pub quoted_or_null : Option (String Global) → List ℕ
quoted_or_null None = codes "null"
quoted_or_null (Some text) = quoted (string_bytes text)

abbrev pub word_or_null : Option Word → List ℕ
word_or_null None = codes "null"
word_or_null (Some word) = 34 ∷ word_text word ++ 34 ∷ []

abbrev pub code_value : ℕ → List ℕ
code_value n = if n == 0 then codes "null" else field (codes "\"A") n ++ 34 ∷ []

-- values with commas between them, in brackets
abbrev pub behind_comma : {X : Type 0} → (X → List ℕ) → List X → List ℕ
behind_comma value [] = []
behind_comma value (x ∷ xs) = 44 ∷ value x ++ behind_comma value xs

abbrev pub joined : {X : Type 0} → (X → List ℕ) → List X → List ℕ
joined value [] = []
joined value (x ∷ xs) = value x ++ behind_comma value xs

abbrev pub list_value : {X : Type 0} → (X → List ℕ) → List X → List ℕ
list_value value xs = 91 ∷ joined value xs ++ 93 ∷ []

-- ---- a part without an order

abbrev pub txn_object : ToldTxn → List ℕ
txn_object t = field (codes "{\"transaction\":\"") t.session ++ field (codes ".") t.place
    ++ field (codes "\",\"lines\":[") t.first
    ++ field (codes ",") t.last ++ codes "]}"

-- the lines of a text, each between quotes, with commas between them
abbrev pub line_byte : ℕ → List ℕ
line_byte b = if b == 10 then codes "\",\"" else escaped_byte b

abbrev pub lines_value : List ℕ → List ℕ
lines_value [] = []
lines_value (b ∷ bs) = 34 ∷ flat_map line_byte (take (length bs) (b ∷ bs)) ++ 34 ∷ []

-- its code, its name in the field, its transactions, and why, where that is asked for
unfoldable pub part_values : ToldPart → List ℕ
part_values p = codes "\"code\":" ++ code_value (code_number p.refuted.finding)
    ++ codes ",\"known_as\":" ++ quoted_or_null p.known_as
    ++ codes ",\"part\":" ++ list_value txn_object p.txns.items

unfoldable pub explanation_value : List ℕ → List ℕ
explanation_value text = codes ",\"explanation\":[" ++ lines_value text ++ codes "]"

-- whether it has a serial order without that of sessions
unfoldable pub sessions_value : Bool → List ℕ
sessions_value told = codes ",\"without_sessions\":"
    ++ (if told then codes "\"serializable\"" else codes "null")

unfoldable pub why_values : Bool → ToldPart → List ℕ
why_values explain p = if explain then explanation_value p.why.items ++ sessions_value p.is_serial_apart
    else []

abbrev pub part_object : Bool → ToldPart → List ℕ
part_object explain p = 123 ∷ part_values p ++ why_values explain p ++ 125 ∷ []

-- ---- the whole

-- the values of the first part; nulls where there is none
unfoldable pub first_values : Bool → List ToldPart → List ℕ
first_values explain [] = codes "\"code\":null,\"known_as\":null,\"part\":[]"
first_values explain (p ∷ ps) = part_values p ++ why_values explain p

abbrev pub parts_of : Answer → List ToldPart
parts_of (answer.NotSerializable parts) = parts.items
parts_of _ = []

abbrev pub reason_value : Answer → List ℕ
reason_value answer.NoMoments = codes "\"the log states no moments\""
reason_value (answer.TooFew committed asked) = 34 ∷ too_few committed asked ++ 34 ∷ []
reason_value (answer.Undecided reason advice) = quoted (string_bytes reason)
reason_value _ = codes "null"

unfoldable pub count_values : Totals → List ℕ
count_values t =
    field (codes ",\"sessions\":") t.counts.sessions
    ++ field (codes ",\"committed\":") t.counts.committed
    ++ field (codes ",\"aborted\":") t.counts.aborted
    ++ field (codes ",\"unknown\":") t.counts.unknown
    ++ field (codes ",\"taken\":") t.taken
    ++ field (codes ",\"keys\":") t.counts.keys
    ++ field (codes ",\"operations\":") t.counts.operations

unfoldable pub version_value : List ℕ → List ℕ
version_value version = codes ",\"version\":" ++ quoted version ++ codes "}\n"

unfoldable pub verdict_value : Option Isolation → Word → List ℕ
verdict_value level word = codes "{\"verdict\":\"" ++ verdict_text level word ++ codes "\""

-- the level, where it is asked for by name
unfoldable pub level_value : Option Isolation → List ℕ
level_value None = []
level_value (Some level) = codes ",\"level\":\"" ++ level_title level ++ codes "\""

unfoldable pub without_value : Option Word → List ℕ
without_value word = codes ",\"without_moments\":" ++ word_or_null word

abbrev pub kept_or_null : Option Word → List ℕ
kept_or_null None = codes "null"
kept_or_null (Some word) = 34 ∷ kept_text word ++ 34 ∷ []

-- whether weaker levels were kept
unfoldable pub strict_value : Option Word → List ℕ
strict_value word = codes ",\"strict_snapshot\":" ++ kept_or_null word

unfoldable pub snapshot_value : Option Word → List ℕ
snapshot_value word = codes ",\"snapshot\":" ++ kept_or_null word

unfoldable pub faults_value : Bool → List ToldPart → List ℕ
faults_value explain parts = codes ",\"faults\":" ++ list_value (part_object explain) parts

unfoldable pub why_unknown : Answer → List ℕ
why_unknown a = codes ",\"reason\":" ++ reason_value a

-- the level, where it is named, and the first part
unfoldable pub head_values : Bool → Told → List ℕ
head_values explain told = level_value told.level ++ 44 ∷ first_values explain (parts_of told.answer)

-- the part that shows that it was not, where it is told
abbrev pub part_or_null : Bool → Option ToldPart → List ℕ
part_or_null explain None = codes "null"
part_or_null explain (Some p) = part_object explain p

unfoldable pub shown_value : Bool → Option ToldPart → List ℕ
shown_value explain p = codes ",\"snapshot_fault\":" ++ part_or_null explain p

-- the same of levels below it
unfoldable pub lower_values : Lower → List ℕ
lower_values w = codes ",\"prefix\":" ++ kept_or_null w.prefix
    ++ codes ",\"causal\":" ++ kept_or_null w.causal
    ++ codes ",\"read_atomic\":" ++ kept_or_null w.read_atomic
    ++ codes ",\"monotonic_atomic_view\":" ++ kept_or_null w.monotonic_atomic_view
    ++ codes ",\"read_committed\":" ++ kept_or_null w.read_committed

unfoldable pub lowest_value : Bool → Option ToldPart → List ℕ
lowest_value explain p = codes ",\"weakest_fault\":" ++ part_or_null explain p

-- what holds without moments and at weaker levels
unfoldable pub weaker_values : Bool → Told → List ℕ
weaker_values explain told = without_value told.without_moments
    ++ strict_value told.strict_snapshot ++ snapshot_value told.snapshot
    ++ shown_value explain told.shown
    ++ lower_values told.lower ++ lowest_value explain told.lowest

-- what stands behind the verdict
abbrev pub rest_of_object : Bool → List ℕ → Told → List ℕ
rest_of_object explain version told = head_values explain told ++ weaker_values explain told
    ++ faults_value explain (parts_of told.answer)
    ++ why_unknown told.answer ++ count_values told.totals ++ version_value version

abbrev pub behind_verdict : Bool → Bool → List ℕ → Told → List ℕ
behind_verdict explain quiet version told = if quiet then codes "}\n" else rest_of_object explain
    version told

-- the object; the verdict alone where it is to be quiet
abbrev pub report_object : Bool → Bool → List ℕ → Told → List ℕ
report_object explain quiet version told = verdict_value told.level (word_of told.answer)
    ++ behind_verdict explain quiet version told

-- ---- a refused log

abbrev pub number_or_null : Option ℕ → List ℕ
number_or_null None = codes "null"
number_or_null (Some n) = field [] n

unfoldable pub code_of_fault : LogFault → List ℕ
code_of_fault f = codes ",\"code\":\"" ++ code_of f ++ codes "\""

unfoldable pub line_of_fault : LogFault → List ℕ
line_of_fault f = codes ",\"line\":" ++ number_or_null (line_of f)

unfoldable pub words_value : List ℕ → List ℕ
words_value words = codes ",\"words\":" ++ quoted words

-- the object; the verdict alone where it is to be quiet
abbrev pub behind_refused : Bool → LogFault → List ℕ → List ℕ → List ℕ
behind_refused quiet f words version = if quiet then codes "}\n" else code_of_fault f
    ++ line_of_fault f ++ words_value words ++ version_value version

abbrev pub refusal_object : Bool → LogFault → List ℕ → List ℕ → List ℕ
refusal_object quiet f words version = codes "{\"verdict\":\"refused\""
    ++ behind_refused quiet f words version

-- ---- a log that cannot be read
unfoldable pub why_failed : List ℕ → List ℕ
why_failed reason = codes ",\"reason\":" ++ quoted reason

abbrev pub behind_failed : Bool → List ℕ → List ℕ → List ℕ
behind_failed quiet reason version = if quiet then codes "}\n" else why_failed reason
    ++ version_value version

-- the object; the verdict alone where it is to be quiet
abbrev pub failure_object : Bool → List ℕ → List ℕ → List ℕ
failure_object quiet reason version = codes "{\"verdict\":\"failed\""
    ++ behind_failed quiet reason version
