-- The words for what stands against a part, and for verdicts.
use Rattle.std.specs.Prelude.{ℕ, Bool, true, false, List, [], codes, Option, None, Some}
use Rattle.serializability.specs.declared.anomaly.Anomaly.{Anomaly}
use Rattle.serializability.specs.declared.anomaly.Anomaly.TheVariants as anomaly
use Rattle.serializability.specs.declared.anomaly.ReadAnomaly.{ReadAnomaly}
use Rattle.serializability.specs.declared.anomaly.ReadAnomaly.TheVariants as read
use Rattle.serializability.specs.Anomalies.{anomaly_number}
use Rattle.cobra_answers.specs.Verdicts.{read_title}
use Rattle.cobra_answers.specs.declared.status.Status.{Status}
use Rattle.cobra_answers.specs.declared.status.Status.TheVariants as status
use Rattle.judging.specs.declared.judged.Finding.{Finding}
use Rattle.judging.specs.declared.judged.Finding.TheVariants as finding
use Rattle.isolation.specs.declared.level.Isolation.{Isolation}
use Rattle.audit_report.specs.declared.told.Word.{Word}
use Rattle.audit_report.specs.declared.told.Word.TheVariants as word
use Rattle.audit_report.specs.declared.told.Answer.{Answer}
use Rattle.audit_report.specs.declared.told.Answer.TheVariants as answer

-- the number behind the A of a code, or 0
abbrev pub code_number : Finding → ℕ
code_number (finding.Anomaly a) = anomaly_number a
code_number finding.Cycle = 8
code_number finding.Dead = 9
code_number finding.Refuted = 0
code_number finding.Formula = 0
code_number finding.Overlooked = 0

-- the code of a finding and its name, or its name alone
abbrev pub anomaly_title : Anomaly → List ℕ
anomaly_title (anomaly.Read kind v op) = read_title kind
anomaly_title (anomaly.LostUpdate x u a b) = codes "A7 lost update"

abbrev pub finding_title : Finding → List ℕ
finding_title (finding.Anomaly a) = anomaly_title a
finding_title finding.Cycle = codes "A8 cycle of known edges"
finding_title finding.Dead = codes "A9 pruning ends in a cycle"
finding_title finding.Refuted = codes "every order of its versions closes a cycle"
finding_title finding.Formula = codes "the formula is refuted"
finding_title finding.Overlooked = codes "what they read rules it out"

abbrev pub order_hint : List ℕ
order_hint = codes "check first: did the client record its operations in their order?\n"

-- what to check first, where a client or its recorder is more often at fault than a store
abbrev pub read_hint : ReadAnomaly → List ℕ
read_hint read.Unknown = codes "check first: does the log have each write of all clients, under its own key?\n"
read_hint read.Aborted = codes "check first: is the abort certain?\n"
read_hint read.OwnWriteMissed = order_hint
read_hint read.Future = order_hint
read_hint _ = []

unfoldable pub hint_text : Finding → List ℕ
hint_text (finding.Anomaly (anomaly.Read kind v op)) = read_hint kind
hint_text _ = []

-- a verdict in words
abbrev pub word_text : Word → List ℕ
word_text word.Serializable = codes "serializable"
word_text word.NotSerializable = codes "not serializable"
word_text word.Unknown = codes "unknown"

-- of a level that is named
abbrev pub kept_text : Word → List ℕ
kept_text word.Serializable = codes "kept"
kept_text word.NotSerializable = codes "not kept"
kept_text word.Unknown = codes "unknown"

-- of serializability, where no level is named
abbrev pub verdict_text : Option Isolation → Word → List ℕ
verdict_text None w = word_text w
verdict_text (Some level) w = kept_text w

abbrev pub word_of : Answer → Word
word_of answer.Serializable = word.Serializable
word_of answer.NoMoments = word.Unknown
word_of (answer.NotSerializable parts) = word.NotSerializable
word_of (answer.TooFew committed asked) = word.Unknown
word_of (answer.Undecided reason advice) = word.Unknown

-- how a command ends that tells this
abbrev pub status_of : Answer → Status
status_of answer.Serializable = status.Done
status_of answer.NoMoments = status.Unknown
status_of (answer.NotSerializable parts) = status.NotSerializable
status_of (answer.TooFew committed asked) = status.Unknown
status_of (answer.Undecided reason advice) = status.Unknown

-- it was kept, as far as this is told
abbrev pub is_kept : Option Word → Bool
is_kept (Some word.Serializable) = true
is_kept _ = false
