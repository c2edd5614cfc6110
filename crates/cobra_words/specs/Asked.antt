-- What the matches of a command's words ask for: each field of a request, by the rows that `clap`
-- found for the command.
use Rattle.std.specs.Prelude.{◌≡◌, ◌≢◌, ◌⊎◌, ◌<◌, ◌≤◌, ◌^◌, ℕ, Bool, true, false, if◌then◌else◌, List, [], codes, Option, None, Some, option_map, unwrap_or}
use Rattle.std.specs.Option.{option_map_or}
use Rattle.std.specs.Str.{bytes_eq}
use Rattle.std.specs.Str.Parse.{IsNumeral, digits_value, without_leading_plus}
use Rattle.clap.specs.declared.parser.matches.ArgMatches.{ArgMatches}
use Rattle.clap.specs.Simple.{subcommand_of, subcommand_rows_of}
use Rattle.clap.specs.Faults.{fault_of}
use Rattle.clap.specs.Kinds.{IsAmong}
use Rattle.clap.specs.Takes.{takes}
use Rattle.clap.specs.Values.{kind_of}
use Rattle.clap.specs.Walk.{Row, Text, first_of, one_of}
use Rattle.clap.specs.declared.error.Error.{Error}
use Rattle.call_options.specs.declared.format.Format.{Format}
use Rattle.call_options.specs.declared.format.Format.TheVariants as format
use Rattle.call_options.specs.declared.report_form.ReportForm.{ReportForm}
use Rattle.call_options.specs.declared.report_form.ReportForm.TheVariants as report
use Rattle.cube_machine.specs.declared.strategy_name.StrategyName.{StrategyName}
use Rattle.cube_machine.specs.declared.strategy_name.StrategyName.TheVariants as strategy
use Rattle.isolation.specs.declared.level.Isolation.{Isolation}
use Rattle.isolation.specs.declared.level.Isolation.TheVariants as level
use Rattle.cobra_words.specs.declared.request.Request.{Request}
use Rattle.cobra_words.specs.declared.request.AuditWords.{AuditWords}
use Rattle.cobra_words.specs.declared.request.Command.{Command}
use Rattle.cobra_words.specs.declared.request.Command.TheVariants as command
use Rattle.cobra_words.specs.Commands.{Lists, AreLists, program_app}
use Rattle.cobra_words.specs.declared.request.Words.{Words}
use Rattle.cobra_words.specs.declared.request.Words.TheVariants.{Request as Asked, Shown}

-- ---- one value

-- the text is this word
abbrev pub is_word : List ℕ → Option Text → Bool
is_word word text = option_map_or (λ t. bytes_eq t word) text false

-- a flag, which is set exactly where its text is `true`
pub record IsFlag (text : Option Text) (b : Bool) : Type 0 where
  pub set : b ≡ true → text ≡ Some (codes "true")
  pub unset : text ≡ Some (codes "true") → b ≡ true

-- the text is a decimal number below 2^k
pub record IsBelow (k : ℕ) (text : Text) : Type 0 where
  pub numeral : IsNumeral 10 (without_leading_plus text)
  pub fits : digits_value 10 (without_leading_plus text) < 2 ^ k

-- the number that the text writes, where it writes one
abbrev pub IsNumber : ℕ → Option Text → Option ℕ → Type 0
IsNumber k None (Some n) = ⊥
IsNumber k None None = Unit {0}
IsNumber k (Some text) (Some n) = IsBelow k text × (n ≡ digits_value 10 (without_leading_plus text))
IsNumber k (Some text) None = IsBelow k text → ⊥

-- the same, with a default
abbrev pub IsNumberOr : ℕ → ℕ → Option Text → ℕ → Type 0
IsNumberOr k default text n = (o : Option ℕ) × IsNumber k text o × (n ≡ unwrap_or o default)

-- the name of a file; none where there is none, or where it is that of standard input
abbrev pub but_standard_input : Option Text → Option Text
but_standard_input None = None
but_standard_input (Some name) = if bytes_eq name (codes "-") then None else Some name

abbrev pub strategy_of : Option Text → StrategyName
strategy_of text = if is_word (codes "most") text then strategy.Most
    else (if is_word (codes "least") text then strategy.Least
    else (if is_word (codes "forced") text then strategy.Forced else strategy.First))

abbrev pub format_of : Option Text → Format
format_of text = if is_word (codes "dot") text then format.Dot else format.Text

abbrev pub report_of : Option Text → ReportForm
report_of text = if is_word (codes "json") text then report.Json else report.Text

abbrev pub level_of : Option Text → Option Isolation
level_of text = if is_word (codes "strict-serializable") text then Some level.StrictSerializable
    else (if is_word (codes "serializable") text then Some level.Serializable
    else (if is_word (codes "strict-snapshot") text then Some level.StrictSnapshot
    else (if is_word (codes "snapshot") text then Some level.Snapshot
    else (if is_word (codes "prefix") text then Some level.Prefix
    else (if is_word (codes "causal") text then Some level.Causal
    else (if is_word (codes "read-atomic") text then Some level.ReadAtomic
    else (if is_word (codes "monotonic-atomic-view") text then Some level.MonotonicAtomicView
    else (if is_word (codes "read-committed") text then Some level.ReadCommitted
    else None))))))))

-- ---- a request

-- what is asked of `audit` alone; why no order explains the log is said, or not
pub record AreAuditWords (rows : List Row) (explains : Bool) (w : AuditWords) : Type 0 where
  pub at_least : IsNumberOr 32 1 (one_of (codes "at-least") rows) w.at_least
  pub faults : IsNumberOr 16 1 (one_of (codes "faults") rows) w.faults
  pub seconds : IsNumber 32 (one_of (codes "seconds") rows) w.seconds
  pub level : w.level ≡ level_of (first_of (codes "level") rows)
  pub only : IsFlag (one_of (codes "only") rows) w.only
  pub no_moments : IsFlag (one_of (codes "no-moments") rows) w.no_moments
  pub explain : w.explain ≡ explains
  pub explanation : w.explanation ≡ format_of (first_of (codes "format") rows)
  pub part : option_map (λ s. s.now) w.part ≡ first_of (codes "part") rows
  pub order : option_map (λ s. s.now) w.order ≡ first_of (codes "order") rows
  pub format : w.format ≡ report_of (first_of (codes "format") rows)
  pub quiet : IsFlag (one_of (codes "quiet") rows) w.quiet
  pub progress : IsFlag (one_of (codes "progress") rows) w.progress

-- a call of `audit`
pub record IsAudit (rows : List Row) (w : AuditWords) : Type 0 where
  pub flag : Bool
  pub explains : IsFlag (one_of (codes "explain") rows) flag
  pub words : AreAuditWords rows flag w

-- a call of `explain` that names a level
pub record IsExplainedLevel (rows : List Row) (w : AuditWords) : Type 0 where
  pub level : Isolation
  pub named : level_of (first_of (codes "level") rows) ≡ Some level
  pub words : AreAuditWords rows true w

-- the command of this name, with what it is to do
abbrev pub IsCommand : Text → List Row → Command → Type 0
IsCommand name rows command.Encode = name ≡ codes "encode"
IsCommand name rows (command.Decode model) = (name ≡ codes "decode")
    × (first_of (codes "model") rows ≡ Some model.now)
IsCommand name rows (command.Refute proof) = (name ≡ codes "refute")
    × (first_of (codes "proof") rows ≡ Some proof.now)
IsCommand name rows (command.Solve conflicts) = (name ≡ codes "solve")
    × IsNumber 32 (one_of (codes "conflicts") rows) (Some conflicts)
IsCommand name rows command.Check = name ≡ codes "check"
IsCommand name rows (command.Verify order) = (name ≡ codes "verify")
    × (first_of (codes "order") rows ≡ Some order.now)
IsCommand name rows command.Stats = name ≡ codes "stats"
IsCommand name rows (command.Explain format) = (name ≡ codes "explain")
    × (level_of (first_of (codes "level") rows) ≡ None)
    × (format ≡ format_of (first_of (codes "format") rows))
IsCommand name rows (command.Audit words) = ((name ≡ codes "audit") × IsAudit rows words)
    ⊎ ((name ≡ codes "explain") × IsExplainedLevel rows words)
IsCommand name rows command.Split = name ≡ codes "split"
IsCommand name rows command.Census = name ≡ codes "census"

-- each field of the request is what the matches of the command of this name hold
pub record IsRequest (name : Text) (rows : List Row) (r : Request) : Type 0 where
  pub command : IsCommand name rows r.command
  pub plain : IsFlag (one_of (codes "plain") rows) r.plain
  pub workers : IsNumberOr 8 4 (one_of (codes "workers") rows) r.workers
  pub strategy : r.strategy ≡ strategy_of (first_of (codes "strategy") rows)
  pub budget : IsNumberOr 32 10000 (one_of (codes "budget") rows) r.budget
  pub log : option_map (λ s. s.now) r.log ≡ but_standard_input (first_of (codes "FILE") rows)

-- these matches of the program ask for it: they name a command, and have its own
pub record IsAskedBy (m : ArgMatches) (r : Request) : Type 0 where
  pub name : Text
  pub rows : List Row
  pub entered : subcommand_rows_of m ≡ Some (name, rows)
  pub request : IsRequest name rows r

-- the numbers of the request are in their ranges
abbrev pub IsInRange : Request → Type 0
IsInRange r = (0 < r.workers) × (r.workers ≤ 16) × (0 < r.budget) × (r.budget ≤ 1000000)

-- ---- words

-- these words ask for it: they enter a command, and have its own matches
pub record AreWordsOf (l : Lists) (words : List Text) (r : Request) : Type 0 where
  pub name : Text
  pub rows : List Row
  pub entered : subcommand_of (program_app l) words ≡ Some (name, rows)
  pub request : IsRequest name rows r

-- and the program's options take them: each value is in its range or its list, nothing is given
-- twice, nothing is missing
pub record IsAskedFor (l : Lists) (words : List Text) (r : Request) : Type 0 where
  pub taken : fault_of (program_app l) words ≡ []
  pub asked : AreWordsOf l words r

-- why a text is shown: help or the version is asked for, or words are not taken, which the text is of
-- by its kind
pub record IsShownFor (l : Lists) (words : List Text) (text : Error) : Type 0 where
  pub fault : takes (program_app l) words ≢ true
  pub kind : IsAmong (kind_of text) (fault_of (program_app l) words)

-- words are taken, but ask for no request within its ranges
pub record IsAskedForNone (l : Lists) (words : List Text) : Type 0 where
  pub taken : fault_of (program_app l) words ≡ []
  pub none : (r : Request) → AreWordsOf l words r → IsInRange r → ⊥

-- what the words ask for, or nothing; or what is shown, since they are not taken
abbrev pub IsReadAs : Lists → List Text → Option Words → Type 0
IsReadAs l words None = IsAskedForNone l words
IsReadAs l words (Some (Asked r)) = IsAskedFor l words r
IsReadAs l words (Some (Shown text)) = IsShownFor l words text

pub record IsRead (words : List Text) (read : Option Words) : Type 0 where
  pub lists : Lists
  pub are : AreLists lists
  pub read_as : IsReadAs lists words read
