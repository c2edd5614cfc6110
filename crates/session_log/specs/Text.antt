-- The one text of each list of sessions. Its lines are this project's own; that each write has an
-- identity, which the reads of it name, is after Cobra (Tan et al., OSDI 2020).
use Rattle.std.specs.Prelude.{◌≡◌, ℕ, ◌<◌, ◌^◌, ◌-◌, min, Bool, true, false, ◌||◌, if◌then◌else◌, List, [], ◌∷◌, ◌++◌, map, codes, decimal, is_some, Option, Some, None}
use Rattle.std.specs.List.{flat_map, list_any, AllByRecursion}
use Rattle.session_log.specs.Key.{IsKey}
use Rattle.session_log.specs.Moments.{is_earlier, moment_text, IsMoment}
use Rattle.session_log.specs.Version.{header_text, has_unknown_line, has_moments}
use Rattle.session_log.specs.declared.line.Line.{Line}
use Rattle.session_log.specs.declared.line.Line.TheVariants as line
use Rattle.session_log.specs.declared.session.Op.{Op}
use Rattle.session_log.specs.declared.session.Op.TheVariants.{Read, Write}
use Rattle.session_log.specs.declared.session.Outcome.{Outcome}
use Rattle.session_log.specs.declared.session.Outcome.TheVariants.{Commit, Abort, Unknown}
use Rattle.session_log.specs.declared.session.Txn.{Txn}
use Rattle.session_log.specs.declared.session.Session.{Session}
use Rattle.session_log.specs.declared.version.Version.{Version}
use Rattle.session_log.specs.declared.version.Version.TheVariants.{One, Two, Three}

-- a transaction, without where it lies in memory: its operations, how it ended, and the moments at
-- which it began and ended, where they are stated
pub record Transaction : Type 0 where
  pub ops : List Op
  pub outcome : Outcome
  pub begun : Option ℕ
  pub ended : Option ℕ

-- a session, without where it lies in memory
pub record ClientSession : Type 0 where
  pub number : ℕ
  pub txns : List Transaction

-- what a transaction in memory holds
abbrev pub view_txn : Txn → Transaction
view_txn t = record { ops = t.ops.items; outcome = t.outcome; begun = t.begun; ended = t.ended }

-- what a session in memory holds
abbrev pub view : Session → ClientSession
view s = record { number = s.number; txns = map view_txn s.txns.items }

-- the line of an operation, by its form
abbrev pub op_line : Op → Line
op_line (Read key wid) = line.Read key wid
op_line (Write key wid) = line.Write key wid

-- the line that ends a transaction: a commit may state its moment
abbrev pub end_line : Outcome → Option ℕ → Line
end_line Commit ended = line.Commit ended
end_line Abort ended = line.Abort
end_line Unknown ended = line.Unknown

-- a transaction: `begin`, its operations, and the line that ends it
abbrev pub txn_lines : Transaction → List Line
txn_lines t = line.Begin t.begun ∷ map op_line t.ops ++ end_line t.outcome t.ended ∷ []

-- a session: its number, then its transactions
abbrev pub session_lines : ClientSession → List Line
session_lines s = line.Session s.number ∷ flat_map txn_lines s.txns

-- a number as a count says it that ends at `usize::MAX`
abbrev pub capped : ℕ → ℕ
capped n = min n (2 ^ 64 - 1)

-- the text of a line, without its LF: words with one space between them
unfoldable pub line_text : Line → List ℕ
line_text (line.Session number) = codes "session " ++ decimal number
line_text (line.Begin moment) = codes "begin" ++ moment_text moment
line_text (line.Read key wid) = codes "r " ++ key ++ 32 ∷ decimal wid
line_text (line.Write key wid) = codes "w " ++ key ++ 32 ∷ decimal wid
line_text (line.Commit moment) = codes "commit" ++ moment_text moment
line_text line.Abort = codes "abort"
line_text line.Unknown = codes "unknown"

-- a line with its LF
abbrev pub full_line : Line → List ℕ
full_line l = line_text l ++ 10 ∷ []

-- the text of lines
abbrev pub text_of_lines : List Line → List ℕ
text_of_lines lines = flat_map full_line lines

-- a session's text
unfoldable pub session_text : ClientSession → List ℕ
session_text s = text_of_lines (session_lines s)

-- the text of a list of sessions in this version: its header, and then theirs
unfoldable pub log_text : Version → List ClientSession → List ℕ
log_text v ss = header_text v ++ flat_map session_text ss

-- a moment that a line of this version may state
abbrev pub IsLegalMoment : Version → Option ℕ → Type 0
IsLegalMoment v None = Unit {0}
IsLegalMoment v (Some m) = (m < 2 ^ 64) × (has_moments v ≡ true)

-- what a line of each form holds, and which version has it
abbrev pub IsLegalLine : Version → Line → Type 0
IsLegalLine v (line.Session number) = (0 < number) × (number < 2 ^ 16)
IsLegalLine v (line.Read key wid) = IsKey key × (wid < 2 ^ 64)
IsLegalLine v (line.Write key wid) = IsKey key × (wid < 2 ^ 64)
IsLegalLine v line.Unknown = has_unknown_line v ≡ true
IsLegalLine v (line.Begin moment) = IsLegalMoment v moment
IsLegalLine v (line.Commit moment) = IsLegalMoment v moment
IsLegalLine v _ = Unit {0}

abbrev pub key_of : Op → List ℕ
key_of (Read key wid) = key
key_of (Write key wid) = key

abbrev pub is_write : Op → Bool
is_write (Read key wid) = false
is_write (Write key wid) = true

-- an operation that a log can hold: no write has identity 0, that of the initial value
abbrev pub IsLegalOp : Op → Type 0
IsLegalOp (Read key wid) = IsKey key × (wid < 2 ^ 64)
IsLegalOp (Write key wid) = IsKey key × (0 < wid) × (wid < 2 ^ 64)

-- only of a commit there is a moment
abbrev pub MayEndAt : Outcome → Option ℕ → Type 0
MayEndAt Commit ended = Unit {0}
MayEndAt Abort ended = ended ≡ None
MayEndAt Unknown ended = ended ≡ None

-- a transaction of such operations, which did not end before it began
pub record IsLegalTxn (t : Transaction) : Type 0 where
  pub ops : AllByRecursion IsLegalOp t.ops
  pub begun : IsMoment t.begun
  pub ended : IsMoment t.ended
  pub told : MayEndAt t.outcome t.ended
  pub ordered : is_earlier t.ended t.begun ≡ false

abbrev pub is_commit : Outcome → Bool
is_commit Commit = true
is_commit Abort = false
is_commit Unknown = false

-- the client was not told how the transaction ended
abbrev pub is_unknown : Outcome → Bool
is_unknown Unknown = true
is_unknown _ = false

-- the client was told
abbrev pub IsKnown : Transaction → Type 0
IsKnown t = is_unknown t.outcome ≡ false

-- each outcome but the last is known
abbrev pub IsKnownBeforeLast : List Transaction → Type 0
IsKnownBeforeLast [] = Unit {0}
IsKnownBeforeLast (t ∷ []) = Unit {0}
IsKnownBeforeLast (t ∷ u ∷ ts) = IsKnown t × IsKnownBeforeLast (u ∷ ts)

-- a session that a log can hold
pub record IsLegal (s : ClientSession) : Type 0 where
  pub low : 0 < s.number
  pub high : s.number < 2 ^ 16
  pub txns : AllByRecursion IsLegalTxn s.txns
  pub known : IsKnownBeforeLast s.txns

-- its moments are not stated
abbrev pub HasNoMoments : Transaction → Type 0
HasNoMoments t = (t.begun ≡ None) × (t.ended ≡ None)

-- a session that a log of this version can hold: version 1 has no unknown outcomes, and only
-- version 3 has moments
abbrev pub IsHeldBy : Version → ClientSession → Type 0
IsHeldBy One s = AllByRecursion IsKnown s.txns × AllByRecursion HasNoMoments s.txns
IsHeldBy Two s = AllByRecursion HasNoMoments s.txns
IsHeldBy Three s = Unit {0}

-- an outcome of the session is unknown
abbrev pub has_unknown : ClientSession → Bool
has_unknown s = list_any (λ t. is_unknown t.outcome) s.txns

-- a moment of the session is stated
abbrev pub has_moment : ClientSession → Bool
has_moment s = list_any (λ t. is_some t.begun || is_some t.ended) s.txns

-- the least version that holds these sessions
abbrev pub least_version : List ClientSession → Version
least_version ss = if list_any has_moment ss then Three else
    (if list_any has_unknown ss then Two else One)
