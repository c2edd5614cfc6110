-- The first fault of a text, line by line.
use Rattle.std.specs.Prelude.{◌≡◌, ℕ, zero, suc, ◌+◌, Bool, false, if◌then◌else◌, nat_eq, List, [], ◌∷◌, codes, Option, Some, None, Result, Ok, Err}
use Rattle.std.specs.List.{starts_with, AllByRecursion}
use Rattle.session_log.specs.Lines.{form_of, lines}
use Rattle.session_log.specs.Moments.{is_earlier}
use Rattle.session_log.specs.Version.{version_of, body_of, first_line}
use Rattle.session_log.specs.declared.line.Line.{Line}
use Rattle.session_log.specs.declared.line.Line.TheVariants as line
use Rattle.session_log.specs.declared.fault.LogFault.{LogFault}
use Rattle.session_log.specs.declared.fault.Limit.TheVariants.{LogBytes, Sessions}
use Rattle.session_log.specs.declared.fault.LogFault.TheVariants.{BadLine, OutsideTransaction, OpenTransaction, WriteZero, UnknownNotLast, EndsBeforeBegin, OverLimit, Memory}
use Rattle.session_log.specs.declared.version.Version.{Version}

-- where reading has come to: no session has begun; a session has, and no transaction is open; the
-- transaction is open whose `begin` is at this line and may state a moment; the session is over: no
-- transaction is open and none may begin, since the outcome of the last is unknown
pub data Place : Type 0 where
  Start : Place
  Between : Place
  Inside : ℕ → Option ℕ → Place
  Over : Place

-- the place after line n, of this form, or its fault
abbrev pub after : ℕ → Place → Line → Result Place LogFault
after n Start (line.Session _) = Ok Between
after n Start _ = Err (OutsideTransaction n)
after n Between (line.Session _) = Ok Between
after n Between (line.Begin begun) = Ok (Inside n begun)
after n Between _ = Err (OutsideTransaction n)
after n (Inside start begun) (line.Session _) = Err (OpenTransaction start)
after n (Inside start begun) (line.Begin _) = Err (OpenTransaction start)
after n (Inside start begun) (line.Read _ _) = Ok (Inside start begun)
after n (Inside start begun) (line.Write _ zero) = Err (WriteZero n)
after n (Inside start begun) (line.Write _ (suc _)) = Ok (Inside start begun)
after n (Inside start begun) (line.Commit ended) = if is_earlier ended begun then Err
    (EndsBeforeBegin n) else Ok Between
after n (Inside start begun) line.Abort = Ok Between
after n (Inside start begun) line.Unknown = Ok Over
after n Over (line.Session _) = Ok Between
after n Over (line.Begin _) = Err (UnknownNotLast n)
after n Over _ = Err (OutsideTransaction n)

-- the same of a line that may have no form
abbrev pub after_form : ℕ → Place → Option Line → Result Place LogFault
after_form n p None = Err (BadLine n)
after_form n p (Some l) = after n p l

-- the line begins with the bytes `session`
abbrev pub is_session_line : List ℕ × Bool → Bool
is_session_line l = starts_with nat_eq l.0 (codes "session")

-- the form of a line that has its LF
abbrev pub form_at : Version → List ℕ × Bool → Option Line
form_at v l = if l.1 then form_of v l.0 else None

-- the same of the line as it stands: where a transaction is open, a line that begins so ends it too
-- early
unfoldable pub step : Version → ℕ → Place → List ℕ × Bool → Result Place LogFault
step v n (Inside start begun) l = if is_session_line l then Err
    (OpenTransaction start) else after_form n (Inside start begun) (form_at v l)
step v n p l = after_form n p (form_at v l)

-- after the last line: the transaction that is open
abbrev pub fault_at_end : Place → Option LogFault
fault_at_end (Inside start begun) = Some (OpenTransaction start)
fault_at_end _ = None

-- the fault of a line, or else that of the lines after it
abbrev pub going_on : Result Place LogFault → (Place → Option LogFault) → Option LogFault
going_on (Ok p) next = next p
going_on (Err f) next = Some f

-- the first fault of these lines, the first of which is line n, met in this place
abbrev pub first_fault : Version → ℕ → Place → List (List ℕ × Bool) → Option LogFault
first_fault v n p [] = fault_at_end p
first_fault v n p (l ∷ ls) = going_on (step v n p l) (λ q. first_fault v (n + 1) q ls)

-- the first fault of the grammar in a log
unfoldable pub grammar_fault : List ℕ → Option LogFault
grammar_fault text = first_fault (version_of text) (first_line (version_of text)) Start
    (lines (body_of text))

-- no line begins with the bytes `session`
abbrev pub NoSessionLine : List (List ℕ × Bool) → Type 0
NoSessionLine ls = AllByRecursion (λ l. is_session_line l ≡ false) ls

-- a first line, and others that do not begin with `session`
abbrev pub IsBlock : List (List ℕ × Bool) → Type 0
IsBlock [] = ⊥
IsBlock (l ∷ ls) = NoSessionLine ls

-- memory ran out, or exactly this fault
abbrev pub IsFault : LogFault → Option LogFault → Type 0
IsFault Memory whole = Unit {0}
IsFault f whole = whole ≡ Some f

-- the same of a step's fault
abbrev pub FailsAs : {X : Type 0} → LogFault → Result X LogFault → Type 0
FailsAs Memory rule = Unit {0}
FailsAs f rule = rule ≡ Err f

-- memory ran out, or a limit on the whole text
abbrev pub IsSizeFault : LogFault → Type 0
IsSizeFault Memory = Unit {0}
IsSizeFault (OverLimit LogBytes) = Unit {0}
IsSizeFault (OverLimit Sessions) = Unit {0}
IsSizeFault _ = ⊥

-- memory ran out, or a fault of the grammar
abbrev pub IsGrammarFault : LogFault → Type 0
IsGrammarFault Memory = Unit {0}
IsGrammarFault (BadLine _) = Unit {0}
IsGrammarFault (OutsideTransaction _) = Unit {0}
IsGrammarFault (OpenTransaction _) = Unit {0}
IsGrammarFault (WriteZero _) = Unit {0}
IsGrammarFault (UnknownNotLast _) = Unit {0}
IsGrammarFault (EndsBeforeBegin _) = Unit {0}
IsGrammarFault _ = ⊥
