-- What makes the text of legal sessions a well-formed log, and which fault is meant where several
-- stand.
use Rattle.std.specs.Prelude.{◌≡◌, ℕ, ◌+◌, ◌≤◌, Bool, ◌&&◌, not, if◌then◌else◌, nat_lt, nat_eq, List, [], ◌∷◌, ◌++◌, length, map, count_by, Option, Some, None}
use Rattle.std.specs.List.{flat_map, list_any, AllByRecursion, IsDistinct}
use Rattle.std.specs.Option.{option_or}
use Rattle.std.specs.Str.{bytes_eq}
use Rattle.session_log.specs.Text.{ClientSession, Transaction, IsLegal, IsHeldBy, session_lines, log_text, key_of}
use Rattle.session_log.specs.Version.{first_line, version_of}
use Rattle.session_log.specs.Blocks.{size_fault}
use Rattle.session_log.specs.Faults.{grammar_fault}
use Rattle.session_log.specs.declared.session.Op.{Op}
use Rattle.session_log.specs.declared.session.Op.TheVariants.{Read, Write}
use Rattle.session_log.specs.declared.line.Line.{Line}
use Rattle.session_log.specs.declared.line.Line.TheVariants as line
use Rattle.session_log.specs.declared.fault.Limit.TheVariants as limit
use Rattle.session_log.specs.declared.fault.LogFault.{LogFault}
use Rattle.session_log.specs.declared.fault.LogFault.TheVariants.{SessionTwice, WriteTwice, OverLimit, Memory}
use Rattle.serializability.specs.declared.node.TheConstants.{MAX_NODES}
use Rattle.session_log.specs.declared.limits.TheConstants.{MAX_KEYS, MAX_OPERATIONS}
use Rattle.log_definitions.specs.Unknown.{txns_in, ops_in, is_committed, is_unknown}

-- the lines of a log, by their forms
abbrev pub log_lines : List ClientSession → List Line
log_lines ss = flat_map session_lines ss

-- the numbers of the sessions that these lines begin, each with its line, where the first is line n
abbrev pub sessions_from : ℕ → List Line → List (ℕ × ℕ)
sessions_from n [] = []
sessions_from n (line.Session number ∷ ls) = (n, number) ∷ sessions_from (n + 1) ls
sessions_from n (_ ∷ ls) = sessions_from (n + 1) ls

-- the identities that they write, each with its line
abbrev pub writes_from : ℕ → List Line → List (ℕ × ℕ)
writes_from n [] = []
writes_from n (line.Write key wid ∷ ls) = (n, wid) ∷ writes_from (n + 1) ls
writes_from n (_ ∷ ls) = writes_from (n + 1) ls

-- the first line whose number stood before
abbrev pub repeated : List ℕ → List (ℕ × ℕ) → Option ℕ
repeated seen [] = None
repeated seen (x ∷ xs) = if list_any (nat_eq x.1) seen then Some x.0 else repeated
    (seen ++ x.1 ∷ []) xs

abbrev pub session_twice : ℕ → List Line → Option ℕ
session_twice n ls = repeated [] (sessions_from n ls)

abbrev pub write_twice : ℕ → List Line → Option ℕ
write_twice n ls = repeated [] (writes_from n ls)

-- these keys, and behind them each other one at its first appearance
abbrev pub first_seen : List (List ℕ) → List (List ℕ) → List (List ℕ)
first_seen seen [] = seen
first_seen seen (key ∷ keys) = first_seen (if list_any
    (bytes_eq key) seen then seen else seen ++ key ∷ []) keys

-- the keys, in the order of their first appearance in any operation of any transaction
unfoldable pub keys_in : List ClientSession → List (List ℕ)
keys_in ss = first_seen [] (map key_of (ops_in ss))

-- the log says that the transaction was aborted; the others may be nodes
abbrev pub is_aborted : Transaction → Bool
is_aborted t = not (is_committed t) && not (is_unknown t)

abbrev pub limit_fault : List ClientSession → Option LogFault
limit_fault ss =
    if nat_lt MAX_OPERATIONS (length (ops_in ss)) then Some (OverLimit limit.Operations) else
    (if nat_lt MAX_NODES (count_by (λ t. not (is_aborted t)) (txns_in ss)) then Some
    (OverLimit limit.Committed) else
    (if nat_lt MAX_KEYS (length (keys_in ss)) then Some (OverLimit limit.Keys) else None))

abbrev pub session_fault : Option ℕ → Option LogFault
session_fault None = None
session_fault (Some n) = Some (SessionTwice n)

abbrev pub write_fault : Option ℕ → Option LogFault
write_fault None = None
write_fault (Some n) = Some (WriteTwice n)

-- the first fault of legal sessions, whose text begins at line n: a session number that stood
-- before, then a limit, then an identity that was written before
unfoldable pub list_fault : ℕ → List ClientSession → Option LogFault
list_fault n ss =
    option_or (session_fault (session_twice n (log_lines ss)))
    (option_or (limit_fault ss) (write_fault (write_twice n (log_lines ss))))

-- the sessions of a text that has no fault of these two kinds: those of a text by its size, and those
-- of legal sessions whose text begins at a line
pub record IsLogWithin (text_fault : List ℕ → Option LogFault)
    (sessions_fault : ℕ → List ClientSession → Option LogFault) (text : List ℕ)
    (ss : List ClientSession) : Type 0 where
  pub legal : AllByRecursion IsLegal ss
  pub held : AllByRecursion (IsHeldBy (version_of text)) ss
  pub lines : text ≡ log_text (version_of text) ss
  pub size : text_fault text ≡ None
  pub sessions : sessions_fault (first_line (version_of text)) ss ≡ None

-- which fault a text is refused with: memory, or the first of those of the size, of the grammar and
-- of the sessions
pub data IsFaultWithin (text_fault : List ℕ → Option LogFault)
    (sessions_fault : ℕ → List ClientSession → Option LogFault)
    (text : List ℕ) : LogFault → Type 0 where
  memory : IsFaultWithin text_fault sessions_fault text Memory
  size : (f : LogFault) → text_fault text ≡ Some f
      → IsFaultWithin text_fault sessions_fault text f
  grammar : (f : LogFault) → text_fault text ≡ None → grammar_fault text ≡ Some f
      → IsFaultWithin text_fault sessions_fault text f
  list : (f : LogFault) (ss : List ClientSession) → text_fault text ≡ None
      → AllByRecursion IsLegal ss → AllByRecursion (IsHeldBy (version_of text)) ss
      → text ≡ log_text (version_of text) ss
      → sessions_fault (first_line (version_of text)) ss ≡ Some f
      → IsFaultWithin text_fault sessions_fault text f

-- a well-formed log, which tells its version, and the sessions that it holds
abbrev pub IsWellFormed : List ℕ → List ClientSession → Type 0
IsWellFormed = IsLogWithin size_fault list_fault

-- which fault a log is refused with
abbrev pub IsLogFault : List ℕ → LogFault → Type 0
IsLogFault = IsFaultWithin size_fault list_fault

-- the identities that operations write
abbrev pub written : List Op → List ℕ
written [] = []
written (Read key wid ∷ ops) = written ops
written (Write key wid ∷ ops) = wid ∷ written ops

-- no two sessions have one number, no two writes one identity (those of every outcome), and the
-- limits are kept
pub record KeepsRules (ss : List ClientSession) : Type 0 where
  pub sessions : IsDistinct nat_eq (map (λ s. s.number) ss)
  pub writes : IsDistinct nat_eq (written (ops_in ss))
  pub operations : length (ops_in ss) ≤ MAX_OPERATIONS
  pub committed : count_by (λ t. not (is_aborted t)) (txns_in ss) ≤ MAX_NODES
  pub keys : length (keys_in ss) ≤ MAX_KEYS
