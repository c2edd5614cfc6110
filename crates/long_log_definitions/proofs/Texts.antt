-- What holds of a text that is a long log, and of one that is none.
use Rattle.std.proofs.Common.{◌≡◌, ◌≢◌, ℕ, ◌≤◌, ◌^◌, List, [], length, Some, None, sym, ap, ◌∙◌, subst, arith, length-append, nat_eq}
use Rattle.std.specs.List.{IsDistinct, AllByRecursion}
use Rattle.std.specs.Option.{option_or}
use Rattle.session_log.specs.Text.{ClientSession, IsLegal, text_of_lines, log_text}
use Rattle.session_log.specs.Version.{header_text, first_line, version_of}
use Rattle.session_log.specs.Blocks as short
use Rattle.session_log.specs.declared.fault.Limit.{Limit}
use Rattle.session_log.specs.declared.fault.LogFault.{LogFault}
use Rattle.session_log.specs.declared.fault.LogFault.TheVariants.{OverLimit}
use Rattle.session_log.specs.declared.version.Version.{Version}
use Rattle.session_log.proofs.Whole.{log_by_lines}
use Rattle.serializability.proofs.Places.{Apart-from_IsDistinct}
use Rattle.serializability.proofs.Listed.{IsDistinct-from_Apart}
use Rattle.log_definitions.specs.WellFormed.{log_lines, session_twice, write_twice, session_fault, write_fault, limit_fault, sessions_from, writes_from}
use Rattle.log_definitions.specs.WellFormed as judged
use Rattle.log_definitions.proofs.Refused.{NotMemory}
use Rattle.log_definitions.proofs.Room.{lines_bytes}
use Rattle.log_definitions.proofs.Scanning.{numbers}
use Rattle.log_laws.specs.Logs.{IsSoundLog}
use Rattle.log_laws.proofs.Sound.{sound_where_legal}
use Rattle.long_log_definitions.specs.LongLog.{size_fault, list_fault, IsLongLog, IsLongLogFault, memory, size, grammar, list, HasOwnNumbers}
use Rattle.long_log_definitions.proofs.Repeats.{apart_where_none, none_where_apart}
use Rattle.long_log_definitions.proofs.Lines.{session_numbers, written_identities}

-- ---- no definition answers memory
pub size_fault_named : (text : List ℕ) → NotMemory (size_fault text)
unfolding size_fault
size_fault_named text e = grind arith

pub list_fault_named : (n : ℕ) (ss : List ClientSession) → NotMemory (list_fault n ss)
unfolding list_fault
list_fault_named n ss e = grind arith

-- ---- its sessions have numbers of their own
pub numbers_where_no_fault : (n : ℕ) (ss : List ClientSession) → list_fault n ss ≡ None → HasOwnNumbers ss
unfolding list_fault
numbers_where_no_fault n ss e =
    let sessions = apart_where_none [] (sessions_from n (log_lines ss)) (grind arith) in
    let writes = apart_where_none [] (writes_from n (log_lines ss)) (grind arith) in
    record {
      sessions = subst (IsDistinct nat_eq) (session_numbers ss n) (IsDistinct-from_Apart (numbers (sessions_from n (log_lines ss))) sessions.0);
      writes = subst (IsDistinct nat_eq) (written_identities ss n) (IsDistinct-from_Apart (numbers (writes_from n (log_lines ss))) writes.0);
    }

pub sound_where_long : (text : List ℕ) (ss : List ClientSession) → IsLongLog text ss → AllByRecursion IsLegal ss × IsSoundLog ss
sound_where_long text ss w =
    let own = numbers_where_no_fault (first_line (version_of text)) ss w.sessions in
    (w.legal, sound_where_legal ss w.legal own.sessions own.writes)

pub no_fault_where_numbers : (n : ℕ) (ss : List ClientSession) → HasOwnNumbers ss → list_fault n ss ≡ None
unfolding list_fault
no_fault_where_numbers n ss h =
    let sessions : session_twice n (log_lines ss) ≡ None =
    none_where_apart [] (sessions_from n (log_lines ss)) (Apart-from_IsDistinct (numbers (sessions_from n (log_lines ss))) (subst (IsDistinct nat_eq) (sym (session_numbers ss n)) h.sessions)) (λ w here none. none) in
    let writes : write_twice n (log_lines ss) ≡ None =
    none_where_apart [] (writes_from n (log_lines ss)) (Apart-from_IsDistinct (numbers (writes_from n (log_lines ss))) (subst (IsDistinct nat_eq) (sym (written_identities ss n)) h.writes)) (λ w here none. none) in
    ap (λ o. option_or (session_fault o) (write_fault (write_twice n (log_lines ss)))) sessions ∙ ap write_fault writes

-- ---- of the logs that a log's limits allow
pub size_where_small : (text : List ℕ) → short.size_fault text ≡ None → size_fault text ≡ None
unfolding short.size_fault size_fault
size_where_small text e = grind arith

pub long_where_well_formed : (text : List ℕ) (ss : List ClientSession) → judged.IsWellFormed text ss → IsLongLog text ss
unfolding judged.list_fault list_fault
long_where_well_formed text ss w = record {
  legal = w.legal;
  held = w.held;
  lines = w.lines;
  size = size_where_small text w.size;
  sessions = grind (arith, w.sessions);
}

pub well_formed_where_small : (text : List ℕ) (ss : List ClientSession) → IsLongLog text ss → short.size_fault text ≡ None → limit_fault ss ≡ None → judged.IsWellFormed text ss
unfolding judged.list_fault list_fault
well_formed_where_small text ss w small few = record {
  legal = w.legal;
  held = w.held;
  lines = w.lines;
  size = small;
  sessions = grind (arith, w.sessions, few);
}

-- each limit has faults of its own
small_size_over : (text : List ℕ) (f : LogFault) → ((which : Limit) → f ≢ OverLimit which) → short.size_fault text ≡ Some f → ⊥
unfolding short.size_fault
small_size_over text f apart e = grind (arith, apart)

without_limit : (n : ℕ) (ss : List ClientSession) (f : LogFault) → ((which : Limit) → f ≢ OverLimit which) → judged.list_fault n ss ≡ Some f → list_fault n ss ≡ Some f
unfolding judged.list_fault list_fault
without_limit n ss f apart e = grind (arith, apart)

pub fault_of_long : (text : List ℕ) (f : LogFault) → judged.IsLogFault text f → ((which : Limit) → f ≢ OverLimit which) → IsLongLogFault text f
fault_of_long text _ judged.memory apart = memory
fault_of_long text _ (judged.size f e) apart = absurd (small_size_over text f apart e)
fault_of_long text _ (judged.grammar f s e) apart = grammar f (size_where_small text s) e
fault_of_long text _ (judged.list f ss s legal held lines e) apart =
    list f ss (size_where_small text s) legal held lines (without_limit (first_line (version_of text)) ss f apart e)

-- ---- there are no more lines than bytes

pub bytes_within : (text : List ℕ) → size_fault text ≡ None → length text ≤ 2 ^ 30
unfolding size_fault
bytes_within text s = grind arith

pub lines_within : (v : Version) (text : List ℕ) (ss : List ClientSession) → size_fault text ≡ None → text ≡ log_text v ss → length (log_lines ss) ≤ 2 ^ 30
lines_within v text ss s e =
    let bytes = bytes_within text s in
    let fewer = lines_bytes (log_lines ss) in
    let same = ap length (e ∙ log_by_lines v ss) ∙ length-append (header_text v) (text_of_lines (log_lines ss)) in
    omega (arith, bytes, fewer, same)

pub own_numbers : (log : List ℕ) (ss : List ClientSession) → IsLongLog log ss → HasOwnNumbers ss
own_numbers log ss long = numbers_where_no_fault (first_line (version_of log)) ss long.sessions
