-- From what was read of a text to what the text is.
use Rattle.long_reading.proofs.Prelude.{◌≡◌, ℕ, List, Some, None, sym, ap, ◌∙◌, subst, ClientSession, log_text, version_of, first_line, grammar_fault, IsFault, blocks_of, LogFault, fault_by_blocks, joined, same_fault, option_or}
use Rattle.long_reading.proofs.Prelude.{either_fault, log_lines, session_twice, write_twice, session_fault, write_fault, size_fault, list_fault, IsLongLog, IsLongLogFault, memory, size, grammar, list, AreRead, fault_of_blocks, Stated}
use Rattle.long_reading.proofs.Prelude.{by_line, AscendFrom}
use Rattle.session_log.specs.declared.fault.LogFault.TheVariants.{Memory, SessionTwice, WriteTwice}
use Rattle.long_reading.proofs.Stating.{from_none}

pub text_is : (log : List ℕ) (ss : List ClientSession) → AreRead log (blocks_of log) ss → log ≡ log_text (version_of log) ss
text_is log ss h = joined log ss h.texts

pub grammar_is : (log : List ℕ) (f : LogFault) → IsFault f (fault_of_blocks log (blocks_of log)) → IsFault f (grammar_fault log)
grammar_is log f h = same_fault f (grammar_fault log) (fault_of_blocks log (blocks_of log)) (fault_by_blocks log) h

by_memory : (log : List ℕ) (f : LogFault) → f ≡ Memory → IsLongLogFault log f
by_memory log f e = subst (IsLongLogFault log) (sym e) memory

pub refused_by_size : (log : List ℕ) (f : LogFault) → IsFault f (size_fault log) → IsLongLogFault log f
refused_by_size log f h = either_fault (IsLongLogFault log f) f (size_fault log) (by_memory log f) (size f) h

pub refused_by_grammar : (log : List ℕ) (f : LogFault) → size_fault log ≡ None → IsFault f (grammar_fault log) → IsLongLogFault log f
refused_by_grammar log f s h = either_fault (IsLongLogFault log f) f (grammar_fault log) (by_memory log f) (grammar f s) h

pub refused_by_list : (log : List ℕ) (ss : List ClientSession) (f : LogFault) → size_fault log ≡ None → AreRead log (blocks_of log) ss → IsFault f (list_fault (first_line (version_of log)) ss) → IsLongLogFault log f
refused_by_list log ss f s r h = either_fault (IsLongLogFault log f) f (list_fault (first_line (version_of log)) ss) (by_memory log f) (list f ss s r.legal r.held (text_is log ss r)) h

pub is_long : (log : List ℕ) (ss : List ClientSession) → size_fault log ≡ None → AreRead log (blocks_of log) ss → list_fault (first_line (version_of log)) ss ≡ None → IsLongLog log ss
is_long log ss s r n = record { legal = r.legal; held = r.held; lines = text_is log ss r; size = s; sessions = n }

-- ---- what the sessions state
pub session_found : (n : ℕ) (ss : List ClientSession) (line : ℕ) → session_twice n (log_lines ss) ≡ Some line → list_fault n ss ≡ Some (SessionTwice line)
unfolding list_fault
session_found n ss line e = ap (λ o. option_or (session_fault o) (write_fault (write_twice n (log_lines ss)))) e

pub write_found : (n : ℕ) (ss : List ClientSession) (line : ℕ) → session_twice n (log_lines ss) ≡ None → write_twice n (log_lines ss) ≡ Some line → list_fault n ss ≡ Some (WriteTwice line)
unfolding list_fault
write_found n ss line e f = ap (λ o. option_or (session_fault o) (write_fault (write_twice n (log_lines ss)))) e ∙ ap write_fault f

pub none_found : (n : ℕ) (ss : List ClientSession) → session_twice n (log_lines ss) ≡ None → write_twice n (log_lines ss) ≡ None → list_fault n ss ≡ None
unfolding list_fault
none_found n ss e f = ap (λ o. option_or (session_fault o) (write_fault (write_twice n (log_lines ss)))) e ∙ ap write_fault f

-- what a sort is asked, and what it gives, by the lines of the log
pub ascend : (stated : List Stated) (xs : List (ℕ × ℕ)) (n : ℕ) → by_line stated ≡ xs → AscendFrom n xs → AscendFrom 0 (by_line stated)
ascend stated xs n e h = subst (AscendFrom 0) (sym e) (from_none n xs h)
