-- What makes the text of legal sessions a long log, and which fault is meant where several stand.
use Rattle.std.specs.Prelude.{ℕ, nat_eq, List, map, Option, None}
use Rattle.std.specs.List.{IsDistinct}
use Rattle.std.specs.Option.{option_or}
use Rattle.session_log.specs.Text.{ClientSession}
use Rattle.session_log.specs.Blocks.{fault_of_size}
use Rattle.session_log.specs.declared.fault.LogFault.{LogFault}
use Rattle.log_definitions.specs.Unknown.{ops_in}
use Rattle.log_definitions.specs.WellFormed.{log_lines, session_twice, write_twice, session_fault, write_fault, written, IsLogWithin, IsFaultWithin}
pub use Rattle.log_definitions.specs.WellFormed.{memory, size, grammar, list}
use Rattle.long_log_definitions.specs.declared.limits.TheConstants.{MAX_LONG_LOG_BYTES}

-- the limit on the whole text
unfoldable pub size_fault : List ℕ → Option LogFault
size_fault text = fault_of_size MAX_LONG_LOG_BYTES None text

-- the first fault of legal sessions, whose text begins at line n: a session number that stood
-- before, then an identity that was written before
unfoldable pub list_fault : ℕ → List ClientSession → Option LogFault
list_fault n ss = option_or (session_fault (session_twice n (log_lines ss)))
    (write_fault (write_twice n (log_lines ss)))

-- a long log, which tells its version, and the sessions that it holds
abbrev pub IsLongLog : List ℕ → List ClientSession → Type 0
IsLongLog = IsLogWithin size_fault list_fault

-- which fault a text is refused with that is no long log
abbrev pub IsLongLogFault : List ℕ → LogFault → Type 0
IsLongLogFault = IsFaultWithin size_fault list_fault

-- no two sessions have one number, and no two writes one identity (those of every outcome)
pub record HasOwnNumbers (ss : List ClientSession) : Type 0 where
  pub sessions : IsDistinct nat_eq (map (λ s. s.number) ss)
  pub writes : IsDistinct nat_eq (written (ops_in ss))
