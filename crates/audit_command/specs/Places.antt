-- Where the transactions of a part stand in the whole log.
use Rattle.std.specs.Prelude.{ℕ, ◌+◌, Bool, true, if◌then◌else◌, List, [], ◌∷◌, ◌++◌, length, Option, Some, None, Vec, slice_index_or}
use Rattle.std.specs.declared.alloc.Global.{Global}
use Rattle.session_log.specs.Text.{ClientSession, Transaction, txn_lines, session_lines}
use Rattle.log_parts.specs.Picked.{flag_of, flags_view}
use Rattle.audit_report.specs.declared.told.ToldTxn.{ToldTxn}

-- a transaction at this place of a session of this number, which begins at this line: its operations
-- have a line each, and one ends it
abbrev pub told_txn : ℕ → ℕ → ℕ → Transaction → ToldTxn
told_txn number place line t = record {
  session = number;
  place = place;
  first = line;
  last = line + length t.ops + 1;
}

-- those among a session's transactions that are chosen, the first of which has this place and line
abbrev pub told_from : (ℕ → Bool) → ℕ → ℕ → ℕ → List Transaction → List ToldTxn
told_from chosen number place line [] = []
told_from chosen number place line (t ∷ ts) =
    (if chosen place then told_txn number place line t ∷ [] else [])
    ++ told_from chosen number (place + 1) (line + length (txn_lines t)) ts

-- those that are chosen by the indices of their sessions and by their places; the first session has
-- this index and begins at this line
abbrev pub told_in : (ℕ → ℕ → Bool) → ℕ → ℕ → List ClientSession → List ToldTxn
told_in chosen i line [] = []
told_in chosen i line (s ∷ ss) = told_from (chosen i) s.number 1 (line + 1) s.txns
    ++ told_in chosen (i + 1) (line + length (session_lines s)) ss

-- which transactions a part has: those with a flag, or all
abbrev pub chosen_by : Option (Vec (Vec Bool Global) Global) → ℕ → ℕ → Bool
chosen_by None i place = true
chosen_by (Some flags) i place = flag_of (slice_index_or (flags_view flags.items) i []) place

-- the transactions of a part in the log of these sessions, the first of which begins at this line
abbrev pub told_by : Option (Vec (Vec Bool Global) Global) → ℕ → List ClientSession → List ToldTxn
told_by flags line ss = told_in (chosen_by flags) 0 line ss
