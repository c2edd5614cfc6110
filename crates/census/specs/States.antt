-- What the operations of a transaction, up to some place, did with each key.
use Rattle.std.specs.Prelude.{ℕ, ◌==◌, ◌||◌, not, Bool, false, if◌then◌else◌, List, [], ◌∷◌, Option, Some, None, unwrap_or}
use Rattle.std.specs.Ordering.{nat_cmp}
use Rattle.std.specs.Str.{bytes_eq}
use Rattle.std.specs.Cmp.Lexicographic.{slice_cmp}
use Rattle.std.specs.declared.cmp.Ordering.{Ordering}
use Rattle.std.specs.BTreeMap.{get_by}
use Rattle.session_log.specs.Text.{key_of}
use Rattle.session_log.specs.declared.session.Op.{Op}
use Rattle.session_log.specs.declared.session.Op.TheVariants.{Read, Write}
use Rattle.census.specs.declared.states.KeyState.{KeyState}
use Rattle.census.specs.declared.states.States.{States}
use denote.Ref.{Bor}

-- nothing
abbrev pub untouched : KeyState
untouched = record { written = None; read = None; mixed = false }

-- behind a read, where this was written, read first and read otherwise before
abbrev pub after_read : Option ℕ → Option ℕ → Bool → ℕ → KeyState
after_read (Some own) read mixed wid = record { written = Some own; read = read; mixed = mixed }
after_read None None mixed wid = record { written = None; read = Some wid; mixed = false }
after_read None (Some first) mixed wid = record {
  written = None;
  read = Some first;
  mixed = mixed || not (first == wid);
}

-- behind an operation on the key
abbrev pub after : KeyState → Op → KeyState
after s (Read key wid) = after_read s.written s.read s.mixed wid
after s (Write key wid) = record { written = Some wid; read = s.read; mixed = s.mixed }

-- a read of it names another identity than this
abbrev pub differs_from : Option ℕ → Bool → ℕ → Bool
differs_from None mixed wid = false
differs_from (Some first) mixed wid = not (first == wid) || mixed

abbrev pub differs : KeyState → ℕ → Bool
differs s wid = differs_from s.read s.mixed wid

abbrev pub entry_cmp : List ℕ → Bor (List ℕ) → Ordering
entry_cmp key entry = slice_cmp nat_cmp key entry.now

-- what was done with a key
abbrev pub state_of : States → List ℕ → KeyState
state_of states key = unwrap_or (get_by (entry_cmp key) states.table) untouched

-- what operations do with a key of which this was done before
abbrev pub state_behind : List ℕ → KeyState → List Op → KeyState
state_behind key s [] = s
state_behind key s (op ∷ ops) = state_behind key
    (if bytes_eq key (key_of op) then after s op else s) ops

abbrev pub state_in : List ℕ → List Op → KeyState
state_in key ops = state_behind key untouched ops
