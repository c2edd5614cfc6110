-- How many faults each key has, by a table.
use Rattle.std.specs.Prelude.{ℕ, ◌&&◌, nat_lt, Bool, false, List, length, take, position, insert, Option, Some, None, is_some, unwrap_or}
use Rattle.std.specs.BTreeMap.{BTreeMap, get_by}
use Rattle.census.specs.Versions.{has_version}
use Rattle.census.specs.States.{entry_cmp}
use Rattle.census.specs.declared.states.KeyState.{KeyState}
use Rattle.census.specs.declared.updates.Updates.{Updates}
use Rattle.census.specs.declared.numbers.KeyFaults.{KeyFaults}
use denote.Ref.{Bor}

abbrev pub count_in : BTreeMap (Bor (List ℕ)) ℕ → List ℕ → ℕ
count_in table key = unwrap_or (get_by (entry_cmp key) table) 0

-- a transaction that read this of the key, and wrote this, is in a lost update of it
abbrev pub loses_as : Updates → List ℕ → Option ℕ → Option ℕ → Bool
loses_as known key None written = false
loses_as known key (Some wid) written = is_some written && has_version known.again key wid

abbrev pub is_lost_with : Updates → List ℕ → KeyState → Bool
is_lost_with known key state = loses_as known key state.read state.written

-- ---- lines of keys, the worst first

-- where one with so many faults stands behind those with as many
abbrev pub place_in : ℕ → List KeyFaults → ℕ
place_in faults lines = unwrap_or (position (λ l. nat_lt l.faults faults) lines) (length lines)

-- the first ten, with another one
abbrev pub with_line : KeyFaults → List KeyFaults → List KeyFaults
with_line line lines = take 10 (insert lines (place_in line.faults lines) line)
