-- Walks along writers, forwards and back.
use Rattle.std.specs.Prelude.{◌≡◌, ℕ, zero, suc, ◌+◌, Bool, true, false, List, length, slice_index_or, Option, None, Some}
use Rattle.std.specs.Option.{option_map_or}
use Rattle.serializability.specs.Log.{Log}
use Rattle.serializability.specs.Polygraph.{source}

-- where so many steps by a function lead, or fewer where it leads no further
abbrev pub end_by : (ℕ → Option ℕ) → ℕ → ℕ → ℕ
end_by f zero v = v
end_by f (suc steps) v = option_map_or (end_by f steps) (f v) v

-- so many steps back from v stands one that reads the key from nobody
abbrev pub IsOpenIn : Log → ℕ → ℕ → ℕ → Type 0
IsOpenIn log x zero v = source log v x ≡ None
IsOpenIn log x (suc steps) v = (u : ℕ) × ((source log v x ≡ Some u) × IsOpenIn log x steps u)

-- back from v the sources of the key come to an end
pub record IsOpen (log : Log) (x v : ℕ) : Type 0 where
  pub steps : ℕ
  pub back : IsOpenIn log x steps v

-- each marked node of nodes 0 to n is open
pub record AreOpen (log : Log) (x : ℕ) (marks : List Bool) : Type 0 where
  pub count : length marks ≡ log.nodes + 1
  pub each : (v : ℕ) → slice_index_or marks v false ≡ true → IsOpen log x v
