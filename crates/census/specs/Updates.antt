-- Lost updates (A7).
use Rattle.std.specs.Prelude.{ℕ, ◌==◌, ◌&&◌, nat_lt, Bool, false, if◌then◌else◌, List, [], ◌∷◌, Option, Some, None, is_some, count_by}
use Rattle.std.specs.List.{list_any}
use Rattle.std.specs.Option.{option_map_or}
use Rattle.std.specs.Str.{bytes_eq}
use Rattle.session_log.specs.Text.{ClientSession, Transaction}
use Rattle.session_log.specs.declared.session.Op.{Op}
use Rattle.session_log.specs.declared.session.Op.TheVariants.{Read, Write}
use Rattle.census.specs.Reads.{last_write, committed_in}

-- what the first operation on the key reads, where it is a read
abbrev pub first_read : List ℕ → List Op → Option ℕ
first_read key [] = None
first_read key (Read k w ∷ ops) = if bytes_eq key k then Some w else first_read key ops
first_read key (Write k w ∷ ops) = if bytes_eq key k then None else first_read key ops

-- the transaction reads this version of the key externally, and writes the key
abbrev pub updates : List ℕ → ℕ → Transaction → Bool
updates key wid t = option_map_or (λ r. r == wid) (first_read key t.ops) false
    && is_some (last_write key t.ops)

-- one of its reads names a version that it updates, and of these transactions more than one does
abbrev pub loses_by : List Transaction → Transaction → Op → Bool
loses_by ts t (Read key wid) = updates key wid t && nat_lt 1 (count_by (updates key wid) ts)
loses_by ts t (Write key wid) = false

abbrev pub is_lost : List Transaction → Transaction → Bool
is_lost ts t = list_any (loses_by ts t) t.ops

-- how many committed transactions update a version that another one updates too
unfoldable pub lost_in : List ClientSession → ℕ
lost_in ss = count_by (is_lost (committed_in ss)) (committed_in ss)
