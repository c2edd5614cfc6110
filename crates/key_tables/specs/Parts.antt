-- What keys hold in many tables, each for the keys with some marks.
use Rattle.std.specs.Prelude.{ℕ, ◌%◌, zero, suc, List, Option, None, length, slice_get}
use Rattle.std.specs.Option.{option_map_or}
use Rattle.key_tables.specs.Table.{mark_of, held_in}
use Rattle.key_tables.specs.declared.tables.KeyTable.{KeyTable}

-- which of so many tables is for a key
abbrev pub place_in : ℕ → List ℕ → ℕ
place_in zero key = 0
place_in (suc n) key = mark_of key % suc n

-- what a key holds
abbrev pub held_by : KeyTable → List ℕ → Option ℕ
held_by table key = option_map_or (λ t. held_in t key) (slice_get table.tables.items (place_in (length table.tables.items) key)) None
