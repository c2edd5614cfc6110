-- What a history tells of its nodes and keys.
use Rattle.std.specs.Prelude.{ℕ, ◌==◌, ◌&&◌, false, List, length, is_some, Option, find}
use Rattle.std.specs.List.{filter, filter_map, range_with_len}
use Rattle.std.specs.Option.{option_map, option_map_or}
use Rattle.session_log.specs.Text.{ClientSession}
use Rattle.serializability.specs.Log.{Log}
use Rattle.serializability.specs.Reads.{last_write}
use Rattle.serializability.specs.Polygraph.{source, all_keys, committed}
use Rattle.log_definitions.specs.Serial.{committed_in, node_of}

-- the numbers from a on, n of them, that have a value, each with it
abbrev pub pair_at : {Y : Type 0} → (ℕ → Option Y) → ℕ → Option (ℕ × Y)
pair_at g x = option_map (λ y. (x, y)) (g x)

abbrev pub pairs : {Y : Type 0} → (ℕ → Option Y) → ℕ → ℕ → List (ℕ × Y)
pairs g a n = filter_map (pair_at g) (range_with_len a n)

-- the keys that node r reads externally, ascending, each with the node that it reads from
abbrev pub sources_of : Log → ℕ → List (ℕ × ℕ)
sources_of log r = filter_map (λ x. option_map (λ w. (x, w)) (source log r x)) (all_keys log)

-- the committed writers of a key, ascending
abbrev pub writers_in : Log → ℕ → List ℕ
writers_in log x = filter (λ v. is_some (last_write x (log.ops v))) (committed log)

-- a session number and a place in the session from 1, aborted transactions counted; node 0 has 0
-- and 0
abbrev pub name_in : List ClientSession → ℕ → ℕ × ℕ
name_in ss v = option_map_or (λ node. (node.session, node.place)) (node_of ss v) (0, 0)

-- the node of this name
abbrev pub node_named : List ClientSession → ℕ → ℕ → Option ℕ
node_named ss session place =
    find (λ v. option_map_or (λ node. (node.session == session) && (node.place == place))
    (node_of ss v) false)
    (range_with_len 1 (length (committed_in ss)))
