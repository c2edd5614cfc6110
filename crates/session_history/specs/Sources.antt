-- What each node reads, key by key.
use Rattle.std.specs.Prelude.{◌≡◌, ℕ, ◌+◌, ◌<◌, ◌==◌, ◌&&◌, if◌then◌else◌, List, [], ◌∷◌, ◌++◌, length, map, Option, None, Some, slice_get, Vec}
use Rattle.std.specs.Option.{option_map}
use Rattle.std.specs.declared.alloc.Global.{Global}
use Rattle.session_history.specs.declared.writes.Written.{Written}
use Rattle.session_history.specs.declared.reads.ReadFrom.{ReadFrom}
use Rattle.session_history.specs.declared.rows.KeyRow.{KeyRow}
use Rattle.session_history.specs.Rows.{reader_view}

-- the node whose last write of the key this is, and 0 where it is no node's
abbrev pub final_node : Option Written → ℕ → ℕ
final_node None x = 0
final_node (Some r) x = if (r.key == x) && r.last then r.node else 0

abbrev pub reads_view : List ReadFrom → List (ℕ × ℕ)
reads_view reads = map (λ r. (r.key, r.source)) reads

-- so many lists of reads, which are those of a function, for nodes from 1
pub record AreReads (n : ℕ) (g : ℕ → List (ℕ × ℕ))
    (reads : List (Vec ReadFrom Global)) : Type 0 where
  pub count : length reads ≡ n
  pub each : (i : ℕ) → i < n → option_map (λ r. reads_view r.items) (slice_get reads i) ≡ Some
      (g (i + 1))

-- what node v reads of key x, by these readers and by the node of each identity
abbrev pub found_by : ℕ → (ℕ → ℕ) → ℕ → List (ℕ × ℕ) → List (ℕ × ℕ)
found_by x source v [] = []
found_by x source v (r ∷ readers) = (if r.0 == v then (x, source r.1) ∷ [] else [])
    ++ found_by x source v readers

-- what it reads of these keys, of which the first is x
abbrev pub found_in : ℕ → (ℕ → ℕ → ℕ) → ℕ → List (List (ℕ × ℕ)) → List (ℕ × ℕ)
found_in x source v [] = []
found_in x source v (readers ∷ rest) = found_by x (source x) v readers ++ found_in
    (x + 1) source v rest

abbrev pub readers_of : KeyRow → List (ℕ × ℕ)
readers_of row = map reader_view row.readers.items
