-- Who writes and who reads a key, node by node.
use Rattle.std.specs.Prelude.{◌≡◌, ℕ, ◌+◌, ◌<◌, List, [], ◌∷◌, ◌++◌, length, map, Option, None, Some, slice_get, All}
use Rattle.std.specs.Option.{option_map}
use Rattle.serializability.specs.declared.event.Event.{Event}
use Rattle.serializability.specs.Reads.{last_write, external_read}
use Rattle.session_history.specs.declared.rows.KeyRow.{KeyRow}
use Rattle.session_history.specs.declared.rows.Reader.{Reader}

-- the nodes that write a key, and those that read it externally, each with the identity that it
-- reads
pub record RowView : Type 0 where
  pub writers : List ℕ
  pub readers : List (ℕ × ℕ)

abbrev pub reader_view : Reader → ℕ × ℕ
reader_view r = (r.node, r.wid)

abbrev pub row_view : KeyRow → RowView
row_view row = record { writers = row.writers.items; readers = map reader_view row.readers.items }

abbrev pub writer_if : ℕ → Option ℕ → List ℕ
writer_if v None = []
writer_if v (Some w) = v ∷ []

abbrev pub reader_if : ℕ → Option ℕ → List (ℕ × ℕ)
reader_if v None = []
reader_if v (Some w) = (v, w) ∷ []

-- the row of key x with this node behind the others
abbrev pub row_after : RowView → ℕ → ℕ → List Event → RowView
row_after row x v ops = record {
  writers = row.writers ++ writer_if v (last_write x ops);
  readers = row.readers ++ reader_if v (external_read x ops);
}

-- with all of these, of which the first is node v
abbrev pub row_from : RowView → ℕ → ℕ → List (List Event) → RowView
row_from row x v [] = row
row_from row x v (ops ∷ rest) = row_from (row_after row x v ops) x (v + 1) rest

abbrev pub no_row : RowView
no_row = record { writers = []; readers = [] }

-- each node of the row is below v
pub record IsBelow (v : ℕ) (row : RowView) : Type 0 where
  pub writers : All (λ u. u < v) row.writers
  pub readers : All (λ r. r.0 < v) row.readers

-- so many rows, which are those of a function
pub record AreRows (keys : ℕ) (f : ℕ → RowView) (rows : List KeyRow) : Type 0 where
  pub count : length rows ≡ keys
  pub each : (x : ℕ) → x < keys → option_map row_view (slice_get rows x) ≡ Some (f x)
