-- Where the nodes of a placed history stand.
use Rattle.std.specs.Prelude.{ℕ, map}
use Rattle.log_lines.specs.Rows.{TxnRow, Table, view_place, rows_of, row_at, line_at}
use Rattle.log_lines.specs.declared.placed.PlacedHistory.{PlacedHistory}

-- its sessions' transactions
abbrev pub table_in : PlacedHistory → Table
table_in log = rows_of log.places.now

-- node v
abbrev pub row_in : PlacedHistory → ℕ → TxnRow
row_in log v = row_at (map (λ p. view_place p.now) log.nodes.items) v

-- its place in its session of the log
abbrev pub place_in : PlacedHistory → ℕ → ℕ
place_in log v = (row_in log v).place

-- the line at which it begins, that of operation i, from 0, and the one that ends it
abbrev pub begin_in : PlacedHistory → ℕ → ℕ
begin_in log v = (row_in log v).begin

abbrev pub op_line_in : PlacedHistory → ℕ → ℕ → ℕ
op_line_in log v i = line_at (row_in log v) i

abbrev pub end_line_in : PlacedHistory → ℕ → ℕ
end_line_in log v = (row_in log v).end
