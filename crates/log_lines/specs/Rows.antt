-- Where transactions stand in a log, as data.
use Rattle.std.specs.Prelude.{◌≡◌, ℕ, zero, suc, ◌+◌, List, [], ◌∷◌, map, length, slice_index_or}
use Rattle.std.specs.List.{range_with_len}
use Rattle.session_log.specs.Text.{ClientSession, Transaction, txn_lines, session_lines}
use Rattle.log_lines.specs.declared.places.TxnPlace.{TxnPlace}
use Rattle.log_lines.specs.declared.places.LogPlaces.{LogPlaces}

-- a transaction: its place in its session of the log, from 1, every transaction counted; the line
-- at which it begins; the line of each of its operations; the line that ends it
pub record TxnRow : Type 0 where
  pub place : ℕ
  pub begin : ℕ
  pub ops : List ℕ
  pub end : ℕ

-- the transactions of each session
abbrev pub Table : Type 0
Table = List (List TxnRow)

abbrev pub view_place : TxnPlace → TxnRow
view_place p = record { place = p.place; begin = p.begin; ops = p.ops.items; end = p.end }

abbrev pub rows_of : LogPlaces → Table
rows_of places = map (λ s. map view_place s.items) places.sessions.items

-- what stands nowhere
abbrev pub no_row : TxnRow
no_row = record { place = 0; begin = 0; ops = []; end = 0 }

-- that of node v, of a list from node 1 on
abbrev pub row_at : List TxnRow → ℕ → TxnRow
row_at rows zero = no_row
row_at rows (suc i) = slice_index_or rows i no_row

-- the line of operation i, from 0
abbrev pub line_at : TxnRow → ℕ → ℕ
line_at row i = slice_index_or row.ops i 0

-- ---- the log's own: places count from 1, and lines are those of its text
-- a transaction at this place, which begins at this line
abbrev pub own_row : ℕ → ℕ → Transaction → TxnRow
own_row place line t = record {
  place = place;
  begin = line;
  ops = range_with_len (line + 1) (length t.ops);
  end = line + 1 + length t.ops;
}

-- transactions, the first of which stands at this place and begins at this line
abbrev pub own_rows : ℕ → ℕ → List Transaction → List TxnRow
own_rows place line [] = []
own_rows place line (t ∷ ts) = own_row place line t ∷ own_rows (place + 1)
    (line + length (txn_lines t)) ts

-- sessions, the first of which begins at this line
abbrev pub own_places : ℕ → List ClientSession → Table
own_places line [] = []
own_places line (s ∷ ss) = own_rows 1 (line + 1) s.txns ∷ own_places
    (line + length (session_lines s)) ss

-- ---- the rows of sessions
-- the table has a row for each transaction, and each row a line for each operation
abbrev pub op_counts : Table → List (List ℕ)
op_counts table = map (λ rows. map (λ row. length row.ops) rows) table

abbrev pub op_counts_in : List ClientSession → List (List ℕ)
op_counts_in ss = map (λ s. map (λ t. length t.ops) s.txns) ss

abbrev pub Fits : List ClientSession → Table → Type 0
Fits ss table = op_counts table ≡ op_counts_in ss
