-- Where the operations of a log stand. Lines count from 1, and the first session of the log begins
-- at line n, behind the header.
use Rattle.std.specs.Prelude.{◌≡◌, ℕ, ◌+◌, ◌<◌, ◌≤◌, Bool, true, not, ◌==◌, List, [], ◌∷◌, ◌++◌, length, Some, slice_get}
use Rattle.std.specs.List.{flat_map, list_all, AllByRecursion}
use Rattle.session_log.specs.Text.{ClientSession, Transaction, line_text, txn_lines}
use Rattle.session_log.specs.declared.line.Line.{Line}
use Rattle.log_definitions.specs.WellFormed.{log_lines}
use Rattle.log_definitions.specs.Serial.{committed_in, ops_of, begun_of, ended_of}
use Rattle.session_history.specs.Tables.{name_in}
use Rattle.log_lines.specs.Rows.{TxnRow, Table, row_at}

-- the transaction t, at this place, from 1, of the session of this number, begins at this line
pub record BeginsAt (n : ℕ) (ss : List ClientSession) (session place : ℕ) (t : Transaction)
    (line : ℕ) : Type 0 where
  pub before : List ClientSession
  pub of : ClientSession
  pub after : List ClientSession
  pub earlier : List Transaction
  pub later : List Transaction
  pub sessions : ss ≡ before ++ of ∷ after
  pub number : of.number ≡ session
  pub txns : of.txns ≡ earlier ++ t ∷ later
  pub stands : place ≡ length earlier + 1
  pub begins : line ≡ n + length (log_lines before) + 1 + length (flat_map txn_lines earlier)

-- there is no LF among these bytes
abbrev pub has_no_lf : List ℕ → Bool
has_no_lf bytes = list_all (λ b. not (b == 10)) bytes

-- the bytes of a line with its LF
abbrev pub with_lf : List ℕ → List ℕ
with_lf bytes = bytes ++ 10 ∷ []

-- line k of the text is l: so many lines less one stand in front of it, each ended by its LF
pub record IsLineOf (text : List ℕ) (k : ℕ) (l : Line) : Type 0 where
  pub front : List (List ℕ)
  pub rest : List ℕ
  pub apart : AllByRecursion (λ bytes. has_no_lf bytes ≡ true) front
  pub one : has_no_lf (line_text l) ≡ true
  pub count : k ≡ length front + 1
  pub whole : text ≡ flat_map with_lf front ++ (line_text l ++ 10 ∷ rest)

-- the transaction t, at this place, from 1, of the session of this number, has this row in the
-- table, and the row a line for each of its operations
pub record StandsAt (ss : List ClientSession) (table : Table) (session place : ℕ)
    (t : Transaction) (row : TxnRow) : Type 0 where
  pub at : ℕ
  pub index : ℕ
  pub of : ClientSession
  pub rows : List TxnRow
  pub sessions : slice_get ss at ≡ Some of
  pub tables : slice_get table at ≡ Some rows
  pub number : of.number ≡ session
  pub stands : place ≡ index + 1
  pub txn : slice_get of.txns index ≡ Some t
  pub has : slice_get rows index ≡ Some row
  pub lines : length row.ops ≡ length t.ops

-- node v, a transaction of these operations and moments, has this row, in the place of its name
pub record NodeStandsAt (ss : List ClientSession) (table : Table) (v : ℕ)
    (row : TxnRow) : Type 0 where
  pub t : Transaction
  pub ops : t.ops ≡ ops_of ss v
  pub begun : t.begun ≡ begun_of ss v
  pub ended : t.ended ≡ ended_of ss v
  pub stands : StandsAt ss table (name_in ss v).0 (name_in ss v).1 t row

-- the rows of the nodes, in the order of the nodes from node 1 on
pub record AreNodeRows (ss : List ClientSession) (table : Table) (rows : List TxnRow)
    : Type 0 where
  pub count : length rows ≡ length (committed_in ss)
  pub each : (v : ℕ) → 0 < v → v ≤ length (committed_in ss)
      → NodeStandsAt ss table v (row_at rows v)
