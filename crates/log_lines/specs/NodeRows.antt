-- The rows of the nodes, in their order, from node 1 on.
use Rattle.std.specs.Prelude.{ℕ, Bool, if◌then◌else◌, List, [], ◌∷◌, ◌++◌}
use Rattle.session_log.specs.Text.{ClientSession, Transaction}
use Rattle.log_definitions.specs.Unknown.{is_committed, settle}
use Rattle.log_lines.specs.Rows.{TxnRow, Table}

-- this row, where the transaction is a node
abbrev pub node_row : {X : Type 0} → Bool → Transaction → X → List X
node_row is_taken t row = if is_committed (settle is_taken t) then row ∷ [] else []

-- those of a session
abbrev pub node_rows : {X : Type 0} → Bool → List Transaction → List X → List X
node_rows is_taken [] rows = []
node_rows is_taken (t ∷ ts) [] = []
node_rows is_taken (t ∷ ts) (row ∷ rows) = node_row is_taken t row ++ node_rows is_taken ts rows

-- those of all sessions, where the chosen ones are taken
abbrev pub node_table : (ℕ → Bool) → List ClientSession → Table → List TxnRow
node_table chosen [] table = []
node_table chosen (s ∷ ss) [] = []
node_table chosen (s ∷ ss) (rows ∷ table) = node_rows (chosen s.number) s.txns rows ++ node_table
    chosen ss table
