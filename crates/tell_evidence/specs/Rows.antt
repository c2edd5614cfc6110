-- What stands at a place of a log, and where: what stands nowhere has number 0, line 0 and no key.
use Rattle.std.specs.Prelude.{ℕ, List, [], slice_get, Option, option_and_then, unwrap_or}
use Rattle.std.specs.Option.{option_map_or}
use Rattle.session_log.specs.Text.{ClientSession, key_of}
use Rattle.session_log.specs.declared.session.Op.{Op}
use Rattle.session_log.specs.declared.session.Op.TheVariants.{Read, Write}
use Rattle.session_log.specs.declared.session.Outcome.{Outcome}
use Rattle.session_log.specs.declared.session.Outcome.TheVariants.{Abort}
use Rattle.log_lines.specs.Rows.{TxnRow, Table, no_row, line_at}
use Rattle.level_refutations.specs.declared.evidence.{TxnAt.TxnAt, OpAt.OpAt}
use Rattle.level_refutations.specs.Places.{any_at}

-- the number of the session with this index
abbrev pub number_at : List ClientSession → ℕ → ℕ
number_at ss i = option_map_or (λ s. s.number) (slice_get ss i) 0

-- where the transaction stands
abbrev pub row_at : Table → TxnAt → Option TxnRow
row_at table at = option_and_then (λ rows. slice_get rows at.txn) (slice_get table at.session)

abbrev pub row_of : Table → TxnAt → TxnRow
row_of table at = unwrap_or (row_at table at) no_row

-- how it ended
abbrev pub outcome_at : List ClientSession → TxnAt → Outcome
outcome_at ss at = option_map_or (λ s. option_map_or (λ t. t.outcome) (slice_get s.txns at.txn) Abort)
    (slice_get ss at.session) Abort

-- the line at which it begins
abbrev pub begin_of : Table → TxnAt → ℕ
begin_of table at = (row_of table at).begin

-- the line that ends it
abbrev pub end_of : Table → TxnAt → ℕ
end_of table at = (row_of table at).end

-- the line of the operation
abbrev pub line_of : Table → OpAt → ℕ
line_of table at = line_at (row_of table at.txn) at.op

-- its key, and the identity that it names
abbrev pub key_at : List ClientSession → OpAt → List ℕ
key_at ss at = option_map_or key_of (any_at ss at) []

abbrev pub wid_of : Op → ℕ
wid_of (Read key wid) = wid
wid_of (Write key wid) = wid

abbrev pub wid_at : List ClientSession → OpAt → ℕ
wid_at ss at = option_map_or wid_of (any_at ss at) 0
