-- The rows of a part in the table of the whole log: of the flagged transactions, and of their
-- operations those that stay.
use Rattle.std.specs.Prelude.{◌≡◌, ℕ, ◌+◌, ◌==◌, Bool, true, false, if◌then◌else◌, List, [], ◌∷◌, ◌++◌, length, drop, Some, slice_get}
use Rattle.std.specs.List.{AllByRecursion}
use Rattle.session_log.specs.Text.{ClientSession, Transaction, IsLegal, log_text, op_line, end_line, txn_lines, session_lines}
use Rattle.session_log.specs.Version.{first_line, version_of}
use Rattle.session_log.specs.declared.line.Line.TheVariants.{Begin}
use Rattle.session_log.specs.declared.session.Op.{Op}
use Rattle.session_log.specs.declared.session.Op.TheVariants.{Read, Write}
use Rattle.part_laws.specs.Chosen.{stays, thin, thin_txn, flagged}
use Rattle.log_parts.specs.Picked.{flag_of, picked, with_txns}
use Rattle.log_lines.specs.Rows.{TxnRow, Table, Fits, line_at}
use Rattle.log_lines.specs.Places.{BeginsAt, IsLineOf, StandsAt}

-- the next operation that stays reads this identity
abbrev pub reads_next : ℕ → List Op → Bool
reads_next wid [] = false
reads_next wid (Read k w ∷ kept) = wid == w
reads_next wid (Write k w ∷ kept) = false

-- this operation is the next of these, which stay
abbrev pub is_kept : Op → List Op → Bool
is_kept (Read key wid) kept = reads_next wid kept
is_kept (Write key wid) kept = true

-- the lines of the operations that stay, of which the first stands in this line
abbrev pub staying : (ℕ → Bool) → ℕ → List Op → List ℕ
staying known line [] = []
staying known line (o ∷ os) = if stays known o then line ∷ staying known (line + 1)
    os else staying known (line + 1) os

-- a transaction at this place, which begins at this line
abbrev pub part_row : (ℕ → Bool) → ℕ → ℕ → Transaction → TxnRow
part_row known place line t = record {
  place = place;
  begin = line;
  ops = staying known (line + 1) t.ops;
  end = line + 1 + length t.ops;
}

-- of transactions, the first of which stands at this place and begins at this line, the flagged
-- ones
abbrev pub flagged_rows : (ℕ → Bool) → (ℕ → Bool) → ℕ → ℕ → List Transaction → List TxnRow
flagged_rows known flags place line [] = []
flagged_rows known flags place line (t ∷ ts) = if flags place then
    part_row known place line t ∷ flagged_rows known flags (place + 1)
    (line + length (txn_lines t)) ts else flagged_rows known flags (place + 1)
    (line + length (txn_lines t)) ts

-- a session of these rows, where there are any
abbrev pub with_rows : List TxnRow → Table
with_rows [] = []
with_rows (row ∷ rows) = (row ∷ rows) ∷ []

-- of sessions, the first of which begins at this line
abbrev pub part_table : (ℕ → Bool) → List (List Bool) → ℕ → List ClientSession → Table
part_table known flags line [] = []
part_table known [] line (s ∷ ss) = []
part_table known (f ∷ flags) line (s ∷ ss) =
    with_rows (flagged_rows known (flag_of f) 1 (line + 1) s.txns) ++ part_table known flags
    (line + length (session_lines s)) ss

-- the transactions of the first session
abbrev pub first_txns : List ClientSession → List Transaction
first_txns [] = []
first_txns (s ∷ ss) = s.txns

-- ---- steps
-- a row was added, where the transaction is flagged and what is left of it comes next
pub record AddsRow (known : ℕ → Bool) (flag : Bool) (t : Transaction) (place line : ℕ)
    (left : List Transaction) (old new : List TxnRow) : Type 0 where
  pub adds : (ts : List Transaction)
      → drop (length old) left ≡ (if flag then thin_txn known t ∷ ts else ts)
      → (new ≡ old ++ (if flag then part_row known place line t ∷ [] else []))
      × (drop (length new) left ≡ ts)

-- the rows of a session were added, where what is left of it comes next
pub record AddsRows (known flags : ℕ → Bool) (s : ClientSession) (line : ℕ)
    (part : List ClientSession) (old new : Table) : Type 0 where
  pub adds : (rest : List ClientSession)
      → drop (length old) part ≡ thin known (with_txns s.number (flagged flags 1 s.txns)) ++ rest
      → (new ≡ old ++ with_rows (flagged_rows known flags 1 (line + 1) s.txns))
      × (drop (length new) part ≡ rest)

-- ---- laws
abbrev pub PartFits : Type 0
PartFits = (known : ℕ → Bool) (flags : List (List Bool)) (n : ℕ) (ss : List ClientSession)
    → Fits (thin known (picked flags ss)) (part_table known flags n ss)

-- the text has this transaction in these lines
pub record IsInText (text : List ℕ) (t : Transaction) (row : TxnRow) : Type 0 where
  pub begin : IsLineOf text row.begin (Begin t.begun)
  pub operations : (i : ℕ) (op : Op) → slice_get t.ops i ≡ Some op
      → IsLineOf text (line_at row i) (op_line op)
  pub end : IsLineOf text row.end (end_line t.outcome t.ended)

-- Of legal sessions, whose log the text is: a transaction of the part has its lines there, and its
-- name is that of the transaction of the whole that begins there.
abbrev pub PartIsInText : Type 0
PartIsInText =
    (text : List ℕ) (ss : List ClientSession) → AllByRecursion IsLegal ss
    → text ≡ log_text (version_of text) ss
    → (known : ℕ → Bool) (flags : List (List Bool)) (session place : ℕ) (t : Transaction)
    (row : TxnRow) → StandsAt (thin known (picked flags ss))
    (part_table known flags (first_line (version_of text)) ss) session place t row
    → IsInText text t row × ((whole : Transaction)
    × BeginsAt (first_line (version_of text)) ss session row.place whole row.begin)
