-- Sentences of what evidence names. Transactions have their names in the log, as `2.7`: the number of
-- the session, and the place there. Operations stand with their lines.
use Rattle.std.specs.Prelude.{ℕ, ◌==◌, Bool, false, if◌then◌else◌, List, [], ◌∷◌, ◌++◌, codes, decimal}
use Rattle.session_log.specs.Text.{ClientSession}
use Rattle.log_lines.specs.Rows.{Table}
use Rattle.level_refutations.specs.declared.evidence.{TxnAt.TxnAt, OpAt.OpAt, Hop.Hop, Step.Step}
use Rattle.level_refutations.specs.declared.evidence.Step.TheVariants as step
use Rattle.level_refutations.specs.Edges.{op_of}
use Rattle.tell_evidence.specs.Rows.{number_at, row_of, line_of, key_at, wid_at}

-- ---- places

-- `2.7`
unfoldable pub name_text : Table → List ClientSession → TxnAt → List ℕ
name_text table ss at = decimal (number_at ss at.session) ++ codes "."
    ++ decimal (row_of table at).place

-- ` (line 90)`
unfoldable pub in_line : ℕ → List ℕ
in_line line = codes " (line " ++ decimal line ++ codes ")"

-- `the x of 1.3`
unfoldable pub version_text : Table → List ClientSession → OpAt → List ℕ
version_text table ss write = codes "the " ++ key_at ss write ++ codes " of "
    ++ name_text table ss write.txn

-- ---- reads and writes

-- with these words ` reads `: `2.7 reads x 4 (line 90)`
unfoldable pub does_text : Table → List ClientSession → List ℕ → OpAt → List ℕ
does_text table ss words at = name_text table ss at.txn ++ words ++ key_at ss at ++ codes " "
    ++ decimal (wid_at ss at) ++ in_line (line_of table at)

-- `, which 1.2 wrote (line 12)`
unfoldable pub wrote_text : Table → List ClientSession → OpAt → List ℕ
wrote_text table ss write = codes ", which " ++ name_text table ss write.txn ++ codes " wrote"
    ++ in_line (line_of table write)

-- ---- hops

-- `1.3 comes after 1.2 in session 1`, or `2.7 reads x 4 (line 90), which 1.2 wrote (line 12)`
unfoldable pub step_text : Table → List ClientSession → TxnAt → TxnAt → Step → List ℕ
step_text table ss from to step.Session = name_text table ss to ++ codes " comes after "
    ++ name_text table ss from ++ codes " in session " ++ decimal (number_at ss from.session)
step_text table ss from to (step.Read write read) =
    does_text table ss (codes " reads ") (op_of to read) ++ wrote_text table ss (op_of from write)

-- a hop on a line
abbrev pub hop_line : Table → List ClientSession → Hop → List ℕ
hop_line table ss hop = step_text table ss hop.from hop.to hop.step ++ codes "\n"

-- ---- paths

abbrev pub hop_lines : Table → List ClientSession → List Hop → List ℕ
hop_lines table ss [] = []
hop_lines table ss (hop ∷ hops) = hop_line table ss hop ++ hop_lines table ss hops

-- the hop is a read of operation i of its first transaction
abbrev pub is_of_write : ℕ → Step → Bool
is_of_write i step.Session = false
is_of_write i (step.Read write read) = write == i

-- the first of these hops is a read of the very write
abbrev pub reads_it : OpAt → List Hop → Bool
reads_it write [] = false
reads_it write (hop ∷ hops) = is_of_write write.op hop.step

-- that a write is there, where its path does not tell it: `1.3 wrote x 7 (line 19)`
unfoldable pub write_line : Table → List ClientSession → OpAt → List Hop → List ℕ
write_line table ss write path = if reads_it write path then []
    else does_text table ss (codes " wrote ") write ++ codes "\n"

-- a write, and each hop of the path from it to the transaction that overlooks it
abbrev pub path_lines : Table → List ClientSession → OpAt → List Hop → List ℕ
path_lines table ss write path = write_line table ss write path ++ hop_lines table ss path

-- how a transaction stands to the first one of a path to it: it sees it by a read, or comes after it
abbrev pub stands_by : Step → List ℕ
stands_by step.Session = codes " comes after "
stands_by (step.Read write read) = codes " sees "

abbrev pub stands_behind : List Hop → List ℕ
stands_behind (hop ∷ []) = stands_by hop.step
stands_behind _ = codes " comes after "
