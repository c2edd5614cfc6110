-- The boxes of a graph: the transactions of a part, each with its name in the log, its operations with
-- their lines, and how it ended, if it is not committed.
use Rattle.std.specs.Prelude.{ℕ, ◌+◌, List, [], ◌∷◌, ◌++◌, codes, decimal}
use Rattle.session_log.specs.Text.{ClientSession, Transaction}
use Rattle.session_log.specs.declared.session.{Outcome.Outcome, Op.Op, Op.TheVariants.Read, Op.TheVariants.Write}
use Rattle.session_log.specs.declared.session.Outcome.TheVariants.{Commit, Abort, Unknown}
use Rattle.log_lines.specs.Rows.{Table}
use Rattle.level_refutations.specs.declared.evidence.{TxnAt.TxnAt, OpAt.OpAt}
use Rattle.level_refutations.specs.Edges.{op_of}
use Rattle.tell_evidence.specs.Rows.{line_of, key_at, wid_at}
use Rattle.tell_evidence.specs.Sentences.{name_text, in_line}
use Rattle.part_graphs.specs.declared.boxes.Look.{Look}
use Rattle.part_graphs.specs.declared.boxes.Look.TheVariants.{Plain, Points}

-- the line break of a label, a backslash and n, and what the operation does
abbrev pub op_word : Op → List ℕ
op_word (Read key wid) = codes "\\nr "
op_word (Write key wid) = codes "\\nw "

-- `\nr x 7 (line 12)`
unfoldable pub op_text : Table → List ClientSession → OpAt → Op → List ℕ
op_text table ss at op = op_word op ++ (key_at ss at ++ (codes " " ++ (decimal (wid_at ss at)
    ++ in_line (line_of table at))))

-- of operations, the first of which has index i
abbrev pub ops_text : Table → List ClientSession → TxnAt → ℕ → List Op → List ℕ
ops_text table ss at i [] = []
ops_text table ss at i (o ∷ ops) = op_text table ss (op_of at i) o
    ++ ops_text table ss at (i + 1) ops

abbrev pub outcome_text : Outcome → List ℕ
outcome_text Commit = []
outcome_text Abort = codes "\\naborted"
outcome_text Unknown = codes "\\nunknown"

-- a box, or one with an end for the snapshot and one for the commit
abbrev pub label_begin : Look → List ℕ
label_begin Plain = codes "\" [label=\""
label_begin Points = codes "\" [shape=record label=\"{<snapshot> snapshot|"

abbrev pub label_end : Look → List ℕ
label_end Plain = codes "\"];\n"
label_end Points = codes "|<commit> commit}\"];\n"

-- `"2.1" [label="2.1`
unfoldable pub box_begin : Table → List ClientSession → Look → TxnAt → List ℕ
box_begin table ss look at = codes "\"" ++ (name_text table ss at ++ (label_begin look
    ++ name_text table ss at))

unfoldable pub box_end : Look → Outcome → List ℕ
box_end look outcome = outcome_text outcome ++ label_end look

-- `"2.1" [label="2.1\nr x 7 (line 12)"];`
abbrev pub box_text : Table → List ClientSession → Look → TxnAt → Transaction → List ℕ
box_text table ss look at t = box_begin table ss look at ++ ops_text table ss at 0 t.ops
    ++ box_end look t.outcome

-- of transactions of session i, the first of which has index j
abbrev pub session_boxes : Table → List ClientSession → Look → ℕ → ℕ → List Transaction → List ℕ
session_boxes table ss look i j [] = []
session_boxes table ss look i j (t ∷ ts) =
    box_text table ss look (record { session = i; txn = j }) t
    ++ session_boxes table ss look i (j + 1) ts

-- of sessions, the first of which has index i
abbrev pub sessions_boxes : Table → List ClientSession → Look → ℕ → List ClientSession → List ℕ
sessions_boxes table ss look i [] = []
sessions_boxes table ss look i (s ∷ rest) = session_boxes table ss look i 0 s.txns
    ++ sessions_boxes table ss look (i + 1) rest

-- of each transaction
abbrev pub boxes_text : Table → List ClientSession → Look → List ℕ
boxes_text table ss look = sessions_boxes table ss look 0 ss
