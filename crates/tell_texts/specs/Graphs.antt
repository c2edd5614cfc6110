-- An explanation as a graph in the language of Graphviz: a box for each transaction that takes
-- part, with those of its operations that reasons name, in their lines, and an arrow for each edge,
-- labelled and coloured by its kind.
use Rattle.std.specs.Prelude.{ℕ, zero, suc, ◌==◌, ◌&&◌, ◌||◌, Bool, false, if◌then◌else◌, List, [], ◌∷◌, ◌++◌, length, codes, decimal, Option, None, Some}
use Rattle.std.specs.List.{filter, flat_map, list_any}
use Rattle.std.specs.Option.{option_map_or, option_or}
use Rattle.session_log.specs.Text.{ClientSession}
use Rattle.log_definitions.specs.Numbers.{log_of}
use Rattle.log_lines.specs.declared.placed.PlacedHistory.{PlacedHistory}
use Rattle.reasons.specs.declared.reason.Reason.{Reason}
use Rattle.reasons.specs.declared.reason.Reason.TheVariants as reason
use Rattle.tell_reasons.specs.Reasons.{named, listed_text, op_in_line, op_at}
use Rattle.tell_reasons.specs.Versions.{versions_text, left_at, read_at}
use Rattle.tell_reasons.specs.declared.why.Why.{Why}
use Rattle.tell_reasons.specs.declared.why.Why.TheVariants as why
use Rattle.tell_steps.specs.declared.item.Item.{Item}
use Rattle.tell_steps.specs.declared.item.Item.TheVariants.{Edge}
use Rattle.tell_texts.specs.declared.boxes.Look.{Look}
use Rattle.tell_texts.specs.declared.boxes.Look.TheVariants as look

-- the operations that a reason names, of the first node and of the second
abbrev pub reason_ops : Reason → Option ℕ × Option ℕ
reason_ops (reason.Read written read) = (Some written, Some read)
reason_ops (reason.Overwritten read overwrites) = (Some read, Some overwrites)
reason_ops (reason.Initial read begins) = (Some read, Some begins)
reason_ops _ = (None, None)

-- the operation by which a node has a version of the key: its last write of it, or else its first
-- read
abbrev pub held_at : List ClientSession → ℕ → ℕ → Option ℕ
held_at ss x v = option_or (left_at ss x v) (read_at ss x v)

-- by an order of two versions: what the first node has of the key, and what the second one leaves
abbrev pub version_ops : List ClientSession → ℕ → ℕ → ℕ → Option ℕ × Option ℕ
version_ops ss a b x = (held_at ss x a, left_at ss x b)

-- the operations that it names why one node stands before another
abbrev pub why_ops : List ClientSession → ℕ → ℕ → Why → Option ℕ × Option ℕ
why_ops ss a b (why.Known r) = reason_ops r
why_ops ss a b (why.Forced number o) = version_ops ss a b o.key
why_ops ss a b (why.Chosen o) = version_ops ss a b o.key

-- whether these are operation i of node v
abbrev pub is_op : ℕ → ℕ → ℕ → Option ℕ → Bool
is_op v i a o = (a == v) && option_map_or (λ k. k == i) o false

-- whether an item names operation i of node v
abbrev pub names : List ClientSession → ℕ → ℕ → Item → Bool
names ss v i (Edge a b w) = is_op v i a (why_ops ss a b w).0 || is_op v i b (why_ops ss a b w).1
names ss v i _ = false

-- whether an item is an edge of the node
abbrev pub is_edge_of : ℕ → Item → Bool
is_edge_of v (Edge a b w) = (a == v) || (b == v)
is_edge_of v _ = false

-- ---- boxes, and lines in their place
-- before an operation: in a box the line break of a label, a backslash and n
abbrev pub before_op : Look → List ℕ
before_op look.Box = codes "\\n"
before_op look.Line = codes "  "

-- an operation and its line, where one of these items names it
abbrev pub op_label : Look → PlacedHistory → List Item → ℕ → ℕ → List ℕ
op_label look log items v i = if list_any (names log.history.now v i) items
    then before_op look ++ listed_text (op_at log.history.now v i) ++ op_in_line log v i else []

-- the first so many operations of the node, those that these items name
abbrev pub op_labels : Look → PlacedHistory → List Item → ℕ → ℕ → List ℕ
op_labels look log items v zero = []
op_labels look log items v (suc n) = op_labels look log items v n ++ op_label look log items v n

-- with these labels: `"2.1" [label="2.1\nr x 7 (line 12)"];`, or `    2.1  r x 7 (line 12)`
abbrev pub box_with : Look → PlacedHistory → ℕ → List ℕ → List ℕ
box_with look.Box log v labels = codes "\"" ++ named log v ++ codes "\" [label=\"" ++ named log v
    ++ labels ++ codes "\"];\n"
box_with look.Line log v labels = codes "    " ++ named log v ++ labels ++ codes "\n"

-- a node takes part that has edges: with those of its operations that these name
abbrev pub box : Look → PlacedHistory → ℕ → List Item → List ℕ
box look log v [] = []
box look log v (e ∷ edges) = box_with look log v
    (op_labels look log (e ∷ edges) v (length ((log_of log.history.now).ops v)))

-- the boxes of the first so many nodes
abbrev pub boxes : Look → PlacedHistory → List Item → ℕ → List ℕ
boxes look log items zero = []
boxes look log items (suc n) = boxes look log items n
    ++ box look log (suc n) (filter (is_edge_of (suc n)) items)

-- a line for each transaction that takes part
abbrev pub table_text : PlacedHistory → List Item → List ℕ
table_text log items = codes "the reads and writes that matter:\n"
    ++ boxes look.Line log items (log_of log.history.now).nodes

-- ---- arrows
-- the kind of a reason, and the colour of an arrow for which there is such a one
abbrev pub reason_look : Reason → List ℕ
reason_look reason.Session = codes "session\" color=\"black"
reason_look (reason.Read written read) = codes "read\" color=\"blue"
reason_look (reason.Overwritten read overwrites) = codes "anti-dependency\" color=\"red"
reason_look (reason.Initial read begins) = codes "version order\" color=\"darkgreen"
reason_look reason.Moments = codes "moments\" color=\"purple"

abbrev pub why_look : PlacedHistory → Why → List ℕ
why_look log (why.Known r) = reason_look r
why_look log (why.Forced number o) = codes "forced [" ++ decimal number ++ codes "]\" color=\"orange"
why_look log (why.Chosen o) = versions_text log o ++ codes "\" color=\"gray"

-- of an edge: `"1.1" -> "2.1" [label="read" color="blue"];`
abbrev pub arrow : PlacedHistory → Item → List ℕ
arrow log (Edge a b w) = codes "\"" ++ named log a ++ codes "\" -> \"" ++ named log b
    ++ codes "\" [label=\"" ++ why_look log w ++ codes "\"];\n"
arrow log _ = []

-- two arrows between the same boxes are drawn as one
abbrev pub graph_text : PlacedHistory → List Item → List ℕ
graph_text log items =
    codes "strict digraph explanation {\nnode [shape=box];\n" ++ boxes look.Box log items
    (log_of log.history.now).nodes ++ flat_map (arrow log) items ++ codes "}\n"
