-- Graphs in the language of Graphviz. What stands in labels has no quotation mark, no bracket and no
-- backslash: names and keys have none, and a line break is a backslash and n.
use Rattle.std.specs.Prelude.{ℕ, ◌==◌, if◌then◌else◌, List, [], ◌∷◌, ◌++◌, codes}
use Rattle.std.specs.List.{flat_map}
use Rattle.session_log.specs.Text.{ClientSession}
use Rattle.log_lines.specs.Rows.{Table}
use Rattle.level_refutations.specs.declared.evidence.{Overlooked.Overlooked, Edge.Edge, Evidence.Evidence}
use Rattle.level_refutations.specs.declared.evidence.Evidence.TheVariants as evidence
use Rattle.point_refutations.specs.declared.refutation.Refutation.{Refutation}
use Rattle.tell_evidence.specs.Evidence.{evidence_text}
use Rattle.part_graphs.specs.declared.boxes.Look.TheVariants.{Plain, Points}
use Rattle.part_graphs.specs.Boxes.{boxes_text}
use Rattle.part_graphs.specs.Points.{refutation_arrows}
use Rattle.part_graphs.specs.Hops.{circle_arrows, initial_arrows}

-- two arrows between the same boxes stay two
abbrev pub begin : List ℕ
begin = codes "digraph explanation {\nnode [shape=box];\n"

-- without boxes
abbrev pub empty_graph : List ℕ
empty_graph = codes "strict digraph explanation {\nnode [shape=box];\n}\n"

-- boxes without arrows, behind a comment
abbrev pub search_graph : Table → List ClientSession → List ℕ → List ℕ
search_graph table ss words = codes "// " ++ words ++ begin ++ boxes_text table ss Plain
    ++ codes "}\n"

-- each transaction with its snapshot and its commit, and what leads from one such point to another
abbrev pub refutation_graph : Table → List ClientSession → Refutation → List ℕ
refutation_graph table ss r = begin ++ boxes_text table ss Points ++ refutation_arrows table ss r
    ++ codes "}\n"

-- in a label a line break is a backslash and n
abbrev pub label_byte : ℕ → List ℕ
label_byte b = if b == 10 then 92 ∷ 110 ∷ [] else b ∷ []

-- lines in one box
abbrev pub lines_graph : List ℕ → List ℕ
lines_graph lines = codes "strict digraph explanation {\nnode [shape=box];\n\"anomaly\" [label=\""
    ++ flat_map label_byte lines ++ codes "\"];\n}\n"

abbrev pub circle_graph : Table → List ClientSession → List Edge → List ℕ
circle_graph table ss edges = begin ++ boxes_text table ss Plain ++ circle_arrows table ss edges
    ++ codes "}\n"

abbrev pub initial_graph : Table → List ClientSession → Overlooked → List ℕ
initial_graph table ss o = begin ++ boxes_text table ss Plain ++ initial_arrows table ss o
    ++ codes "}\n"

-- a read that no level allows in its lines; a circle, and a read of the initial value, as arrows
abbrev pub evidence_graph : Table → List ClientSession → Evidence → List ℕ
evidence_graph table ss (evidence.Fault fault) = lines_graph (evidence_text table ss
    (evidence.Fault fault))
evidence_graph table ss (evidence.Circle edges) = circle_graph table ss edges.items
evidence_graph table ss (evidence.Initial o) = initial_graph table ss o
