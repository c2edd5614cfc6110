-- Arrows of a graph, each with a label and a colour.
use Rattle.std.specs.Prelude.{ℕ, List, ◌++◌, codes}
use Rattle.session_log.specs.Text.{ClientSession}
use Rattle.log_lines.specs.Rows.{Table}
use Rattle.level_refutations.specs.declared.evidence.TxnAt.{TxnAt}
use Rattle.point_refutations.specs.declared.refutation.PointAt.{PointAt}
use Rattle.point_refutations.specs.declared.refutation.PointAt.TheVariants.{Snapshot, Commit}
use Rattle.tell_evidence.specs.Sentences.{name_text}

-- ---- labels, each with the colour behind it
abbrev pub session_look : List ℕ
session_look = codes "session\" color=\"black"

abbrev pub read_look : List ℕ
read_look = codes "read\" color=\"blue"

abbrev pub anti_dependency_look : List ℕ
anti_dependency_look = codes "anti-dependency\" color=\"red"

abbrev pub version_order_look : List ℕ
version_order_look = codes "version order\" color=\"darkgreen"

-- ---- arrows

-- `"1.1" -> "2.1" [label="read" color="blue"];`
unfoldable pub arrow : Table → List ClientSession → TxnAt → TxnAt → List ℕ → List ℕ
arrow table ss from to look = codes "\"" ++ (name_text table ss from ++ (codes "\" -> \""
    ++ (name_text table ss to ++ (codes "\" [label=\"" ++ (look ++ codes "\"];\n")))))

-- `"1.1":commit`
unfoldable pub end_text : Table → List ClientSession → PointAt → List ℕ
end_text table ss (Snapshot at) = codes "\"" ++ (name_text table ss at ++ codes "\":snapshot")
end_text table ss (Commit at) = codes "\"" ++ (name_text table ss at ++ codes "\":commit")

-- `"1.1":commit -> "2.1":snapshot`
abbrev pub ends_text : Table → List ClientSession → PointAt → PointAt → List ℕ
ends_text table ss from to = end_text table ss from ++ codes " -> " ++ end_text table ss to
