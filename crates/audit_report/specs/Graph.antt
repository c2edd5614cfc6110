-- The report as a graph: the verdict and the first part in comments, and the graph of that part; without
-- boxes, where no part is told.
use Rattle.std.specs.Prelude.{ℕ, List, [], ◌∷◌, ◌++◌, codes, String}
use Rattle.std.specs.List.{flat_map}
use Rattle.std.specs.declared.alloc.Global.{Global}
use Rattle.part_graphs.specs.Graphs as graphs
use Rattle.audit_report.specs.Report.{first_line, heading_of, listed, line_of}
use Rattle.audit_report.specs.declared.told.ToldPart.{ToldPart}
use Rattle.audit_report.specs.declared.told.Answer.{Answer}
use Rattle.audit_report.specs.declared.told.Answer.TheVariants as answer
use Rattle.audit_report.specs.declared.told.Told.{Told}

abbrev pub empty_graph : List ℕ
empty_graph = graphs.empty_graph

-- a line as a comment
abbrev pub comment : String Global → List ℕ
comment line = codes "// " ++ line_of line

-- how many transactions a part has, what was found of it, which they are, and its graph
abbrev pub part_graph : ToldPart → List ℕ
part_graph p = codes "// " ++ heading_of p ++ codes "// " ++ listed p.txns.items ++ p.graph.items

abbrev pub first_graph : List ToldPart → List ℕ
first_graph [] = empty_graph
first_graph (p ∷ ps) = part_graph p

abbrev pub behind_text : Answer → List ℕ
behind_text (answer.NotSerializable parts) = first_graph parts.items
behind_text (answer.Undecided reason advice) = flat_map comment advice.items ++ empty_graph
behind_text _ = empty_graph

abbrev pub graph_text : Told → List ℕ
graph_text told = codes "// " ++ first_line told.level told.answer ++ behind_text told.answer
