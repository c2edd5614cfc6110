-- Why there is no order, written behind what `check` says.
use Rattle.std.specs.Prelude.{◌≡◌, ℕ, ◌+◌, ◌==◌, Bool, true, false, if◌then◌else◌, List, [], ◌∷◌, ◌++◌, codes, take, drop, Option, None, Some}
use Rattle.std.specs.List.{flat_map, prefix_len}
use Rattle.session_log.specs.Text.{ClientSession}
use Rattle.log_lines.specs.Rows.{Table, rows_of}
use Rattle.deciding.specs.declared.decision.Decision.{Decision}
use Rattle.deciding.specs.declared.decision.Decision.TheVariants as decision
use Rattle.reason_laws.specs.declared.crossing.Crossing.{Crossing}
use Rattle.reasons.specs.Crossed.{IsCrossedAnswer}
use Rattle.reasons.specs.Runs.{without_runs}
use Rattle.tell_reasons.specs.Anomalies.{anomaly_text}
use Rattle.tell_reasons.specs.Crossed.{crossing_text}
use Rattle.tell_steps.specs.Lines.{HasEnds}
use Rattle.tell_steps.specs.Rounds.{IsDeadTold}
use Rattle.tell_steps.specs.Steps.{IsLineTold}
use Rattle.tell_steps.specs.declared.item.Item.{Item}
use Rattle.tell_steps.specs.declared.item.Item.TheVariants.{Step, Edge}
use Rattle.serializability.specs.Polygraph.{Choice}
use Rattle.cube_laws.specs.declared.tree.TreeNode.{TreeNode}
use Rattle.tell_trees.specs.Trees.{IsTreeTold}
use Rattle.tell_texts.specs.Texts.{items_text}
use Rattle.tell_texts.specs.Graphs.{graph_text, table_text}
use Rattle.tell_decision.specs.Names.{name_of, name_behind}
use Rattle.tell_decision.specs.Short.{short_text}
use Rattle.tell_decision.specs.declared.written.Told.{Told}
use Rattle.tell_decision.specs.declared.written.Told.TheVariants.{Cycle, Dead, Tree}
use Rattle.call_options.specs.declared.format.Format.{Format}
use Rattle.call_options.specs.declared.format.Format.TheVariants.{Text, Dot}
use Rattle.log_lines.specs.declared.placed.PlacedHistory.{PlacedHistory}

-- a name, where there is one, as a line
abbrev pub known_as : List ℕ → List ℕ
known_as [] = []
known_as (b ∷ bs) = codes "known as: " ++ (b ∷ bs) ++ codes "\n"

-- of a step: itself, or an edge of its walk
abbrev pub is_of_step : Item → Bool
is_of_step (Step number o u v) = true
is_of_step (Edge a b w) = true
is_of_step _ = false

-- how many items are of steps, before all else
abbrev pub of_steps : List Item → ℕ
of_steps items = prefix_len is_of_step items

abbrev pub headed_text : PlacedHistory → List Item → List ℕ
headed_text log items = codes "these orders of versions are forced:\n" ++ items_text log 0 false items

abbrev pub forced_text : PlacedHistory → List Item → List ℕ
forced_text log [] = []
forced_text log (i ∷ items) = headed_text log (i ∷ items)

-- what closes, and its name; and last the steps that it rests on
abbrev pub steps_last : PlacedHistory → List ℕ → List Item → List ℕ
steps_last log name items = items_text log 0 false (drop (of_steps items) items) ++ known_as name
    ++ forced_text log (take (of_steps items) items)

-- the edges of the cycle behind steps
abbrev pub edges_behind : List Item → List Item
edges_behind items = drop (of_steps items + 1) items

-- reads that rule out every order; where none were found, before a tree what the transactions did
abbrev pub front_text : PlacedHistory → Told → List Item → List ℕ
front_text log (Dead (Some c)) items = crossing_text log c
front_text log (Tree (Some c)) items = crossing_text log c
front_text log (Tree None) items = table_text log items
front_text log _ items = []

-- such reads; the cycle in a sentence and in lines, and its name, or the tree; and the steps before it
abbrev pub text_of : PlacedHistory → Told → List Item → List ℕ
text_of log Cycle items = short_text log items ++ items_text log 0 false items
    ++ known_as (name_of log.history.now items)
text_of log (Dead found) items = front_text log (Dead found) items
    ++ short_text log (edges_behind items) ++ steps_last log (name_behind log.history.now items) items
text_of log (Tree found) items = front_text log (Tree found) items ++ steps_last log [] items

-- as lines of text; or the items as a graph
abbrev pub told_text : Format → PlacedHistory → Told → List Item → List ℕ
told_text Text log told items = text_of log told items
told_text Dot log told items = graph_text log items

-- in a label a line break is a backslash and n
abbrev pub label_byte : ℕ → List ℕ
label_byte b = if b == 10 then 92 ∷ 110 ∷ [] else b ∷ []

-- lines as they are, or in the one box of a graph
abbrev pub lines_text : Format → List ℕ → List ℕ
lines_text Text lines = lines
lines_text Dot lines =
    codes "strict digraph explanation {\nnode [shape=box];\n\"anomaly\" [label=\""
    ++ flat_map label_byte lines ++ codes "\"];\n}\n"

-- where there is nothing to explain: no line, or a graph without boxes
abbrev pub empty_text : Format → List ℕ
empty_text Text = []
empty_text Dot = codes "strict digraph explanation {\nnode [shape=box];\n}\n"

-- the edges of a cycle, each with its reason, with each run of edges of one session as one: what is
-- told leads from the cycle's first node back to it
pub record IsRoundTold (ss : List ClientSession) (line : List ℕ) (items : List Item) : Type 0 where
  pub start : ℕ
  pub whole : HasEnds start start line
  pub short : HasEnds start start (without_runs ss line)
  pub told : IsLineTold ss [] [] (without_runs ss line) items

-- a cycle of known edges, and its name
pub record IsCycleWritten (line : List ℕ) (format : Format) (log : PlacedHistory)
    (text : List ℕ) : Type 0 where
  pub items : List Item
  pub told : IsRoundTold log.history.now line items
  pub written : text ≡ told_text format log Cycle items

-- reads that rule out every order, where there are such and they are sought; and what items tell:
-- the forced steps that the cycle of a dead ledger needs, the cycle, and its name; or a refutation
-- tree and the steps that it needs
pub record IsRefutationWritten (kind : Option Crossing → Told) (Tells : List Item → Type 0)
    (format : Format) (log : PlacedHistory) (text : List ℕ) : Type 0 where
  pub found : Option Crossing
  pub crossed : IsCrossedAnswer log.history.now found
  pub items : List Item
  pub told : Tells items
  pub written : text ≡ told_text format log (kind found) items

abbrev pub IsDeadWritten : Format → PlacedHistory → List ℕ → Type 0
IsDeadWritten format log text =
    IsRefutationWritten Dead (IsDeadTold log.history.now) format log text

abbrev pub IsTreeWritten : List Choice → List TreeNode → Format → PlacedHistory → List ℕ → Type 0
IsTreeWritten choices nodes format log text =
    IsRefutationWritten Tree (IsTreeTold log.history.now choices nodes) format log text

-- by what is decided; of an order and of a spent budget there is nothing to explain
abbrev pub IsWhy : Format → PlacedHistory → Decision → List ℕ → Type 0
IsWhy format log (decision.Serial order) text = text ≡ empty_text format
IsWhy format log (decision.Anomalous a) text = text ≡ lines_text format (anomaly_text log a)
IsWhy format log (decision.Cyclic line) text = IsCycleWritten line.items format log text
IsWhy format log (decision.Dead ledger) text = IsDeadWritten format log text
IsWhy format log (decision.Refuted left tree) text = IsTreeWritten left.poly.choices tree format log text
IsWhy format log (decision.Spent closed) text = text ≡ empty_text format

-- why, in the places and lines of this table
pub record IsExplained (format : Format) (table : Table) (ss : List ClientSession) (d : Decision)
    (text : List ℕ) : Type 0 where
  pub log : PlacedHistory
  pub sessions : log.history.now ≡ ss
  pub places : rows_of log.places.now ≡ table
  pub why : IsWhy format log d text
