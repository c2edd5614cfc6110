-- Why a part has no order of a level, as a graph, in the names and the lines of the whole log. What is
-- free of the text is free of the graph: which refutation, evidence or decision it shows.
use Rattle.std.specs.Prelude.{◌≡◌, ◌⊎◌, ◌<◌, ℕ, Bool, true, false, List, [], length, map, codes}
use Rattle.session_log.specs.Text.{ClientSession, view}
use Rattle.log_definitions.specs.WellFormed.{log_lines}
use Rattle.call_options.specs.declared.format.Format.{Format}
use Rattle.call_options.specs.declared.format.Format.TheVariants.{Text, Dot}
use Rattle.level_laws.specs.declared.level.Level.{Level as BelowLevel}
use Rattle.level_laws.specs.declared.level.Level.TheVariants.{Causal}
use Rattle.level_refutations.specs.declared.evidence.Evidence.{Evidence}
use Rattle.level_refutations.specs.Refuted.{is_refuted}
use Rattle.point_refutations.specs.declared.refutation.Refutation.{Refutation}
use Rattle.point_refutations.specs.Refuted as by_points
use Rattle.part_graphs.specs.Graphs.{empty_graph, search_graph, evidence_graph, refutation_graph}
use Rattle.judging.specs.declared.judged.Finding.{Finding}
use Rattle.judging.specs.declared.judged.Finding.TheVariants as finding
use Rattle.judging.specs.declared.judged.RefutedPart.{RefutedPart}
use Rattle.judging.specs.declared.level.Level.{Level}
use Rattle.judging.specs.declared.level.Level.TheVariants as level
use Rattle.judging.specs.declared.means.JudgeMeans.{JudgeMeans}
use Rattle.part_reasons.specs.declared.explaining.TheConstants.{MANY_LINES}
use Rattle.part_reasons.specs.Why.{table_of, search_line, IsOwn, IsReasonTold}
use Rattle.part_reasons.specs.Weaker.{IsWeakerDrawn}

-- ---- no serial order

-- the log has more lines than any log
abbrev pub IsTooLong : List ClientSession → Type 0
IsTooLong known = MANY_LINES < length (log_lines known)

-- that a search shows it, and the part's boxes; no box exactly of a log that is too long
abbrev pub IsSearchDrawn : List ℕ → ℕ → List ClientSession → RefutedPart → List ℕ → Type 0
IsSearchDrawn words n known p graph = ((graph ≡ empty_graph) × IsTooLong known)
    ⊎ (graph ≡ search_graph (table_of n known p.flags) (map view p.part.items) words)

-- by what was found
abbrev pub IsOrderDrawn : Finding → ℕ → ℕ → List ClientSession → RefutedPart → List ℕ → Type 0
IsOrderDrawn finding.Formula budget n known p graph = IsSearchDrawn search_line n known p graph
IsOrderDrawn finding.Overlooked budget n known p graph = IsSearchDrawn search_line n known p graph
IsOrderDrawn _ budget n known p graph = IsReasonTold Dot budget n known p graph

-- ---- no order of a level below prefix

-- evidence that is right of the part
pub record IsEvidenceDrawn
    (below : BelowLevel)
    (n : ℕ)
    (known : List ClientSession)
    (p : RefutedPart)
    (graph : List ℕ) : Type 0 where
  pub evidence : Evidence
  pub right : is_refuted below (map view p.part.items) evidence ≡ true
  pub graph_is : graph ≡ evidence_graph (table_of n known p.flags) (map view p.part.items) evidence

-- such evidence, or that a search shows it
abbrev pub IsBelowDrawn : BelowLevel → ℕ → List ClientSession → RefutedPart → List ℕ → Type 0
IsBelowDrawn below n known p graph = IsEvidenceDrawn below n known p graph
    ⊎ IsSearchDrawn search_line n known p graph

-- ---- no order of snapshots and commits

-- a refutation by points that is right of the part, where keys are locked or not
pub record IsRefutationDrawn
    (locked : Bool)
    (n : ℕ)
    (known : List ClientSession)
    (p : RefutedPart)
    (graph : List ℕ) : Type 0 where
  pub refutation : Refutation
  pub right : by_points.is_refuted locked (map view p.part.items) refutation ≡ true
  pub graph_is : graph ≡ refutation_graph (table_of n known p.flags) (map view p.part.items) refutation

-- what is said where a search alone shows it
abbrev pub no_points_line : List ℕ
no_points_line = codes "no order of their snapshots and commits is left: a search shows it\n"

-- the anomaly that was found is the part's own
pub record IsAnomalyDrawn
    (budget n : ℕ)
    (known : List ClientSession)
    (p : RefutedPart)
    (graph : List ℕ) : Type 0 where
  pub own : IsOwn p
  pub graph_is : IsReasonTold Dot budget n known p graph

-- Of an anomaly; of a refutation by points, of evidence that there is no causal order, or that a search
-- shows it.
pub data IsPointsDrawn
    (locked : Bool)
    (budget n : ℕ)
    (known : List ClientSession)
    (p : RefutedPart)
    (graph : List ℕ) : Type 0 where
  of_anomaly : IsAnomalyDrawn budget n known p graph → IsPointsDrawn locked budget n known p graph
  of_points : IsRefutationDrawn locked n known p graph → IsPointsDrawn locked budget n known p graph
  of_weaker : IsEvidenceDrawn Causal n known p graph → IsPointsDrawn locked budget n known p graph
  of_search : IsSearchDrawn no_points_line n known p graph
      → IsPointsDrawn locked budget n known p graph

-- ---- by the level

abbrev pub IsDrawnAt : Level → ℕ → ℕ → List ClientSession → RefutedPart → List ℕ → Type 0
IsDrawnAt level.Serializable budget n known p graph = IsOrderDrawn p.finding budget n known p graph
IsDrawnAt level.Snapshot budget n known p graph = IsPointsDrawn true budget n known p graph
IsDrawnAt level.Prefix budget n known p graph = IsPointsDrawn false budget n known p graph
IsDrawnAt (level.Below below) budget n known p graph = IsBelowDrawn below n known p graph

-- by the level that is judged, or why a weaker one is broken too
abbrev pub IsDrawn : JudgeMeans → ℕ → List ClientSession → RefutedPart → List ℕ → Type 0
IsDrawn m n known p graph = IsDrawnAt m.level m.deciding.budget n known p graph
    ⊎ IsWeakerDrawn m.level n known p graph

-- the graph, where one is asked for
abbrev pub IsDrawnWhere : Format → JudgeMeans → ℕ → List ClientSession → RefutedPart → List ℕ
    → Type 0
IsDrawnWhere Text m n known p graph = graph ≡ []
IsDrawnWhere Dot m n known p graph = IsDrawn m n known p graph
