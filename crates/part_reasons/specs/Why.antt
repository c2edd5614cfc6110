-- Why a part has no serial order, in the names and the lines of the whole log.
use Rattle.std.specs.Prelude.{◌≡◌, ◌⊎◌, ◌<◌, ◌==◌, ◌-◌, ℕ, Bool, true, false, List, [], ◌++◌, length, map, if◌then◌else◌, codes, Option, None, Some, IfSome, Vec, String, slice_get}
use Rattle.std.specs.List.{Contains}
use Rattle.std.specs.Option.{option_map, option_map_or}
use Rattle.std.specs.String.{string_bytes}
use Rattle.std.specs.declared.alloc.Global.{Global}
use Rattle.session_log.specs.Text.{ClientSession, view}
use Rattle.session_log.specs.Lines.{lines}
use Rattle.session_log.specs.Version.{first_line}
use Rattle.session_log.specs.declared.fault.LogFault.{LogFault}
use Rattle.session_log.specs.declared.version.Version.TheVariants.{One}
use Rattle.serializability.specs.declared.anomaly.Anomaly.{Anomaly}
use Rattle.serializability.specs.declared.anomaly.Anomaly.TheVariants as anomaly
use Rattle.serializability.specs.declared.anomaly.ReadAnomaly.{ReadAnomaly}
use Rattle.serializability.specs.Anomalies.{anomaly_of, anomaly_number}
use Rattle.log_definitions.specs.Numbers.{log_of}
use Rattle.serializability.specs.declared.anomaly.ReadAnomaly.TheVariants as read
use Rattle.log_definitions.specs.WellFormed.{log_lines, list_fault}
use Rattle.log_parts.specs.Picked.{flags_view, picked, is_kept}
use Rattle.log_lines.specs.Rows.{Table, own_places}
use Rattle.part_places.specs.PartRows.{part_table}
use Rattle.polygraph.specs.declared.fault.PolyFault.TheVariants.{TooManyChoices}
use Rattle.reduction.specs.Outcome.{IsReduceFault}
use Rattle.deciding.specs.Decides.{Decides}
use Rattle.deciding.specs.declared.decision.Decision.{Decision}
use Rattle.deciding.specs.declared.decision.Decision.TheVariants as decision
use Rattle.tell_decision.specs.Explained.{IsExplained}
use Rattle.tell_reasons.specs.Names.{followed, cycle_name}
use Rattle.tell_reasons.specs.declared.names.{TheConstants.NO_EDGES, TheConstants.MISSED, TheConstants.SESSION}
use Rattle.node_names.specs.Names.{names_of, nodes_of}
use Rattle.call_options.specs.declared.format.Format.{Format}
use Rattle.call_options.specs.declared.format.Format.TheVariants.{Text, Dot}
use Rattle.part_graphs.specs.Graphs.{empty_graph, search_graph}
use Rattle.level_laws.specs.declared.level.Level.{Level as BelowLevel}
use Rattle.level_refutations.specs.declared.evidence.Evidence.{Evidence}
use Rattle.level_refutations.specs.Refuted.{is_refuted}
use Rattle.tell_evidence.specs.Evidence.{evidence_text}
use Rattle.tell_evidence.specs.Names.{evidence_name}
use Rattle.judging.specs.declared.judged.Finding.{Finding}
use Rattle.judging.specs.declared.judged.Finding.TheVariants as finding
use Rattle.judging.specs.declared.judged.RefutedPart.{RefutedPart}
use Rattle.part_reasons.specs.declared.explaining.TheConstants.{MANY_LINES}

-- where the flagged transactions of a log stand, whose first session begins at line n; or all of them
abbrev pub table_of : ℕ → List ClientSession → Option (Vec (Vec Bool Global) Global) → Table
table_of n known None = own_places n known
table_of n known (Some flags) = part_table (is_kept known (picked (flags_view flags.items) known))
    (flags_view flags.items) n known

-- what is said where a search shows that no order is left, and nothing else does
abbrev pub search_line : List ℕ
search_line = codes "no order of them is left: a search shows it\n"

-- something is told of a decision
abbrev pub is_told : Decision → Bool
is_told (decision.Serial order) = false
is_told (decision.Spent closed) = false
is_told _ = true

-- that a search shows it; as a graph, behind the boxes of these sessions by this table
abbrev pub searched : Format → Table → List ClientSession → List ℕ
searched Text table ss = search_line
searched Dot table ss = search_graph table ss search_line

-- a decision about these sessions within the budget, told in the format by this table; of a decision
-- of which nothing is told, that a search shows it
pub data Tells (format : Format) (budget : ℕ) (ss : List ClientSession) (table : Table)
    (text : List ℕ) : Type 0 where
  of_told : (d : Decision) → Decides budget ss d → is_told d ≡ true → IsExplained format table ss d text
      → Tells format budget ss table text
  of_searched : (d : Decision) → Decides budget ss d → is_told d ≡ false
      → text ≡ searched format table ss → Tells format budget ss table text

-- a part of these sessions is too large to be told: they have more lines than any log, or the part
-- has; or `check` takes no log of the part, since it breaks a limit or has too many choices
pub data IsTooLarge (known part : List ClientSession) : Type 0 where
  long_log : MANY_LINES < length (log_lines known) → IsTooLarge known part
  long_part : MANY_LINES < length (log_lines part) → IsTooLarge known part
  limit : (f : LogFault) → list_fault (first_line One) part ≡ Some f → IsTooLarge known part
  choices : IsReduceFault part TooManyChoices → IsTooLarge known part

-- no text; no box
abbrev pub untold : Format → List ℕ
untold Text = []
untold Dot = empty_graph

-- why a part of these sessions has no serial order, in the format; nothing exactly where it is too
-- large to be told
abbrev pub IsReasonTold : Format → ℕ → ℕ → List ClientSession → RefutedPart → List ℕ → Type 0
IsReasonTold format budget n known p text =
    ((text ≡ untold format) × IsTooLarge known (map view p.part.items))
    ⊎ Tells format budget (map view p.part.items) (table_of n known p.flags) text

-- the same by what was found; what a search shows that learns is not told
abbrev pub IsWhyOf : Finding → ℕ → ℕ → List ClientSession → RefutedPart → List ℕ → Type 0
IsWhyOf finding.Formula budget n known p text = text ≡ search_line
IsWhyOf finding.Overlooked budget n known p text = text ≡ search_line
IsWhyOf _ budget n known p text = IsReasonTold Text budget n known p text

-- ---- what the field calls it
abbrev pub read_name : ReadAnomaly → Option (List ℕ)
read_name read.Unknown = None
read_name read.Aborted = Some (codes "aborted read (G1a)")
read_name read.Intermediate = Some (codes "intermediate read (G1b)")
read_name read.OwnWriteMissed = Some (codes "own write missed (internal)")
read_name read.Future = Some (codes "future read (internal)")
read_name read.Split = Some (codes "non-repeatable read (internal)")

-- the session of a node, by the names of nodes; 0 of none
abbrev pub session_in : List (ℕ × ℕ) → ℕ → ℕ
session_in names v = option_map_or (λ name. name.0) (slice_get names (v - 1)) 0

-- of two nodes that read one version and overwrite it: of one session, the later one misses what its
-- session wrote, which weaker levels forbid too
abbrev pub update_name : List (ℕ × ℕ) → ℕ → ℕ → List ℕ
update_name names a b = if session_in names a == session_in names b
    then cycle_name (followed (followed NO_EDGES SESSION) MISSED)
    else codes "lost update (G-single)"

abbrev pub anomaly_name : List (ℕ × ℕ) → Anomaly → Option (List ℕ)
anomaly_name names (anomaly.Read kind v op) = read_name kind
anomaly_name names (anomaly.LostUpdate x u a b) = Some (update_name names a b)

-- of an anomaly of these sessions
abbrev pub name_of_anomaly : List ClientSession → Anomaly → Option (List ℕ)
name_of_anomaly ss a = anomaly_name (names_of (nodes_of ss)) a

-- an anomaly of this number
abbrev pub has_number : ℕ → Option Anomaly → Bool
has_number n None = false
has_number n (Some a) = anomaly_number a == n

-- the number of the anomaly that was found; 0 where none was
abbrev pub number_found : Finding → ℕ
number_found (finding.Anomaly a) = anomaly_number a
number_found _ = 0

-- the anomaly of the part itself has the number of the one that was found: then both are of one read,
-- or of one key
abbrev pub IsOwn : RefutedPart → Type 0
IsOwn p = has_number (number_found p.finding) (anomaly_of (log_of (map view p.part.items))) ≡ true

-- a line of the text has this name
pub record IsKnownAs (name text : List ℕ) : Type 0 where
  pub ended : Bool
  pub line : Contains (lines text) (codes "known as: " ++ name, ended)

-- by what was found in these sessions: an anomaly has its name, the formula none, and the name of any
-- other finding stands in the text that says why
abbrev pub IsNamedBy : List ClientSession → Finding → Option (String Global) → List ℕ → Type 0
IsNamedBy ss (finding.Anomaly a) name text = option_map string_bytes name ≡ name_of_anomaly ss a
IsNamedBy ss finding.Formula name text = name ≡ None
IsNamedBy ss finding.Overlooked name text = name ≡ None
IsNamedBy ss _ name text = IfSome name (λ called. IsKnownAs (string_bytes called) text)

-- ---- what is said: why, and the name

-- evidence against the part at a level below prefix, which is right, the text that tells it by where
-- its transactions stand, and its name
pub record IsEvidenceTold
    (below : BelowLevel)
    (n : ℕ)
    (known : List ClientSession)
    (p : RefutedPart)
    (name : Option (String Global))
    (text : List ℕ) : Type 0 where
  pub evidence : Evidence
  pub right : is_refuted below (map view p.part.items) evidence ≡ true
  pub text_is : text ≡ evidence_text (table_of n known p.flags) (map view p.part.items) evidence
  pub name_is : option_map string_bytes name ≡ evidence_name below evidence

-- such evidence is told; or that a search shows it, where no more is
abbrev pub IsSaidBelow : BelowLevel → ℕ → List ClientSession → RefutedPart → Option (String Global)
    → List ℕ → Type 0
IsSaidBelow below n known p name text = ((text ≡ search_line) × (name ≡ None))
    ⊎ IsEvidenceTold below n known p name text

-- the text, where it is asked for
abbrev pub told_where : Bool → List ℕ → List ℕ
told_where asked text = if asked then text else []
