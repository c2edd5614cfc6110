-- Why a part has no order of its snapshots and commits, and what the field calls it.
use Rattle.std.specs.Prelude.{◌≡◌, ℕ, ◌==◌, ◌||◌, Bool, true, false, List, [], ◌∷◌, ◌++◌, length, map, if◌then◌else◌, codes, Option, None, Some, IfSome, String}
use Rattle.std.specs.List.{starts_with}
use Rattle.std.specs.Bool.{nat_eq}
use Rattle.std.specs.Option.{option_map}
use Rattle.std.specs.String.{string_bytes}
use Rattle.std.specs.declared.alloc.Global.{Global}
use Rattle.session_log.specs.Lines.{lines}
use Rattle.session_log.specs.Text.{ClientSession, view}
use Rattle.serializability.specs.declared.anomaly.Anomaly.{Anomaly}
use Rattle.level_laws.specs.declared.level.Level.TheVariants.{Causal}
use Rattle.point_refutations.specs.declared.refutation.Refutation.{Refutation}
use Rattle.point_refutations.specs.Refuted.{is_refuted}
use Rattle.tell_points.specs.Told.{name_line, refutation_text}
use Rattle.tell_points.specs.Names.{refutation_name}
use Rattle.call_options.specs.declared.format.Format.TheVariants.{Text}
use Rattle.log_lines.specs.Rows.{Table, rows_of}
use Rattle.log_lines.specs.declared.placed.PlacedHistory.{PlacedHistory}
use Rattle.reason_laws.specs.Crossed.{AreCrossed}
use Rattle.reason_laws.specs.declared.crossing.Crossing.{Crossing}
use Rattle.tell_reasons.specs.Crossed.{crossing_text}
use Rattle.judging.specs.declared.judged.Finding.TheVariants as finding
use Rattle.judging.specs.declared.judged.RefutedPart.{RefutedPart}
use Rattle.part_reasons.specs.Why.{table_of, name_of_anomaly, IsOwn, IsKnownAs, IsReasonTold, IsEvidenceTold}

-- ---- an anomaly

-- it was found of the split log, and is the part's own: why it leaves no serial order, and the line of
-- its name
pub record IsAnomalyTold
    (budget n : ℕ)
    (known : List ClientSession)
    (p : RefutedPart)
    (name : Option (String Global))
    (text : List ℕ) : Type 0 where
  pub a : Anomaly
  pub found : p.finding ≡ finding.Anomaly a
  pub own : IsOwn p
  pub said : List ℕ
  pub serial : IsReasonTold Text budget n known p said
  pub text_is : text ≡ said ++ name_line (name_of_anomaly (map view p.part.items) a)
  pub name_is : option_map string_bytes name ≡ name_of_anomaly (map view p.part.items) a

-- ---- a refutation by points

-- It is right of the part, where keys are locked or not; the text tells it by where the transactions
-- stand in the log, and the name is its own.
pub record IsRefutationTold
    (locked : Bool)
    (n : ℕ)
    (known : List ClientSession)
    (p : RefutedPart)
    (name : Option (String Global))
    (text : List ℕ) : Type 0 where
  pub refutation : Refutation
  pub right : is_refuted locked (map view p.part.items) refutation ≡ true
  pub text_is : text ≡ refutation_text (table_of n known p.flags) (map view p.part.items) refutation
  pub name_is : option_map string_bytes name ≡ refutation_name (map view p.part.items) refutation

-- ---- a search

-- a name of faults that snapshot isolation allows stands there
abbrev pub is_allowed : List ℕ → Bool
is_allowed [] = false
is_allowed (b ∷ bs) = starts_with nat_eq (b ∷ bs) (codes "(G2-") || is_allowed bs

-- the other lines
abbrev pub forbidden_in : List (List ℕ × Bool) → List ℕ
forbidden_in [] = []
forbidden_in (l ∷ ls) = (if is_allowed l.0 then [] else l.0 ++ codes "\n") ++ forbidden_in ls

abbrev pub serial_part : List ℕ → List ℕ
serial_part said = if length said == 0 then []
    else codes "why they have no serial order either:\n" ++ forbidden_in (lines said)

-- that a search shows it; and, where this says something, why they have no serial order either
abbrev pub search_text : List ℕ → List ℕ
search_text said = codes "no order of their snapshots and commits is left: a search shows it\n"
    ++ serial_part said

-- a name that a line of these has, and that snapshot isolation does not allow
abbrev pub IsForbiddenName : List ℕ → Option (String Global) → Type 0
IsForbiddenName said name = IfSome name (λ called. IsKnownAs (string_bytes called) said
    × (is_allowed (string_bytes called) ≡ false))

pub record IsSerialTold
    (budget n : ℕ)
    (known : List ClientSession)
    (p : RefutedPart)
    (name : Option (String Global))
    (text : List ℕ) : Type 0 where
  pub said : List ℕ
  pub serial : IsReasonTold Text budget n known p said
  pub text_is : text ≡ search_text said
  pub name_is : IsForbiddenName said name

-- ---- crossed reads

abbrev pub crossing_name : Option (List ℕ)
crossing_name = Some (codes "long fork (G-nonadjacent-item)")

-- four transactions of these sessions that read all four pairs of two versions of a key and two of
-- another, and the text that tells them by this table
pub record IsCrossingTold (ss : List ClientSession) (table : Table) (text : List ℕ) : Type 0 where
  pub crossing : Crossing
  pub crossed : AreCrossed ss crossing
  pub log : PlacedHistory
  pub sessions : log.history.now ≡ ss
  pub places : rows_of log.places.now ≡ table
  pub text_is : text ≡ crossing_text log crossing

pub record IsCrossedTold
    (n : ℕ)
    (known : List ClientSession)
    (p : RefutedPart)
    (name : Option (String Global))
    (text : List ℕ) : Type 0 where
  pub said : List ℕ
  pub crossing : IsCrossingTold (map view p.part.items) (table_of n known p.flags) said
  pub text_is : text ≡ search_text said
  pub name_is : option_map string_bytes name ≡ crossing_name

-- where keys are not locked, crossed reads alone are told, which leave no prefix order either
pub data IsUnlockedTold
    (n : ℕ)
    (known : List ClientSession)
    (p : RefutedPart)
    (name : Option (String Global))
    (text : List ℕ) : Type 0 where
  of_crossing : IsCrossedTold n known p name text → IsUnlockedTold n known p name text
  of_search : text ≡ search_text [] → name ≡ None → IsUnlockedTold n known p name text

abbrev pub IsSearchTold : Bool → ℕ → ℕ → List ClientSession → RefutedPart → Option (String Global)
    → List ℕ → Type 0
IsSearchTold true budget n known p name text = IsSerialTold budget n known p name text
IsSearchTold false budget n known p name text = IsUnlockedTold n known p name text

-- ---- what is said

-- Of an anomaly; of a refutation by points, of evidence that there is no causal
-- order, or that a search shows it.
pub data IsSaidOfPoints
    (locked : Bool)
    (budget n : ℕ)
    (known : List ClientSession)
    (p : RefutedPart)
    (name : Option (String Global))
    (text : List ℕ) : Type 0 where
  anomaly : IsAnomalyTold budget n known p name text
      → IsSaidOfPoints locked budget n known p name text
  points : IsRefutationTold locked n known p name text
      → IsSaidOfPoints locked budget n known p name text
  weaker : IsEvidenceTold Causal n known p name text
      → IsSaidOfPoints locked budget n known p name text
  search : IsSearchTold locked budget n known p name text
      → IsSaidOfPoints locked budget n known p name text
