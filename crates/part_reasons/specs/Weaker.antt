-- A weaker level that a part breaks too, and how that is told.
use Rattle.std.specs.Prelude.{◌≡◌, ◌<◌, ℕ, Bool, true, false, List, ◌++◌, map, codes, Option, String}
use Rattle.std.specs.Option.{option_map}
use Rattle.std.specs.String.{string_bytes}
use Rattle.std.specs.declared.alloc.Global.{Global}
use Rattle.session_log.specs.Text.{ClientSession, view}
use Rattle.log_lines.specs.Rows.{Table}
use Rattle.isolation.specs.Levels.{level_title, level_asks}
use Rattle.isolation.specs.declared.level.Isolation.{Isolation}
use Rattle.isolation.specs.declared.level.Isolation.TheVariants as isolation
use Rattle.level_laws.specs.declared.level.Level.{Level as BelowLevel}
use Rattle.level_laws.specs.declared.level.Level.TheVariants as below
use Rattle.level_refutations.specs.Refuted.{is_refuted}
use Rattle.point_refutations.specs.Refuted as by_points
use Rattle.tell_evidence.specs.Evidence.{evidence_text}
use Rattle.tell_evidence.specs.Names.{evidence_name}
use Rattle.tell_points.specs.Told.{refutation_text}
use Rattle.tell_points.specs.Names.{refutation_name}
use Rattle.part_graphs.specs.Graphs.{evidence_graph, refutation_graph}
use Rattle.judging.specs.declared.level.Level.{Level}
use Rattle.judging.specs.declared.level.Level.TheVariants as level
use Rattle.judging.specs.declared.judged.RefutedPart.{RefutedPart}
use Rattle.part_reasons.specs.Why.{table_of}
use Rattle.part_reasons.specs.Timed.{is_timed}
use Rattle.part_reasons.specs.declared.weaker.Against.{Against}
use Rattle.part_reasons.specs.declared.weaker.Against.TheVariants.{Points, Evidence}
use Rattle.part_reasons.specs.declared.weaker.Weaker.{Weaker}

-- ---- levels

-- with moments or without
abbrev pub isolation_of : Level → Bool → Isolation
isolation_of level.Serializable strict = isolation.Serializable
isolation_of level.Snapshot true = isolation.StrictSnapshot
isolation_of level.Snapshot false = isolation.Snapshot
isolation_of level.Prefix strict = isolation.Prefix
isolation_of (level.Below below.Causal) strict = isolation.Causal
isolation_of (level.Below below.ReadAtomic) strict = isolation.ReadAtomic
isolation_of (level.Below below.MonotonicAtomicView) strict = isolation.MonotonicAtomicView
isolation_of (level.Below below.ReadCommitted) strict = isolation.ReadCommitted

-- how many levels are weaker
abbrev pub rank_of : Level → ℕ
rank_of (level.Below below.ReadCommitted) = 0
rank_of (level.Below below.MonotonicAtomicView) = 1
rank_of (level.Below below.ReadAtomic) = 2
rank_of (level.Below below.Causal) = 3
rank_of level.Prefix = 4
rank_of level.Snapshot = 5
rank_of level.Serializable = 6

-- ---- what is right against one

-- a refutation by points that is right of the part, and rests on moments or on none
abbrev pub IsRightOfPoints : Bool → Bool → RefutedPart → Against → Type 0
IsRightOfPoints locked strict p (Points l r) = (l ≡ locked) × (is_timed r ≡ strict)
    × (by_points.is_refuted locked (map view p.part.items) r ≡ true)
IsRightOfPoints locked strict p (Evidence below e) = ⊥

-- evidence that is right of the part
abbrev pub IsRightBelow : BelowLevel → RefutedPart → Against → Type 0
IsRightBelow below p (Points l r) = ⊥
IsRightBelow below p (Evidence b e) = (b ≡ below) × (is_refuted below (map view p.part.items) e ≡ true)

-- against a level with moments, which is snapshot isolation alone, or without
abbrev pub IsRight : Level → Bool → RefutedPart → Against → Type 0
IsRight level.Snapshot strict p it = IsRightOfPoints true strict p it
IsRight level.Prefix false p it = IsRightOfPoints false false p it
IsRight (level.Below below) false p it = IsRightBelow below p it
IsRight _ _ p it = ⊥

-- the part breaks a level that is weaker than this one
pub record IsWeaker (l : Level) (p : RefutedPart) (it : Weaker) : Type 0 where
  pub weaker : rank_of it.level < rank_of l
  pub right : IsRight it.level it.is_strict p it.against

-- ---- how it is told

abbrev pub name_against : List ClientSession → Against → Option (List ℕ)
name_against ss (Points l r) = refutation_name ss r
name_against ss (Evidence below e) = evidence_name below e

abbrev pub text_against : Table → List ClientSession → Against → List ℕ
text_against table ss (Points l r) = refutation_text table ss r
text_against table ss (Evidence below e) = evidence_text table ss e

abbrev pub graph_against : Table → List ClientSession → Against → List ℕ
graph_against table ss (Points l r) = refutation_graph table ss r
graph_against table ss (Evidence below e) = evidence_graph table ss e

-- `they break read atomic too:`, and what that level asks for
abbrev pub too_line : Isolation → List ℕ
too_line i = codes "they break " ++ level_title i ++ codes " too:\n" ++ level_asks i

abbrev pub text_of_weaker : ℕ → List ClientSession → RefutedPart → Weaker → List ℕ
text_of_weaker n known p it = too_line (isolation_of it.level it.is_strict)
    ++ text_against (table_of n known p.flags) (map view p.part.items) it.against

abbrev pub graph_of_weaker : ℕ → List ClientSession → RefutedPart → Weaker → List ℕ
graph_of_weaker n known p it =
    graph_against (table_of n known p.flags) (map view p.part.items) it.against

abbrev pub IsNameOfWeaker : RefutedPart → Weaker → Option (String Global) → Type 0
IsNameOfWeaker p it name =
    option_map string_bytes name ≡ name_against (map view p.part.items) it.against

pub record IsWeakerTold
    (l : Level)
    (n : ℕ)
    (known : List ClientSession)
    (p : RefutedPart)
    (name : Option (String Global))
    (text : List ℕ) : Type 0 where
  pub it : Weaker
  pub weaker : IsWeaker l p it
  pub text_is : text ≡ text_of_weaker n known p it
  pub name_is : IsNameOfWeaker p it name

pub record IsWeakerDrawn
    (l : Level)
    (n : ℕ)
    (known : List ClientSession)
    (p : RefutedPart)
    (graph : List ℕ) : Type 0 where
  pub it : Weaker
  pub weaker : IsWeaker l p it
  pub graph_is : graph ≡ graph_of_weaker n known p it
