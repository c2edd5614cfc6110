-- What shows that a part has no order of its snapshots and commits.
use Rattle.std.specs.Prelude.{◌≡◌, Bool, true, map}
use Rattle.session_log.specs.Text.{view}
use Rattle.level_laws.specs.declared.level.Level.TheVariants.{Causal}
use Rattle.level_refutations.specs.Refuted.{is_refuted}
use Rattle.point_refutations.specs.Refuted as by_points
use Rattle.judging.specs.declared.judged.Finding.TheVariants as finding
use Rattle.judging.specs.declared.judged.RefutedPart.{RefutedPart}
use Rattle.part_reasons.specs.declared.shown.Shown.{Shown}
use Rattle.part_reasons.specs.declared.shown.Shown.TheVariants as shown
use Rattle.part_reasons.specs.Why.{IsOwn}

-- the anomaly was found and is the part's own, the refutation is right where keys are locked or not, or
-- the evidence is; of a search nothing is said
abbrev pub IsShown : Bool → RefutedPart → Shown → Type 0
IsShown locked p (shown.Anomaly a) = (p.finding ≡ finding.Anomaly a) × IsOwn p
IsShown locked p (shown.Points r) = by_points.is_refuted locked (map view p.part.items) r ≡ true
IsShown locked p (shown.Evidence e) = is_refuted Causal (map view p.part.items) e ≡ true
IsShown locked p shown.Search = Unit {0}
