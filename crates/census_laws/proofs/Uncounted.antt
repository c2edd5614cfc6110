-- In a serial order nothing is counted.
use Rattle.census_laws.proofs.Prelude.{◌≡◌, ℕ, ◌<◌, List, ap, ◌∙◌, arith, ◌==◌, count_by, ClientSession, ReadAnomaly, resolved, IsSerialOrder, kept_in, HasOrder, IsSoundLog, faults_in, reads_with, is_lost, lost_in}
use Rattle.serializability.specs.declared.anomaly.ReadAnomaly.TheVariants as anomaly
use Rattle.serializability.specs.Anomalies.{read_number}
use Rattle.census.specs.Census.{IsCensus}
use Rattle.census.specs.Text.{total_of}
use Rattle.census.specs.declared.numbers.Census.{Census}
use Rattle.census_laws.proofs.Places.{none_counted}
use Rattle.census_laws.proofs.Faultless.{no_faults}
use Rattle.census_laws.proofs.Unlost.{not_lost}

no_reads : (ss : List ClientSession) (order : List ℕ) → IsSoundLog ss → IsSerialOrder ss order → (kind : ReadAnomaly) → reads_with kind (resolved ss) ≡ 0
unfolding faults_in
no_reads ss order sound serial kind = ap (count_by (λ f. read_number f.0 == read_number kind)) (no_faults ss order sound serial)

none_lost : (ss : List ClientSession) (order : List ℕ) → IsSoundLog ss → IsSerialOrder ss order → lost_in (resolved ss) ≡ 0
unfolding lost_in
none_lost ss order sound serial = none_counted (is_lost (kept_in ss)) (kept_in ss) (not_lost ss order sound serial)

pub no_order : (ss : List ClientSession) (c : Census) → IsSoundLog ss → IsCensus (resolved ss) c → 0 < total_of c → HasOrder ss → ⊥
no_order ss c sound is some has =
    let none = no_reads ss has.0 sound has.1 in
    let unknown = is.unknown ∙ none anomaly.Unknown in
    let aborted = is.aborted ∙ none anomaly.Aborted in
    let intermediate = is.intermediate ∙ none anomaly.Intermediate in
    let missed = is.missed ∙ none anomaly.OwnWriteMissed in
    let future = is.future ∙ none anomaly.Future in
    let split = is.split ∙ none anomaly.Split in
    let lost = is.lost ∙ none_lost ss has.0 sound has.1 in
    omega (arith, some, unknown, aborted, intermediate, missed, future, split, lost)
