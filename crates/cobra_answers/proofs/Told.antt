-- What `check` tells, and that what it names is there.
use Rattle.std.proofs.Common.{◌≡◌, ℕ, ◌+◌, ◌<◌, ◌≤◌, List, [], ◌∷◌, length, Option, None, Some, inl, inr}
use Rattle.std.specs.Prelude.{map}
use Rattle.std.specs.Option.{option_map}
use Rattle.serializability.specs.declared.anomaly.Anomaly.{Anomaly}
use Rattle.serializability.specs.declared.anomaly.Anomaly.TheVariants as anomaly
use Rattle.serializability.specs.declared.anomaly.ReadAnomaly.{ReadAnomaly}
use Rattle.serializability.specs.Log.{Log}
use Rattle.serializability.specs.Anomalies.{Place, places, anomaly_at, event_anomaly, first_some, lost_updates, anomaly_of}
use Rattle.anomaly_laws.proofs.First.{or_some, of_first}
use Rattle.anomaly_laws.proofs.Listed.{each_from_lost}
use Rattle.anomaly_laws.proofs.Meaning.{kind_holds}

-- ---- a lost update names a key and a node of the log
abbrev IsWithin : Log → Anomaly → Type 0
IsWithin log (anomaly.Read kind v op) = Unit {0}
IsWithin log (anomaly.LostUpdate x u a b) = (x < log.keys) × (u ≤ log.nodes)

of_kind : (o : Option ReadAnomaly) (v op x u a b : ℕ) → option_map (λ kind. anomaly.Read kind v op) o ≡ Some (anomaly.LostUpdate x u a b) → ⊥
of_kind None v op x u a b e = cc
of_kind (Some kind) v op x u a b e = cc

reads_lose_none : (log : Log) (ps : List Place) (x u a b : ℕ) → first_some (map (anomaly_at log) ps) ≡ Some (anomaly.LostUpdate x u a b) → ⊥
reads_lose_none log [] x u a b e = cc
reads_lose_none log (p ∷ ps) x u a b e = elim (or_some (anomaly_at log p) (first_some (map (anomaly_at log) ps)) (anomaly.LostUpdate x u a b) e) [
  | inl h ↦ of_kind (event_anomaly log p.node p.front p.event p.back) p.node (length p.front + 1) x u a b h
  | inr h ↦ reads_lose_none log ps x u a b h.1
]

pub lost_within : (log : Log) (x u a b : ℕ) → anomaly_of log ≡ Some (anomaly.LostUpdate x u a b) → (x < log.keys) × (u ≤ log.nodes)
unfolding anomaly_of
lost_within log x u a b e = elim (or_some (first_some (map (anomaly_at log) (places log))) (first_some (map (λ c. Some c) (lost_updates log))) (anomaly.LostUpdate x u a b) e) [
  | inl h ↦ absurd (reads_lose_none log (places log) x u a b h)
  | inr h ↦ of_first (IsWithin log) (lost_updates log) (anomaly.LostUpdate x u a b) (each_from_lost log (IsWithin log) (λ k s c d hk hs lo lt hi tc td. (hk, hs))) h.1
]

pub reader_within : (log : Log) (kind : ReadAnomaly) (v k : ℕ) → anomaly_of log ≡ Some (anomaly.Read kind v k) → v ≤ log.nodes
reader_within log kind v k e = (kind_holds log kind v k e).0.high
