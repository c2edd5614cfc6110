-- The nodes that write a key and read it from one node.
use Rattle.std.specs.Prelude.{◌≡◌, ℕ, ◌<◌, ◌≤◌, ◌==◌, nat_lt, false, if◌then◌else◌, List, [], ◌∷◌, length, map, slice_index_or, Option, None, Some, IfSome, option_and_then}
use Rattle.std.specs.List.{filter, flat_map}
use Rattle.std.specs.Option.{option_map, option_map_or}
use Rattle.serializability.specs.declared.anomaly.Anomaly.{Anomaly}
use Rattle.serializability.specs.Log.{Log}
use Rattle.serializability.specs.Polygraph.{committed, all_nodes, source}
use Rattle.serializability.specs.Pairs.{pairs_of}
use Rattle.serializability.specs.Anomalies.{updates, lost_update}
use Rattle.anomalies.specs.declared.updates.Clash.{Clash}
use Rattle.anomalies.specs.declared.updates.Updater.{Updater}

-- the lost updates of a key: by the node read from, and the two nodes
abbrev pub lost_updates_of : Log → ℕ → List Anomaly
lost_updates_of log x = flat_map (λ u. map (lost_update x u)
    (pairs_of (filter (updates log x u) (committed log)))) (all_nodes log)

-- the lost update of two nodes that clash
abbrev pub lost_by : ℕ → Clash → Anomaly
lost_by x clash = lost_update x clash.source (clash.first, clash.second)

-- those of these nodes that read x from u
abbrev pub readers_from : Log → ℕ → ℕ → List ℕ → List ℕ
readers_from log x u nodes = filter (λ v. option_map_or (λ s. s == u) (source log v x) false) nodes

abbrev pub first_of : List ℕ → Option ℕ
first_of [] = None
first_of (v ∷ rest) = Some v

abbrev pub first_two : List ℕ → Option (ℕ × ℕ)
first_two [] = None
first_two (v ∷ []) = None
first_two (v ∷ (r ∷ rest)) = Some (v, r)

-- the node of an entry of this key
abbrev pub updater_of : ℕ → Option Updater → Option ℕ
updater_of x None = None
updater_of x (Some updater) = if updater.key == x then Some updater.node else None

-- each entry is of a key below x
abbrev pub AreOfKeysBelow : ℕ → List (Option Updater) → Type 0
AreOfKeysBelow x updaters = (u : ℕ) → IfSome (slice_index_or updaters u None)
    (λ updater. updater.key < x)

-- the entry of each node u is the first of these nodes that reads x from u
pub record AreFirst (log : Log) (x : ℕ) (nodes : List ℕ)
    (updaters : List (Option Updater)) : Type 0 where
  pub each : (u : ℕ) → u < length updaters → updater_of x
      (slice_index_or updaters u None) ≡ first_of (readers_from log x u nodes)

abbrev pub clash_from : Log → ℕ → List ℕ → ℕ → ℕ → Option Clash
clash_from log x earlier v u = option_map (λ first.
    record { source = u; first = first; second = v }) (first_of (readers_from log x u earlier))

-- node v, and the first of the earlier nodes that reads x from the same node
abbrev pub clash_with : Log → ℕ → List ℕ → ℕ → Option Clash
clash_with log x earlier v = option_and_then (clash_from log x earlier v) (source log v x)

-- the one with the lesser source
abbrev pub lesser : Option Clash → Option Clash → Option Clash
lesser None clash = clash
lesser (Some old) None = Some old
lesser (Some old) (Some new) = Some (if nat_lt new.source old.source then new else old)

-- the first two of these nodes that read x from the least node that two of them read it from
abbrev pub IsLeastClash : Log → ℕ → List ℕ → Option Clash → Type 0
IsLeastClash log x nodes None = (u : ℕ) → first_two (readers_from log x u nodes) ≡ None
IsLeastClash log x nodes (Some clash) =
    (clash.source ≤ log.nodes)
    × (first_two (readers_from log x clash.source nodes) ≡ Some (clash.first, clash.second))
    × ((u : ℕ) → u < clash.source → first_two (readers_from log x u nodes) ≡ None)
