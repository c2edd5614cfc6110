-- Anomalies of a log, and the one that is reported.
use Rattle.std.specs.Prelude.{ℕ, ◌+◌, ◌==◌, ◌&&◌, not, Bool, false, if◌then◌else◌, List, [], ◌∷◌, ◌++◌, length, map, Option, None, Some, is_some}
use Rattle.std.specs.List.{filter, flat_map, list_any}
use Rattle.std.specs.Option.{option_map, option_map_or, option_or}
use Rattle.serializability.specs.declared.event.Event.{Event}
use Rattle.serializability.specs.declared.event.Event.TheVariants as event
use Rattle.serializability.specs.declared.anomaly.Anomaly.{Anomaly}
use Rattle.serializability.specs.declared.anomaly.Anomaly.TheVariants as anomaly
use Rattle.serializability.specs.declared.anomaly.ReadAnomaly.{ReadAnomaly}
use Rattle.serializability.specs.declared.anomaly.ReadAnomaly.TheVariants as read
use Rattle.serializability.specs.Log.{Log}
use Rattle.serializability.specs.Reads.{last_write}
use Rattle.serializability.specs.Polygraph.{all_nodes, all_keys, committed, source}
use Rattle.serializability.specs.Pairs.{pairs_of}

-- ---- one read of x as w

-- a write of x with identity w
abbrev pub is_write_of : ℕ → ℕ → Event → Bool
is_write_of x w (event.Read k v) = false
is_write_of x w (event.Write k v) = (k == x) && (v == w)

abbrev pub writes_as : ℕ → ℕ → List Event → Bool
writes_as x w ops = list_any (is_write_of x w) ops

-- no write of x in the log has identity w, and w is not the initial value's
abbrev pub is_unknown : Log → ℕ → ℕ → Bool
is_unknown log x w = not (w == 0) && (not (list_any (λ u. writes_as x w (log.ops u))
    (committed log)) && not (list_any (writes_as x w) log.aborted))

-- an aborted transaction writes x as w
abbrev pub is_aborted : Log → ℕ → ℕ → Bool
is_aborted log x w = list_any (writes_as x w) log.aborted

-- a node other than v writes x as w, and that is not its final write of x
abbrev pub is_intermediate : Log → ℕ → ℕ → ℕ → Bool
is_intermediate log v x w =
    list_any (λ u. not (u == v) && (writes_as x w (log.ops u) && not
    (option_map_or (λ y. y == w) (last_write x (log.ops u)) false))) (committed log)

-- a read of x that names another identity than w
abbrev pub is_other_read : ℕ → ℕ → Event → Bool
is_other_read x w (event.Read k v) = (k == x) && not (v == w)
is_other_read x w (event.Write k v) = false

-- The anomaly of a read of x as w in node v, with these operations before it and those behind it.
-- The read is internal where its last own write before it is some, and external where there is
-- none.
abbrev pub external_anomaly : Log → ℕ → List Event → ℕ → ℕ → List Event → Option ReadAnomaly
external_anomaly log v before x w behind =
    if is_unknown log x w then Some read.Unknown else
    (if is_aborted log x w then Some read.Aborted else
    (if writes_as x w behind then Some read.Future else
    (if is_intermediate log v x w then Some read.Intermediate else
    (if list_any (is_other_read x w) before then Some read.Split else None))))

abbrev pub internal_anomaly : ℕ → ℕ → Option ReadAnomaly
internal_anomaly own w = if w == own then None else Some read.OwnWriteMissed

abbrev pub read_anomaly : Log → ℕ → List Event → ℕ → ℕ → List Event → Option ℕ → Option ReadAnomaly
read_anomaly log v before x w behind (Some own) = internal_anomaly own w
read_anomaly log v before x w behind None = external_anomaly log v before x w behind

-- ---- all reads, in log order

-- an operation of a node, with those before it and those behind it
pub record Place : Type 0 where
  pub node : ℕ
  pub front : List Event
  pub event : Event
  pub back : List Event

abbrev pub places_from : ℕ → List Event → List Event → List Place
places_from v front [] = []
places_from v front (e ∷ back) = record { node = v; front = front; event = e; back = back }
    ∷ places_from v (front ++ e ∷ []) back

-- the operations of all nodes
abbrev pub places : Log → List Place
places log = flat_map (λ v. places_from v [] (log.ops v)) (committed log)

abbrev pub event_anomaly : Log → ℕ → List Event → Event → List Event → Option ReadAnomaly
event_anomaly log v front (event.Read x w) back = read_anomaly log v front x w back
    (last_write x front)
event_anomaly log v front (event.Write x w) back = None

-- operations count from 1
abbrev pub anomaly_at : Log → Place → Option Anomaly
anomaly_at log p = option_map (λ kind. anomaly.Read kind p.node (length p.front + 1))
    (event_anomaly log p.node p.front p.event p.back)

-- the first that is some
abbrev pub first_some : List (Option Anomaly) → Option Anomaly
first_some [] = None
first_some (o ∷ rest) = option_or o (first_some rest)

-- ---- lost updates

-- whether node r reads x externally from node u, and writes it
abbrev pub updates : Log → ℕ → ℕ → ℕ → Bool
updates log x u r = option_map_or (λ s. s == u) (source log r x) false && is_some
    (last_write x (log.ops r))

abbrev pub lost_update : ℕ → ℕ → (ℕ × ℕ) → Anomaly
lost_update x u p = anomaly.LostUpdate x u p.0 p.1

-- two nodes that update x from one node: by key, node read from, and the two nodes
abbrev pub lost_updates : Log → List Anomaly
lost_updates log = flat_map (λ x. flat_map (λ u. map (lost_update x u)
    (pairs_of (filter (updates log x u) (committed log)))) (all_nodes log)) (all_keys log)

-- ---- the anomaly that is reported: the first read in log order that is one, else the first lost
-- update
unfoldable pub anomaly_of : Log → Option Anomaly
anomaly_of log = option_or (first_some (map (anomaly_at log) (places log)))
    (first_some (map (λ a. Some a) (lost_updates log)))

-- the number in its code
abbrev pub read_number : ReadAnomaly → ℕ
read_number read.Unknown = 1
read_number read.Aborted = 2
read_number read.Intermediate = 3
read_number read.OwnWriteMissed = 4
read_number read.Future = 5
read_number read.Split = 6

abbrev pub anomaly_number : Anomaly → ℕ
anomaly_number (anomaly.Read kind v op) = read_number kind
anomaly_number (anomaly.LostUpdate x u a b) = 7
