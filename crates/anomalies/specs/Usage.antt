-- What a transaction did to a key, by its operations so far.
use Rattle.std.specs.Prelude.{◌≡◌, ℕ, ◌+◌, ◌<◌, ◌≤◌, ◌==◌, not, Bool, false, if◌then◌else◌, List, ◌∷◌, ◌++◌, length, slice_index_or, Option, None, Some, IfSome}
use Rattle.std.specs.List.{list_any}
use Rattle.serializability.specs.declared.event.Event.{Event}
use Rattle.serializability.specs.declared.event.Event.TheVariants.{Read, Write}
use Rattle.serializability.specs.declared.anomaly.ReadAnomaly.{ReadAnomaly}
use Rattle.serializability.specs.declared.anomaly.ReadAnomaly.TheVariants.{Split}
use Rattle.serializability.specs.Log.{Log}
use Rattle.serializability.specs.Reads.{last_write}
use Rattle.serializability.specs.Anomalies.{is_other_read}
use Rattle.anomalies.specs.declared.reads.LastUse.{LastUse}
use Rattle.anomalies.specs.declared.reads.Usage.{Usage}
use Rattle.anomalies.specs.declared.reads.Usage.TheVariants as usage

-- an operation of node v, with those before it and those behind it
pub record StandsAt (log : Log) (v : ℕ) (before : List Event) (event : Event)
    (behind : List Event) : Type 0 where
  pub low : 0 < v
  pub high : v ≤ log.nodes
  pub stands : log.ops v ≡ before ++ event ∷ behind

-- the anomaly of an external read of x as w where an earlier one names another identity
abbrev pub split_anomaly : ℕ → ℕ → List Event → Option ReadAnomaly
split_anomaly x w before = if list_any (is_other_read x w) before then Some Split else None

-- the last own write of the key
abbrev pub own_write : Option Usage → Option ℕ
own_write None = None
own_write (Some (usage.Read first)) = None
own_write (Some (usage.Wrote own)) = Some own

-- whether a read of the key names another identity than w
abbrev pub names_other : Option Usage → ℕ → Bool
names_other None w = false
names_other (Some (usage.Read first)) w = not (first == w)
names_other (Some (usage.Wrote own)) w = false

-- these operations did this to key x, and as long as they do not write it, their reads of it name
-- one identity
pub record IsUsage (x : ℕ) (ops : List Event) (used : Option Usage) : Type 0 where
  pub own : last_write x ops ≡ own_write used
  pub reads : own_write used ≡ None → (w : ℕ) → list_any
      (is_other_read x w) ops ≡ names_other used w

-- what an operation on the key makes of it
abbrev pub used_after : Option Usage → Event → Usage
used_after used (Write x w) = usage.Wrote w
used_after None (Read x w) = usage.Read w
used_after (Some (usage.Read first)) (Read x w) = usage.Read w
used_after (Some (usage.Wrote own)) (Read x w) = usage.Wrote own

-- what a key's mark says of node v: nothing, where it is another node's
abbrev pub used_by : ℕ → Option LastUse → Option Usage
used_by v None = None
used_by v (Some mark) = if mark.node == v then Some mark.used else None

-- each mark is of a node below v
abbrev pub AreBelow : ℕ → List (Option LastUse) → Type 0
AreBelow v marks = (x : ℕ) → IfSome (slice_index_or marks x None) (λ mark. mark.node < v)

-- each key's mark says what these operations of node v did to it
pub record AreMarked (v : ℕ) (ops : List Event) (marks : List (Option LastUse)) : Type 0 where
  pub usages : (x : ℕ) → x < length marks → IsUsage x ops (used_by v (slice_index_or marks x None))
  pub below : AreBelow (v + 1) marks
