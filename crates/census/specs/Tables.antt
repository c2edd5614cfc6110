-- What is known of the versions of a log.
use Rattle.std.specs.Prelude.{◌≡◌, ℕ, ◌==◌, ◌&&◌, not, nat_lt, Bool, if◌then◌else◌, List, Option, Some, None, count_by, is_some, false}
use Rattle.std.specs.Option.{option_map_or}
use Rattle.std.specs.Str.{bytes_eq}
use Rattle.std.specs.List.{flat_map, filter, list_any}
use Rattle.session_log.specs.Text.{Transaction, view_txn}
use Rattle.session_log.specs.declared.session.Txn.{Txn}
use Rattle.serializability.specs.declared.anomaly.ReadAnomaly.{ReadAnomaly}
use Rattle.serializability.specs.declared.anomaly.ReadAnomaly.TheVariants as anomaly
use Rattle.log_definitions.specs.Unknown.{is_committed}
use Rattle.census.specs.Versions.{has_version}
use Rattle.census.specs.States.{differs, state_of, state_in}
use Rattle.census.specs.Reads.{writes_as, passes_over, internal_fault}
use Rattle.census.specs.Updates.{updates}
use Rattle.census.specs.declared.states.KeyState.{KeyState}
use Rattle.census.specs.declared.versions.Versions.{Versions}
use Rattle.census.specs.declared.writes.Writes.{Writes}
use Rattle.census.specs.declared.updates.Updates.{Updates}
use Rattle.census.specs.declared.tables.Tables.{Tables}
use Rattle.census.specs.declared.states.States.{States}
use Rattle.session_log.specs.declared.session.Op.{Op}
use Rattle.session_log.specs.declared.session.Op.TheVariants.{Read, Write}
use denote.Ref.{Bor}

abbrev pub view_ref : Bor Txn → Transaction
view_ref t = view_txn t.now

-- the writes are those of these transactions
pub record KnowsWrites (ts : List Transaction) (writes : Writes) : Type 0 where
  pub written : (k : List ℕ) (w : ℕ) → has_version writes.written k w
      ≡ writes_as k w (flat_map (λ t. t.ops) ts)
  pub aborted : (k : List ℕ) (w : ℕ) → has_version writes.aborted k w
      ≡ list_any (λ t. not (is_committed t) && writes_as k w t.ops) ts
  pub passed : (k : List ℕ) (w : ℕ) → has_version writes.passed k w
      ≡ list_any (λ t. is_committed t && passes_over k w t.ops) ts

-- the updates are those of these transactions
pub record KnowsUpdates (ts : List Transaction) (known : Updates) : Type 0 where
  pub once : (k : List ℕ) (w : ℕ) → has_version known.once k w
      ≡ nat_lt 0 (count_by (updates k w) ts)
  pub again : (k : List ℕ) (w : ℕ) → has_version known.again k w
      ≡ nat_lt 1 (count_by (updates k w) ts)

-- both, of these transactions and of the committed ones
pub record KnowsLog (ts : List Transaction) (tables : Tables) : Type 0 where
  pub writes : KnowsWrites ts tables.writes
  pub updates : KnowsUpdates (filter is_committed ts) tables.updates

-- the anomaly of an external read, by these writes and those of its own transaction
abbrev pub external_among : Writes → Versions → KeyState → List ℕ → ℕ → Option ReadAnomaly
external_among writes own state key wid =
    if not (wid == 0) && not (has_version writes.written key wid) then Some anomaly.Unknown else
    (if has_version writes.aborted key wid then Some anomaly.Aborted else
    (if has_version own key wid then Some anomaly.Future else
    (if has_version writes.passed key wid then Some anomaly.Intermediate else
    (if differs state wid then Some anomaly.Split else None))))

abbrev pub fault_among : Writes → Versions → KeyState → List ℕ → ℕ → Option ℕ → Option ReadAnomaly
fault_among writes own state key wid (Some before) = internal_fault before wid
fault_among writes own state key wid None = external_among writes own state key wid

-- ---- one transaction

-- the states are those behind its operations
pub record AreBehind (ops : List Op) (states : States) : Type 0 where
  pub each : (k : List ℕ) → state_of states k ≡ state_in k ops

-- it updates the version, where the states are those behind its operations
abbrev pub updates_by : States → List ℕ → ℕ → Bool
updates_by states key wid = option_map_or (λ r. r == wid) (state_of states key).read false
    && is_some (state_of states key).written

-- of these it is one that was updated before
abbrev pub updates_in : Versions → States → List ℕ → ℕ → Bool
updates_in before states key wid = updates_by states key wid && has_version before key wid

-- it writes the key behind the version, or not at all
abbrev pub is_passed : States → List ℕ → ℕ → Bool
is_passed states key wid = not (option_map_or (λ w. w == wid) (state_of states key).written false)

-- the operation reads the version
abbrev pub is_read_as : List ℕ → ℕ → Op → Bool
is_read_as key wid (Read k w) = bytes_eq key k && (wid == w)
is_read_as key wid (Write k w) = false

abbrev pub reads_as : List ℕ → ℕ → List Op → Bool
reads_as key wid ops = list_any (is_read_as key wid) ops

-- the operation reads the version, and this holds of what it reads
abbrev pub at_read : (List ℕ → ℕ → Bool) → List ℕ → ℕ → Op → Bool
at_read f key wid (Read k w) = (bytes_eq key k && (wid == w)) && f k w
at_read f key wid (Write k w) = false

-- the same of what it writes
abbrev pub at_write : (List ℕ → ℕ → Bool) → List ℕ → ℕ → Op → Bool
at_write f key wid (Read k w) = false
at_write f key wid (Write k w) = (bytes_eq key k && (wid == w)) && f k w

-- what is wrong with an operation behind others with these states
abbrev pub op_fault : Writes → Versions → States → Op → Option ReadAnomaly
op_fault writes own states (Read key wid) = fault_among writes own (state_of states key) key wid
    (state_of states key).written
op_fault writes own states (Write key wid) = None

abbrev pub loses_among : Updates → States → Op → Bool
loses_among known states (Read key wid) = updates_by states key wid
    && has_version known.again key wid
loses_among known states (Write key wid) = false

abbrev pub view_fault : ReadAnomaly × Bor (List ℕ) → ReadAnomaly × List ℕ
view_fault f = (f.0, f.1.now)
