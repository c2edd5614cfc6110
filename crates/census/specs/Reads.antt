-- The reads of a log that break serializability by themselves (A1 to A6). Outcomes are known: a
-- transaction that is not committed is aborted.
use Rattle.std.specs.Prelude.{ℕ, ◌==◌, ◌&&◌, not, Bool, false, if◌then◌else◌, List, [], ◌∷◌, ◌++◌, Option, Some, None, count_by}
use Rattle.std.specs.List.{filter, flat_map, list_any}
use Rattle.std.specs.Option.{option_map_or}
use Rattle.std.specs.Str.{bytes_eq}
use Rattle.session_log.specs.Text.{ClientSession, Transaction, key_of}
use Rattle.session_log.specs.declared.session.Op.{Op}
use Rattle.session_log.specs.declared.session.Op.TheVariants.{Read, Write}
use Rattle.serializability.specs.declared.anomaly.ReadAnomaly.{ReadAnomaly}
use Rattle.serializability.specs.declared.anomaly.ReadAnomaly.TheVariants as anomaly
use Rattle.serializability.specs.Anomalies.{read_number}
use Rattle.serializability.specs.Reads.{later}
use Rattle.log_definitions.specs.Unknown.{txns_in, ops_in, is_committed, reads_write}

-- ---- what operations do with a key

-- they write it under this identity
abbrev pub writes_as : List ℕ → ℕ → List Op → Bool
writes_as key wid ops = list_any (reads_write (Read key wid)) ops

-- the identity of the last write of it
abbrev pub last_write : List ℕ → List Op → Option ℕ
last_write key [] = None
last_write key (Read k w ∷ ops) = last_write key ops
last_write key (Write k w ∷ ops) = later (if bytes_eq key k then Some w else None)
    (last_write key ops)

-- they write it so, and then write it again
abbrev pub passes_over : List ℕ → ℕ → List Op → Bool
passes_over key wid ops = writes_as key wid ops
    && not (option_map_or (λ w. w == wid) (last_write key ops) false)

-- a read of it that names another identity
abbrev pub is_other_read : List ℕ → ℕ → Op → Bool
is_other_read key wid (Read k w) = bytes_eq key k && not (w == wid)
is_other_read key wid (Write k w) = false

-- ---- what a log says of a version: of a key under an identity

-- no transaction wrote it, and it is not the initial value
abbrev pub is_unknown : List ClientSession → List ℕ → ℕ → Bool
is_unknown ss key wid = not (wid == 0) && not (writes_as key wid (ops_in ss))

-- an aborted transaction wrote it
abbrev pub is_aborted : List ClientSession → List ℕ → ℕ → Bool
is_aborted ss key wid = list_any (λ t. not (is_committed t) && writes_as key wid t.ops) (txns_in ss)

-- a committed transaction wrote it, and then the key again
abbrev pub is_intermediate : List ClientSession → List ℕ → ℕ → Bool
is_intermediate ss key wid = list_any (λ t. is_committed t && passes_over key wid t.ops) (txns_in ss)

-- ---- one read

-- The anomaly of an external read of the version, with these operations of its transaction before
-- it and behind it: the first that holds. What it names is a write of another transaction, where it
-- is none behind it.
abbrev pub external_fault : List ClientSession → List Op → List ℕ → ℕ → List Op
    → Option ReadAnomaly
external_fault ss before key wid behind =
    if is_unknown ss key wid then Some anomaly.Unknown else
    (if is_aborted ss key wid then Some anomaly.Aborted else
    (if writes_as key wid behind then Some anomaly.Future else
    (if is_intermediate ss key wid then Some anomaly.Intermediate else
    (if list_any (is_other_read key wid) before then Some anomaly.Split else None))))

-- that of an internal read, with this as the latest own write before it
abbrev pub internal_fault : ℕ → ℕ → Option ReadAnomaly
internal_fault own wid = if own == wid then None else Some anomaly.OwnWriteMissed

-- that of a read: internal where there is an own write of the key before it, and else external
abbrev pub read_fault : List ClientSession → List Op → List ℕ → ℕ → List Op → Option ℕ
    → Option ReadAnomaly
read_fault ss before key wid behind (Some own) = internal_fault own wid
read_fault ss before key wid behind None = external_fault ss before key wid behind

abbrev pub fault_at : List ClientSession → List Op → Op → List Op → Option ReadAnomaly
fault_at ss before (Read key wid) behind = read_fault ss before key wid behind
    (last_write key before)
fault_at ss before (Write key wid) behind = None

-- ---- all reads

-- an anomaly, where there is one, with its key
abbrev pub with_key : Option ReadAnomaly → List ℕ → List (ReadAnomaly × List ℕ)
with_key None key = []
with_key (Some fault) key = (fault, key) ∷ []

-- those of the operations behind these
abbrev pub faults_behind : List ClientSession → List Op → List Op → List (ReadAnomaly × List ℕ)
faults_behind ss before [] = []
faults_behind ss before (op ∷ behind) = with_key (fault_at ss before op behind) (key_of op)
    ++ faults_behind ss (before ++ op ∷ []) behind

abbrev pub committed_in : List ClientSession → List Transaction
committed_in ss = filter is_committed (txns_in ss)

-- those of transactions
abbrev pub faults_of_txns : List ClientSession → List Transaction → List (ReadAnomaly × List ℕ)
faults_of_txns ss ts = flat_map (λ t. faults_behind ss [] t.ops) ts

-- those of the reads of all committed transactions
unfoldable pub faults_in : List ClientSession → List (ReadAnomaly × List ℕ)
faults_in ss = faults_of_txns ss (committed_in ss)

-- how many of the reads have this anomaly
abbrev pub reads_with : ReadAnomaly → List ClientSession → ℕ
reads_with kind ss = count_by (λ f. read_number f.0 == read_number kind) (faults_in ss)
