-- The texts that `check` writes.
use Rattle.std.specs.Prelude.{ℕ, List, [], ◌∷◌, ◌++◌, codes, decimal, slice_get, unwrap_or}
use Rattle.std.specs.List.{flat_map}
use Rattle.session_log.specs.Text.{ClientSession}
use Rattle.serializability.specs.declared.anomaly.Anomaly.{Anomaly}
use Rattle.serializability.specs.declared.anomaly.Anomaly.TheVariants as anomaly
use Rattle.serializability.specs.declared.anomaly.ReadAnomaly.{ReadAnomaly}
use Rattle.serializability.specs.declared.anomaly.ReadAnomaly.TheVariants as read
use Rattle.log_definitions.specs.WellFormed.{keys_in}
use Rattle.session_history.specs.Tables.{name_in}
use Rattle.order_text.specs.Text.{name_text, order_text}

-- a word, and the name of a node
abbrev pub named : List ℕ → List ClientSession → ℕ → List ℕ
named word ss v = word ++ name_text (name_in ss v)

-- the number and the name of an anomaly of a read
abbrev pub read_title : ReadAnomaly → List ℕ
read_title read.Unknown = codes "A1 unknown read"
read_title read.Aborted = codes "A2 aborted read"
read_title read.Intermediate = codes "A3 intermediate read"
read_title read.OwnWriteMissed = codes "A4 own write missed"
read_title read.Future = codes "A5 future read"
read_title read.Split = codes "A6 split read"

-- the bytes of a key
unfoldable pub key_bytes : List ClientSession → ℕ → List ℕ
key_bytes ss x = unwrap_or (slice_get (keys_in ss) x) []

abbrev pub read_text : List ClientSession → ReadAnomaly → ℕ → ℕ → List ℕ
read_text ss kind v op = codes "not serializable: " ++ read_title kind ++ named
    (codes " at ") ss v ++ codes " op " ++ decimal op ++ 10 ∷ []

abbrev pub lost_text : List ClientSession → ℕ → ℕ → ℕ → ℕ → List ℕ
lost_text ss x u a b =
    codes "not serializable: A7 lost update of " ++ key_bytes ss x ++ named
    (codes " from ") ss u ++ named (codes " by ") ss a ++ named (codes " and ") ss b ++ 10 ∷ []

abbrev pub anomaly_text : List ClientSession → Anomaly → List ℕ
anomaly_text ss (anomaly.Read kind v op) = read_text ss kind v op
anomaly_text ss (anomaly.LostUpdate x u a b) = lost_text ss x u a b

-- the nodes of a cycle, each after a space
unfoldable pub nodes_text : List ClientSession → List ℕ → List ℕ
nodes_text ss line = flat_map (named (32 ∷ []) ss) line

abbrev pub cycle_text : List ClientSession → List ℕ → List ℕ
cycle_text ss line = codes "not serializable: A8 cycle of known edges\ncycle" ++ nodes_text ss line
    ++ 10 ∷ []

abbrev pub dead_text : List ℕ
dead_text = codes "not serializable: A9 pruning ends in a cycle\n"

abbrev pub serial_text : List ClientSession → List ℕ → List ℕ
serial_text ss order = codes "serializable\n" ++ order_text ss order

abbrev pub refuted_text : List ℕ
refuted_text = codes "not serializable: every cube is refuted\n"

abbrev pub spent_text : ℕ → List ℕ
spent_text closed = codes "unknown: " ++ decimal closed ++ codes " closed\n"
