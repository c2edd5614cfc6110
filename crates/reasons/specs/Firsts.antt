-- Operations on numbered keys: which of them read what, and the first read of a key in a node.
use Rattle.std.specs.Prelude.{◌≡◌, ℕ, ◌≤◌, List, Some, ◌<◌, ◌==◌, Bool, false, slice_get}
use Rattle.session_log.specs.Text.{ClientSession}
use Rattle.session_log.specs.declared.session.Op.TheVariants.{Read}
use Rattle.serializability.specs.Log.{Log}
use Rattle.serializability.specs.Reads.{IsFinal}
use Rattle.serializability.specs.Polygraph.{source}
use Rattle.log_definitions.specs.WellFormed.{keys_in}
use Rattle.log_definitions.specs.Numbers.{number_in, log_of}
use Rattle.reason_laws.specs.Reasons.{IsOpAt, ReadsAt}
use Rattle.reason_laws.specs.declared.crossing.PairRead.{PairRead}
use Rattle.serializability.specs.declared.event.Event.{Event}
use Rattle.serializability.specs.declared.event.Event.TheVariants as event
use Rattle.serializability.specs.Anomalies.{is_write_of}

-- the first is a read that names the second, which is a write
abbrev pub names : Event → Event → Bool
names (event.Read x w) e = is_write_of x w e
names (event.Write x w) e = false

abbrev pub is_read_of : ℕ → Event → Bool
is_read_of x (event.Read k w) = k == x
is_read_of x (event.Write k w) = false

-- none of the operations before place n is such
pub record NoneBefore (P : Event → Type 0) (ops : List Event) (n : ℕ) : Type 0 where
  pub none : (k : ℕ) (e : Event) → k < n → slice_get ops k ≡ Some e → P e → ⊥

-- the node reads the key before any own write of it
abbrev pub HasSource : Log → ℕ → ℕ → Type 0
HasSource log v x = (u : ℕ) × (source log v x ≡ Some u)

-- operation i of node v reads the key of this number as the node does that v reads it from, and no
-- earlier one reads the key
pub record IsFirstRead (ss : List ClientSession) (v x i : ℕ) : Type 0 where
  pub reads : (key : List ℕ) (u w : ℕ) → number_in (keys_in ss) key ≡ x
      → source (log_of ss) v x ≡ Some u → IsFinal (log_of ss) u x w → ReadsAt ss v i key w
  pub first : (key : List ℕ) (j w : ℕ) → number_in (keys_in ss) key ≡ x
      → IsOpAt ss v j (Read key w) → i ≤ j

-- the node's first reads of the keys of these numbers
pub record IsPairOf (ss : List ClientSession) (v x y : ℕ) (p : PairRead) : Type 0 where
  pub node : p.node ≡ v
  pub first : IsFirstRead ss v x p.first
  pub second : IsFirstRead ss v y p.second
