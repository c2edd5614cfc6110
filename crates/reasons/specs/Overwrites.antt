-- The least key that two nodes read alike and the second writes.
use Rattle.std.specs.Prelude.{◌≡◌, ℕ, ◌<◌, ◌≤◌, slice_get, Option, None, Some}
use Rattle.serializability.specs.declared.event.Event.{Event}
use Rattle.serializability.specs.declared.event.Event.TheVariants as event
use Rattle.serializability.specs.Log.{Log}
use Rattle.serializability.specs.Polygraph.{source}
use Rattle.reasons.specs.declared.operations.KeyWrite.{KeyWrite}

-- both nodes read the key externally, and from one node
pub record ReadsAlike (log : Log) (a b x : ℕ) : Type 0 where
  pub from : ℕ
  pub first : source log a x ≡ Some from
  pub second : source log b x ≡ Some from

-- the key is less than that of the write, if there is one
abbrev pub IsBelow : ℕ → Option KeyWrite → Type 0
IsBelow x None = Unit {0}
IsBelow x (Some o) = x < o.key

-- the operation writes such a key that both read alike
abbrev pub IsLess : Log → ℕ → ℕ → Option KeyWrite → Event → Type 0
IsLess log a b least (event.Read x w) = ⊥
IsLess log a b least (event.Write x w) = IsBelow x least × ReadsAlike log a b x

-- b writes there a key that both read alike
pub record IsAlikeWrite (log : Log) (a b : ℕ) (o : KeyWrite) : Type 0 where
  pub wid : ℕ
  pub stands : slice_get (log.ops b) o.place ≡ Some (event.Write o.key wid)
  pub alike : ReadsAlike log a b o.key

-- the key is not less, and if it is the same, the place is not earlier
abbrev pub IsUpTo : Option KeyWrite → ℕ → ℕ → Type 0
IsUpTo None x k = ⊥
IsUpTo (Some o) x k = (o.key ≤ x) × (o.key ≡ x → o.place ≤ k)

-- the least key that both read alike of what b writes before operation n, and where b first does
pub record IsLeastWrite (log : Log) (a b n : ℕ) (least : Option KeyWrite) : Type 0 where
  pub own : (o : KeyWrite) → least ≡ Some o → (o.place < n) × IsAlikeWrite log a b o
  pub all : (k x w : ℕ) → k < n → slice_get (log.ops b) k ≡ Some (event.Write x w)
      → ReadsAlike log a b x → IsUpTo least x k
