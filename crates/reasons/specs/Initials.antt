-- Who reads a key from the chain of its initial value.
use Rattle.std.specs.Prelude.{◌≡◌, ℕ, zero, suc, List, length, Bool, true, slice_get, None, Some}
use Rattle.serializability.specs.Log.{Log}
use Rattle.serializability.specs.Polygraph.{source}
use Rattle.serializability.specs.declared.event.Event.{Event}
use Rattle.serializability.specs.declared.event.Event.TheVariants as event
use Rattle.reasons.specs.declared.operations.KeyWrite.{KeyWrite}
use Rattle.reasons.specs.Firsts.{NoneBefore}

-- so many steps back along the sources of the key lead from v to node 0
abbrev pub IsBackIn : Log → ℕ → ℕ → ℕ → Type 0
IsBackIn log x zero v = v ≡ 0
IsBackIn log x (suc steps) v = (u : ℕ) × ((source log v x ≡ Some u) × IsBackIn log x steps u)

-- v reads the key from node 0, or from a writer of the chain that begins with it
pub record FollowsInitial (log : Log) (x v : ℕ) : Type 0 where
  pub steps : ℕ
  pub back : IsBackIn log x (suc steps) v

-- b reads the key from nobody, and a follows its initial value
abbrev pub IsBegun : Log → ℕ → ℕ → ℕ → Type 0
IsBegun log a b x = (source log b x ≡ None) × FollowsInitial log x a

-- the operation of b, which reads the key from nobody, writes it, and a follows its initial value
abbrev pub IsBeginning : Log → ℕ → ℕ → Event → Type 0
IsBeginning log a b (event.Read x w) = ⊥
IsBeginning log a b (event.Write x w) = IsBegun log a b x

-- this write of b is the first that does
pub record BeginsAt (log : Log) (a b : ℕ) (o : KeyWrite) : Type 0 where
  pub wid : ℕ
  pub stands : slice_get (log.ops b) o.place ≡ Some (event.Write o.key wid)
  pub begun : IsBegun log a b o.key
  pub first : NoneBefore (IsBeginning log a b) (log.ops b) o.place

-- a mark for each key: a write of a marked one begins no chain
pub record ArePlain (log : Log) (a b : ℕ) (plain : List Bool) : Type 0 where
  pub count : length plain ≡ log.keys
  pub none : (x : ℕ) → slice_get plain x ≡ Some true → IsBegun log a b x → ⊥
