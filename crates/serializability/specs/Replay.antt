-- Replay on a plain map, and serial orders.
use Rattle.std.specs.Prelude.{◌≡◌, true, ℕ, suc, ◌<◌, ◌≤◌, ◌==◌, if◌then◌else◌, List, [], ◌∷◌}
use Rattle.std.specs.List.{flat_map, Contains, All, IsDistinct}
use Rattle.std.specs.Bool.{nat_eq}
use Rattle.serializability.specs.declared.event.Event.{Event}
use Rattle.serializability.specs.declared.event.Event.TheVariants.{Read, Write}
use Rattle.serializability.specs.Log.{Log, precedes}

-- a map from keys to identities
abbrev pub Store : Type 0
Store = ℕ → ℕ

abbrev pub empty : Store
empty = λ key. 0

abbrev pub write : Store → ℕ → ℕ → Store
write store k w = λ key. if k == key then w else store key

-- the map after these operations
abbrev pub after : Store → List Event → Store
after store [] = store
after store (Read k w ∷ ops) = after store ops
after store (Write k w ∷ ops) = after (write store k w) ops

-- each read names what the map holds when it comes
abbrev pub Meets : Store → List Event → Type 0
Meets store [] = Unit {0}
Meets store (Read k w ∷ ops) = (store k ≡ w) × Meets store ops
Meets store (Write k w ∷ ops) = Meets (write store k w) ops

-- the place of a node in a line, or the line's length where it is not there
abbrev pub place_of : List ℕ → ℕ → ℕ
place_of [] v = 0
place_of (u ∷ line) v = if u == v then 0 else suc (place_of line v)

-- u stands before v, where node 0 stands before all that the order lists
abbrev pub Before : List ℕ → ℕ → ℕ → Type 0
Before order u v = place_of (0 ∷ order) u < place_of (0 ∷ order) v

-- the order lists nodes 1 to n once each
pub record ListsOnce (n : ℕ) (order : List ℕ) : Type 0 where
  pub only : All (λ v. (0 < v) × (v ≤ n)) order
  pub each : (v : ℕ) → 0 < v → v ≤ n → Contains order v
  pub distinct : IsDistinct nat_eq order

-- the order explains every read, and keeps the order of each session and that of the stated moments
pub record IsSerial (log : Log) (order : List ℕ) : Type 0 where
  pub once : ListsOnce log.nodes order
  pub sessions : (a b : ℕ) → 0 < a → a < b → b ≤ log.nodes → log.session a ≡ log.session b
      → Before order a b
  pub moments : (a b : ℕ) → 0 < a → a ≤ log.nodes → 0 < b → b ≤ log.nodes → precedes log a b ≡ true
      → Before order a b
  pub reads : Meets empty (flat_map log.ops order)
