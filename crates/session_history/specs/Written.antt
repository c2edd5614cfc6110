-- A table of the writes of a log by their identities.
use Rattle.std.specs.Prelude.{◌≡◌, ℕ, ◌+◌, ◌==◌, ◌&&◌, ◌||◌, Bool, false, List, [], ◌∷◌, Option, None, Some, is_some, slice_index}
use Rattle.std.specs.List.{list_any}
use Rattle.std.specs.Option.{option_map_or}
use Rattle.std.specs.Ordering.{nat_cmp}
use Rattle.std.specs.BTreeMap.{get}
use Rattle.serializability.specs.declared.event.Event.{Event}
use Rattle.serializability.specs.declared.event.Event.TheVariants as event
use Rattle.serializability.specs.Reads.{last_write}
use Rattle.serializability.specs.Anomalies.{writes_as}
use Rattle.log_definitions.specs.WellFormed.{repeated}
use Rattle.session_history.specs.declared.writes.Written.{Written}
use Rattle.session_history.specs.declared.writes.Writes.{Writes}

-- what the table has at an identity
abbrev pub entry_of : Writes → ℕ → Option Written
entry_of t w = get nat_cmp t.table w

-- the entry is a write of x by this node, where 0 stands for the aborted transactions
abbrev pub is_write : ℕ → ℕ → Option Written → Bool
is_write x v None = false
is_write x v (Some r) = (r.key == x) && (r.node == v)

-- it is so, and the last write of x in its transaction
abbrev pub is_last_write : ℕ → ℕ → Option Written → Bool
is_last_write x v None = false
is_last_write x v (Some r) = ((r.key == x) && (r.node == v)) && r.last

-- the last write of x in these operations is w
abbrev pub ends_with : ℕ → ℕ → List Event → Bool
ends_with x w ops = option_map_or (λ y. y == w) (last_write x ops) false

-- The identities that are written here, each with its line, where the first operation stands in
-- line n.
abbrev pub writes_at : ℕ → List Event → List (ℕ × ℕ)
writes_at n [] = []
writes_at n (event.Read x w ∷ ops) = writes_at (n + 1) ops
writes_at n (event.Write x w ∷ ops) = (n, w) ∷ writes_at (n + 1) ops

-- Of these writes, by their lines, the first that was written before is known, and while there is
-- none the table has each identity.
pub record HasSeen (lines : List (ℕ × ℕ)) (t : Writes) : Type 0 where
  pub twice : t.twice ≡ repeated [] lines
  pub seen : t.twice ≡ None → (w : ℕ) → is_some (entry_of t w) ≡ list_any (λ p. w == p.1) lines

-- While no identity was written twice, the table has the writes of these transactions, each with
-- its node, or with 0 where it was aborted.
pub record HasWrites (txns : List (ℕ × List Event)) (t : Writes) : Type 0 where
  pub writes : t.twice ≡ None → (x w v : ℕ) → is_write x v (entry_of t w) ≡ list_any
      (λ p. (p.0 == v) && writes_as x w p.1) txns
  pub lasts : t.twice ≡ None → (x w v : ℕ) → is_last_write x v (entry_of t w) ≡ list_any
      (λ p. (p.0 == v) && ends_with x w p.1) txns

-- While a transaction of this node is taken in, with these operations in front, each last identity
-- is kept.
pub record IsTaking (txns : List (ℕ × List Event)) (node : ℕ) (all front : List Event)
    (t : Writes) : Type 0 where
  pub writes : t.twice ≡ None → (x w v : ℕ) → is_write x v
      (entry_of t w) ≡ (list_any (λ p. (p.0 == v) && writes_as x w p.1) txns ||
      ((node == v) && writes_as x w front))
  pub lasts : t.twice ≡ None → (x w v : ℕ) → is_last_write x v
      (entry_of t w) ≡ (list_any (λ p. (p.0 == v) && ends_with x w p.1) txns ||
      ((node == v) && (writes_as x w front && ends_with x w all)))
  pub kept : (x w : ℕ) → last_write x all ≡ Some w → slice_index t.lasts.items x ≡ w
