-- Cycles of three nodes, and words of bits that say of which nodes they are open.
use Rattle.std.specs.Prelude.{◌≡◌, ◌↔◌, ℕ, ◌+◌, ◌*◌, ◌<◌, ◌≤◌, ◌==◌, ◌&&◌, Bool, true, not, nat_le}
use Rattle.std.specs.List.{Contains}
use Rattle.std.specs.Int.{bit_at}
use Rattle.reach_laws.specs.Reach.{Graph}
use Rattle.order_cnf.specs.Tables.{Relation, known_in}
use Rattle.order_cnf.specs.declared.open_pairs.OpenPairs.{OpenPairs}

-- k is a node, and of no edge of the cycle u, v, k it is known that it is so
unfoldable pub is_open_cycle : Relation → ℕ → ℕ → ℕ → Bool
is_open_cycle r u v k = nat_le k r.nodes && (not (known_in r u v) &&
    (not (known_in r v k) && not (known_in r k u)))

-- and it is none of the nodes before `from`
unfoldable pub is_open_from : Relation → ℕ → ℕ → ℕ → ℕ → Bool
is_open_from r u v from k = is_open_cycle r u v k && nat_le from k

-- the bits of a word say of which of the 64 numbers from 64 * place on p holds
pub record IsWord (p : ℕ → Bool) (place word : ℕ) : Type 0 where
  pub bits : (b : ℕ) → b < 64 → (bit_at word b == 1) ≡ p (place * 64 + b)

-- the bits of a table of nodes 0 to n say of which pairs f holds
pub record IsPairTable (n : ℕ) (f : ℕ → ℕ → Bool) (table : Graph) : Type 0 where
  pub nodes : table.nodes ≡ n
  pub bits : (u v : ℕ) → u ≤ n → (Contains table.edges (u, v) ↔ ((nat_le v n && f u v) ≡ true))

-- the pairs of which it is not known that the first stands before the second
pub record AreOpenPairs (r : Relation) (pairs : OpenPairs) : Type 0 where
  pub first : IsPairTable r.nodes (λ u v. not (known_in r u v)) pairs.by_first
  pub second : IsPairTable r.nodes (λ v u. not (known_in r u v)) pairs.by_second
