-- The next number in a set of bits.
use Rattle.std.specs.Prelude.{◌≡◌, ℕ, ◌<◌, ◌≤◌, true, false, List}
use Rattle.known_graph.specs.Bits.{bit_of}

-- k is the least number from `from` on whose bit is set
pub record IsNext (words : List ℕ) (from k : ℕ) : Type 0 where
  pub past : from ≤ k
  pub set : bit_of words k ≡ true
  pub first : (j : ℕ) → from ≤ j → j < k → bit_of words j ≡ false

-- there is none
pub record NoneFrom (words : List ℕ) (from : ℕ) : Type 0 where
  pub clear : (j : ℕ) → from ≤ j → bit_of words j ≡ false
