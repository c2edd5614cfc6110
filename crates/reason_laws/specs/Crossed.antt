-- Reads that no serial order has: four transactions read all four pairs of two versions of a key
-- and two of another. Whichever version of each key came first, two of the four saw the two keys
-- change in opposite orders: a long fork (Sovran et al. 2011; Elle's G-nonadjacent-item).
use Rattle.std.specs.Prelude.{◌≢◌, ℕ, List}
use Rattle.session_log.specs.Text.{ClientSession}
use Rattle.reason_laws.specs.Reasons.{IsNode, ReadsAt}
use Rattle.reason_laws.specs.declared.crossing.Crossing.{Crossing}
use Rattle.reason_laws.specs.declared.crossing.PairRead.{PairRead}

-- the transaction reads these versions of two keys, each before any own write of the key
pub record ReadsPair (ss : List ClientSession) (p : PairRead) (key : List ℕ) (wid : ℕ)
    (other : List ℕ) (beside : ℕ) : Type 0 where
  pub node : IsNode ss p.node
  pub first : ReadsAt ss p.node p.first key wid
  pub second : ReadsAt ss p.node p.second other beside

-- they read all four pairs of two versions of the first key and two of the second
pub record AreCrossed (ss : List ClientSession) (c : Crossing) : Type 0 where
  pub first : List ℕ
  pub second : List ℕ
  pub one : ℕ
  pub two : ℕ
  pub apart : one ≢ two
  pub this : ℕ
  pub that : ℕ
  pub apart_too : this ≢ that
  pub one_one : ReadsPair ss c.one_one first one second this
  pub one_two : ReadsPair ss c.one_two first one second that
  pub two_one : ReadsPair ss c.two_one first two second this
  pub two_two : ReadsPair ss c.two_two first two second that
