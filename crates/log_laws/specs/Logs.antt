-- What is asked of a log of any length.
use Rattle.std.specs.Prelude.{◌≡◌, ◌≢◌, ℕ, Bool, true, false, nat_eq, List, [], ◌∷◌, map}
use Rattle.std.specs.List.{filter, AllByRecursion, IsDistinct}
use Rattle.session_log.specs.Moments.{is_earlier}
use Rattle.session_log.specs.Text.{ClientSession, Transaction, IsLegal}
use Rattle.session_log.specs.declared.session.Outcome.TheVariants.{Unknown}
use Rattle.log_definitions.specs.Unknown.{txns_in, ops_in}
use Rattle.log_definitions.specs.WellFormed.{written}
use Rattle.log_definitions.specs.Serial.{IsSerialOrder}

-- What is asked of a log of any length: sessions have numbers of their own, no identity is written
-- twice and 0 not at all, and no transaction ended before it began.
pub record IsSoundLog (ss : List ClientSession) : Type 0 where
  pub sessions : IsDistinct nat_eq (map (λ s. s.number) ss)
  pub writes : IsDistinct nat_eq (0 ∷ written (ops_in ss))
  pub ordered : AllByRecursion (λ t. is_earlier t.ended t.begun ≡ false) (txns_in ss)

-- each outcome is known
abbrev pub IsLearntLog : List ClientSession → Type 0
IsLearntLog ss = AllByRecursion (λ t. t.outcome ≢ Unknown) (txns_in ss)

abbrev pub HasOrder : List ClientSession → Type 0
HasOrder ss = (order : List ℕ) × IsSerialOrder ss order

-- what can be judged by itself
pub record IsLog (ss : List ClientSession) : Type 0 where
  pub legal : AllByRecursion IsLegal ss
  pub sound : IsSoundLog ss
  pub learnt : IsLearntLog ss

-- the sessions that have transactions
abbrev pub has_txns : List Transaction → Bool
has_txns [] = false
has_txns (t ∷ ts) = true

abbrev pub present : List ClientSession → List ClientSession
present ss = filter (λ s. has_txns s.txns) ss
