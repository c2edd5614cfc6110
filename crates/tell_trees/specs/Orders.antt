-- Orders of chains by the numbers of choices, and what a search looks at.
use Rattle.std.specs.Prelude.{◌≡◌, ℕ, ◌+◌, ◌<◌, ◌==◌, if◌then◌else◌, List, [], ◌∷◌, Bool, false, length, map, slice_index_or}
use Rattle.std.specs.List.{All, list_any}
use Rattle.serializability.specs.Log.{Log}
use Rattle.serializability.specs.Polygraph.{Choice}
use Rattle.pruning_laws.specs.declared.side.Side.{Side}
use Rattle.pruning_laws.specs.declared.side.Side.TheVariants.{One, Two}
use Rattle.pruning_laws.specs.Ledger.{Entry}
use Rattle.prune_ledger.specs.declared.ledger.LedgerEntry.{LedgerEntry}
use Rattle.tell_reasons.specs.declared.why.ChainOrder.{ChainOrder}
use Rattle.tell_steps.specs.Orders.{choice_of}
use Rattle.tell_steps.specs.Steps.{turned, IsOrder}

-- the orders are side one of these choices, one by one
pub record AreOrdersOf (log : Log) (choices : List Choice) (orders : List ChainOrder) : Type 0 where
  pub sides : map (choice_of log) orders ≡ choices
  pub each : All (IsOrder log) orders

-- whether an entry speaks of the choice
abbrev pub names_choice : List LedgerEntry → ℕ → Bool
names_choice entries c = list_any (λ x. x.post.choice == c) entries

-- so many flags, each of which says whether an entry speaks of its choice
pub record AreFlags (choices : ℕ) (entries : List LedgerEntry) (flags : List Bool) : Type 0 where
  pub count : length flags ≡ choices
  pub each : (c : ℕ) → c < choices → slice_index_or flags c false ≡ names_choice entries c

-- the orders whose choices no entry speaks of, where these are numbered from c
abbrev pub unsettled_from : List LedgerEntry → ℕ → List ChainOrder → List ChainOrder
unsettled_from entries c [] = []
unsettled_from entries c (o ∷ os) = if names_choice entries c then unsettled_from entries
    (c + 1) os else o ∷ unsettled_from entries (c + 1) os

-- the order of the chains by a side of the choice of which this is side one
abbrev pub sided : Side → ChainOrder → ChainOrder
sided One o = o
sided Two o = turned o

-- of no chains
abbrev pub no_order : ChainOrder
no_order = record { key = 0; first = 0; second = 0 }

-- the order that a decision of a choice makes
abbrev pub order_at : List ChainOrder → Entry → ChainOrder
order_at orders d = sided d.1 (slice_index_or orders d.0 no_order)
