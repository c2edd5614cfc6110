-- Orders of two chains: those of the choices between chains, and those that a ledger keeps.
use Rattle.std.specs.Prelude.{◌≡◌, ◌<◌, ℕ, List, [], ◌∷◌, ◌++◌, map, slice_get, unwrap_or, Option, None, Some}
use Rattle.std.specs.Borrow.{Bor}
use Rattle.std.specs.List.{flat_map, Contains}
use Rattle.serializability.specs.Log.{Log}
use Rattle.serializability.specs.Polygraph.{Choice, all_keys}
use Rattle.chain_laws.specs.Chains.{chain_choice, heads}
use Rattle.write_chains.specs.Views.{ChainView, chain_view, chain_from, chains_in}
use Rattle.write_chains.specs.declared.chain.Chain.{Chain}
use Rattle.pruning_laws.specs.declared.side.Side.{Side}
use Rattle.pruning_laws.specs.declared.side.Side.TheVariants.{One, Two}
use Rattle.prune_ledger.specs.Posted.{Posted}
use Rattle.tell_proposals.specs.declared.proposal.Step.{Step}
use Rattle.tell_reasons.specs.declared.why.ChainOrder.{ChainOrder}
use Rattle.tell_steps.specs.Steps.{turned}

-- the choice of which this order is side one
abbrev pub choice_of : Log → ChainOrder → Choice
choice_of log o = chain_choice log o.key (o.first, o.second)

-- a chain of the key with this head before another
abbrev pub order_to : ℕ → ℕ → ChainView → ChainOrder
order_to x h other = record { key = x; first = h; second = other.head }

-- each chain before each that comes behind it
abbrev pub orders_among : ℕ → List ChainView → List ChainOrder
orders_among x [] = []
orders_among x (a ∷ rest) = map (order_to x a.head) rest ++ orders_among x rest

-- of each choice between chains, in order, the two chains as its first side has them
unfoldable pub orders_in : Log → List ChainOrder
orders_in log = flat_map (λ x. orders_among x (chains_in log x)) (all_keys log)

-- what is kept where a side is refused
abbrev pub kept_of : Side → ChainOrder → ChainOrder
kept_of One o = turned o
kept_of Two o = o

abbrev pub kept_order : List ChainOrder → Posted → ChainOrder
kept_order orders q = kept_of q.side (unwrap_or (slice_get orders q.choice)
    (record { key = 0; first = 0; second = 0 }))

-- a step, by its order and its walk: that which a post shows
abbrev pub step_view : Step → ChainOrder × List ℕ
step_view s = (s.order, s.walk.items)

abbrev pub shown_by : List ChainOrder → Posted → ChainOrder × List ℕ
shown_by orders q = (kept_order orders q, q.walk)

-- the chain of the key with this head; or there is none
abbrev pub IsChainOf : Log → ℕ → ℕ → Option (Bor Chain) → Type 0
IsChainOf log x h None = x < log.keys → Contains (heads log x) h → ⊥
IsChainOf log x h (Some c) = (x < log.keys) × Contains (heads log x) h
    × (chain_view c.now ≡ chain_from log x h)
