-- What is told behind forced steps: items and cycles.
use Rattle.std.specs.Prelude.{◌≡◌, ℕ, ◌-◌, ◌<◌, ◌==◌, ◌&&◌, nat_lt, Bool, true, false, List, [], ◌∷◌, ◌++◌, length, Option, None, Some, IfSome}
use Rattle.std.specs.List.{All, list_any}
use Rattle.std.specs.Option.{option_map}
use Rattle.session_log.specs.Text.{ClientSession}
use Rattle.log_definitions.specs.Numbers.{log_of}
use Rattle.tell_proposals.specs.declared.proposal.Step.{Step}
use Rattle.tell_reasons.specs.declared.why.ChainOrder.{ChainOrder}
use Rattle.tell_reasons.specs.declared.why.Why.TheVariants.{Forced}
use Rattle.tell_steps.specs.declared.item.Item.{Item}
use Rattle.tell_steps.specs.declared.item.Item.TheVariants as item
use Rattle.tell_steps.specs.declared.rounds.Round.{Round}
use Rattle.tell_steps.specs.Steps.{IsOrder}
use Rattle.tell_steps.specs.Lines.{IsRound, LineStands}
use Rattle.tell_steps.specs.Ledgers.{orders_of}
use Rattle.tell_steps.specs.Told.{IsRoundTold, AreStepsTold}

-- items, what is decided, and the line of a cycle, where there is one
pub record RoundView : Type 0 where
  pub before : List Item
  pub decided : List ChainOrder
  pub line : Option (List ℕ)

abbrev pub round_view : Round → RoundView
round_view r = record {
  before = r.before.items;
  decided = r.decided.items;
  line = option_map (λ l. l.items) r.line;
}

-- the decided orders are of two chains, and the line closes and rests on these steps and on them
pub record RoundStands (ss : List ClientSession) (steps : List ChainOrder) (r : RoundView)
    : Type 0 where
  pub decided : All (IsOrder (log_of ss)) r.decided
  pub round : IfSome r.line IsRound
  pub rests : IfSome r.line (LineStands ss steps r.decided)

abbrev pub AllStand : List ClientSession → List ChainOrder → List Round → Type 0
AllStand ss steps rounds = All (λ r. RoundStands ss steps (round_view r)) rounds

-- the cycle, where there is one
abbrev pub IsLeafTold : List ClientSession → List ChainOrder → List ChainOrder → Option (List ℕ)
    → List Item → Type 0
IsLeafTold ss steps decided None items = items ≡ []
IsLeafTold ss steps decided (Some line) items = IsRoundTold ss steps decided line items

pub record IsRoundPut (ss : List ClientSession) (steps : List ChainOrder) (r : RoundView)
    (items : List Item) : Type 0 where
  pub cycle : List Item
  pub whole : items ≡ r.before ++ cycle
  pub leaf : IsLeafTold ss steps r.decided r.line cycle

-- each of these, one behind the other
abbrev pub AreRoundsTold : List ClientSession → List ChainOrder → List RoundView → List Item
    → Type 0
AreRoundsTold ss steps [] items = items ≡ []
AreRoundsTold ss steps (r ∷ rs) items =
    (own : List Item) × (rest : List Item) × IsRoundPut ss steps r own
    × AreRoundsTold ss steps rs rest × (items ≡ own ++ rest)

-- the steps, and then the rounds
pub record AreAllTold (ss : List ClientSession) (steps : List Step) (rounds : List RoundView)
    (items : List Item) : Type 0 where
  pub before : List Item
  pub after : List Item
  pub walks : AreStepsTold ss [] steps before
  pub rounds_told : AreRoundsTold ss (orders_of steps) rounds after
  pub whole : items ≡ before ++ after

-- an edge that stands by step k, from 0, of which the number is k + 1
abbrev pub is_naming : ℕ → Item → Bool
is_naming k (item.Edge a b (Forced n o)) = nat_lt 0 n && (n - 1) == k
is_naming k _ = false

abbrev pub is_named : List Item → ℕ → Bool
is_named items k = list_any (is_naming k) items

-- steps, and the rounds behind them; and by each of the steps an edge among the items stands: of a
-- later step's walk, or of a cycle
pub record IsTold (ss : List ClientSession) (rounds : List RoundView) (items : List Item)
    : Type 0 where
  pub steps : List Step
  pub told : AreAllTold ss steps rounds items
  pub needed : (k : ℕ) → k < length steps → is_named items k ≡ true

-- a cycle alone
abbrev pub cycle_round : List ℕ → RoundView
cycle_round line = record { before = []; decided = []; line = Some line }

-- steps that end in a cycle, each of which is needed
pub record IsDeadTold (ss : List ClientSession) (items : List Item) : Type 0 where
  pub line : List ℕ
  pub told : IsTold ss (cycle_round line ∷ []) items
