-- What is told of lines and steps.
use Rattle.std.specs.Prelude.{◌≡◌, ℕ, ◌+◌, List, [], ◌∷◌, ◌++◌, length}
use Rattle.session_log.specs.Text.{ClientSession}
use Rattle.serializability.specs.Log.{Log}
use Rattle.serializability.specs.Polygraph.{Edge}
use Rattle.log_definitions.specs.Numbers.{log_of}
use Rattle.tell_proposals.specs.declared.proposal.Step.{Step}
use Rattle.tell_reasons.specs.declared.why.ChainOrder.{ChainOrder}
use Rattle.tell_steps.specs.declared.item.Item.{Item}
use Rattle.tell_steps.specs.declared.item.Item.TheVariants as item
use Rattle.tell_steps.specs.Steps.{IsOrder, turned, Follows, IsLineTold}
use Rattle.tell_steps.specs.Lines.{HasEnds, IsRound}

-- a line that closes is told as a cycle
pub record IsRoundTold (ss : List ClientSession) (steps decided : List ChainOrder) (line : List ℕ)
    (items : List Item) : Type 0 where
  pub round : IsRound line
  pub edges : List Item
  pub told : IsLineTold ss steps decided line edges
  pub whole : items ≡ item.Cycle round.start (length round.ends.inner + 1) ∷ edges

-- the order is of two chains, the edge follows from the other way round, and the walk leads against it
pub record IsRight (log : Log) (s : Step) (e : Edge) : Type 0 where
  pub two_chains : IsOrder log s.order
  pub refuted : Follows log (turned s.order) e
  pub ends : HasEnds e.1 e.0 s.walk.items

-- a step's item, and those of its walk
pub record IsStepTold (ss : List ClientSession) (steps : List ChainOrder) (s : Step)
    (items : List Item) : Type 0 where
  pub edge : Edge
  pub right : IsRight (log_of ss) s edge
  pub against : List Item
  pub line : IsLineTold ss steps [] s.walk.items against
  pub whole : items ≡ item.Step (length steps + 1) s.order edge.0 edge.1 ∷ against

-- Steps, told one behind the other, behind these orders: from the other way round of each an edge
-- (u, v) follows, against which a walk leads from v to u, each edge of which has a reason of its own
-- or stands in an earlier step.
abbrev pub AreStepsTold : List ClientSession → List ChainOrder → List Step → List Item → Type 0
AreStepsTold ss earlier [] items = items ≡ []
AreStepsTold ss earlier (s ∷ steps) items =
    (own : List Item) × (rest : List Item) × IsStepTold ss earlier s own
    × AreStepsTold ss (earlier ++ s.order ∷ []) steps rest × (items ≡ own ++ rest)
