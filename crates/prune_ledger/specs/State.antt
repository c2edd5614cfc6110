-- What contracts see of the machine.
use Rattle.std.specs.Prelude.{List, Bool}
use Rattle.serializability.specs.Polygraph.{Choice}
use Rattle.reach_laws.specs.Reach.{Graph}
use Rattle.prune_ledger.specs.declared.messages.ChoiceState.{ChoiceState}

-- the choices, the known edges with those of the sides kept so far, what is noted of each choice,
-- and whether some choice has both sides refused
pub record State : Type 0 where
  pub choices : List Choice
  pub graph : Graph
  pub marks : List ChoiceState
  pub dead : Bool
