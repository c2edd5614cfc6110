-- The opening state.
use Rattle.std.specs.Prelude.{List, false, length, replicate, map}
use Rattle.serializability.specs.Polygraph.{Choice}
use Rattle.reach_laws.specs.Reach.{Graph}
use Rattle.prune_ledger.specs.State.{State}
use Rattle.prune_ledger.specs.declared.messages.ChoiceState.{ChoiceState}

abbrev pub no_mark : ChoiceState
no_mark = record { one = false; two = false; handed = false }

-- nothing is refused or handed out
abbrev pub opening_state : List Choice → Graph → State
opening_state choices graph = record {
  choices = choices;
  graph = graph;
  marks = replicate
      (length choices) no_mark;
  dead = false;
}

abbrev pub given_back : ChoiceState → ChoiceState
given_back m = record m { handed = false }

-- the first state of a further round: nothing is handed out
abbrev pub reopened_state : State → State
reopened_state s = record s { marks = map given_back s.marks }
