-- An answer that is being read.
use Rattle.std.specs.Prelude.{◌≡◌, ℕ, Bool, if◌then◌else◌, List, ◌++◌, map, Option, Some, None, Result, Ok, Err, OnOk}
use Rattle.std.specs.List.{range_with_len}
use Rattle.dimacs.specs.declared.answer.AnswerFault.{AnswerFault}
use Rattle.dimacs.specs.declared.reading.Reading.{Reading}
use Rattle.dimacs.specs.Words.{Item}
use Rattle.dimacs.specs.Answer.{mentions, status, is_closed, line_fault}

-- which variables stand in the items with this sign
abbrev pub signs : ℕ → Bool → List Item → List Bool
signs vars positive items = map (λ v. mentions (record { variable = v; positive = positive }) items)
    (range_with_len 1 vars)

-- which variables have stood with this sign, as it is kept
abbrev pub marks : Reading → Bool → List Bool
marks reading positive = if positive then reading.trues.items else reading.falses.items

-- what is known after these items, in an answer for so many variables
pub record Knows (vars : ℕ) (items : List Item) (reading : Reading) : Type 0 where
  pub claimed : reading.status ≡ status items
  pub marked : (positive : Bool) → marks reading positive ≡ signs vars positive items
  pub ended : reading.closed ≡ is_closed items

-- the fault that a call answered
abbrev pub fault_in : {X : Type 0} → Result X AnswerFault → Option AnswerFault
fault_in (Ok _) = None
fault_in (Err f) = Some f

-- what came of taking the next items of a line: their first fault, or what is then known
pub record Takes (vars : ℕ) (before : List Item) (line : ℕ) (items : List Item)
    (result : Result (Unit {0}) AnswerFault) (new : Reading) : Type 0 where
  pub fault : fault_in result ≡ line_fault vars before line items
  pub known : OnOk result (Knows vars (before ++ items) new)
