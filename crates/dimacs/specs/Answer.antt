-- A solver's answer: its faults, its status and the assignment that it names.
use Rattle.std.specs.Prelude.{◌≡◌, ℕ, ◌+◌, ◌-◌, ◌^◌, Bool, true, false, not, ◌&&◌, if◌then◌else◌, ◌==◌, nat_lt, List, [], ◌∷◌, ◌++◌, length, map, filter_map, slice_index_or, slice_get, Option, Some, None, is_some}
use Rattle.std.specs.Bool.{beq}
use Rattle.std.specs.List.{list_any, flat_map, range_with_len}
use Rattle.std.specs.Option.{option_or}
use Rattle.serializability.specs.declared.literal.Literal.{Literal}
use Rattle.dimacs.specs.declared.status.Status.{Status}
use Rattle.dimacs.specs.declared.status.Status.TheVariants.{Satisfiable, Unsatisfiable, Unknown}
use Rattle.dimacs.specs.declared.answer.SolverAnswer.{SolverAnswer}
use Rattle.dimacs.specs.declared.answer.SolverAnswer.TheVariants as answer
use Rattle.dimacs.specs.declared.answer.AnswerFault.{AnswerFault}
use Rattle.dimacs.specs.declared.answer.AnswerFault.TheVariants.{BadLine, TwoStatus, NoStatus, OutOfRange, BothSigns, Unclosed, Memory, TooLong}
use Rattle.dimacs.specs.Words.{Item, Claim, Given, Zero, Broken, lines_of, line_items}

-- all that a text says, in order
unfoldable pub items_of : List ℕ → List Item
items_of text = flat_map line_items (lines_of text)

-- ---- what items say together
-- the status that an item claims
abbrev pub claim_of : Item → Option Status
claim_of (Claim s) = Some s
claim_of _ = None

-- the status; a text without a fault has one
abbrev pub status : List Item → Option Status
status items = slice_get (filter_map claim_of items) 0

-- the item is this literal
abbrev pub is_given : Literal → Item → Bool
is_given l (Given m) = l.variable == m.variable && beq l.positive m.positive
is_given l _ = false

-- the literal stands among the items
abbrev pub mentions : Literal → List Item → Bool
mentions l items = list_any (is_given l) items

-- the same variable with the other sign
abbrev pub opposite : Literal → Literal
opposite l = record { variable = l.variable; positive = not l.positive }

-- the variable of a literal, or 0 for a zero
abbrev pub number_of : Item → Option ℕ
number_of (Given l) = Some l.variable
number_of Zero = Some 0
number_of _ = None

-- the last number of all is 0
abbrev pub is_closed : List Item → Bool
is_closed items =
    let numbers = filter_map number_of items in
    slice_index_or numbers (length numbers - 1) 1 == 0

-- ---- faults
-- the fault of an item at this line, where those before it have none, in an answer for so many
-- variables
unfoldable pub item_fault : ℕ → List Item → ℕ → Item → Option AnswerFault
item_fault vars before line Broken = Some (BadLine line)
item_fault vars before line (Claim s) = if is_some (status before) then Some
    (TwoStatus line) else None
item_fault vars before line (Given l) =
    if nat_lt vars l.variable then Some (OutOfRange line) else
    (if mentions (opposite l) before then Some (BothSigns line) else None)
item_fault vars before line Zero = None

-- the first fault of the items of one line, behind others
abbrev pub line_fault : ℕ → List Item → ℕ → List Item → Option AnswerFault
line_fault vars before line [] = None
line_fault vars before line (i ∷ items) = option_or (item_fault vars before line i)
    (line_fault vars (before ++ i ∷ []) line items)

-- the first fault of these lines, behind other items, the first of them line n
abbrev pub first_fault : ℕ → List Item → ℕ → List (List ℕ) → Option AnswerFault
first_fault vars before n [] = None
first_fault vars before n (l ∷ ls) =
    option_or (line_fault vars before n (line_items l))
    (first_fault vars (before ++ line_items l) (n + 1) ls)

-- the fault that shows at the end, by whether the last number is 0 and by the status
abbrev pub end_fault : ℕ → Bool → Option Status → Option AnswerFault
end_fault vars closed None = Some NoStatus
end_fault vars closed (Some Satisfiable) = if nat_lt 0 vars && not closed then Some Unclosed else
    None
end_fault vars closed (Some _) = None

-- the assignment that items name: variables that they do not mention are false
abbrev pub assignment : ℕ → List Item → List Bool
assignment vars items = map (λ v. mentions (record { variable = v; positive = true }) items)
    (range_with_len 1 vars)

-- the answer that items without a fault stand for
abbrev pub StandsFor : ℕ → List Item → SolverAnswer → Type 0
StandsFor vars items (answer.Model values) = (status items ≡ Some Satisfiable)
    × (values.items ≡ assignment vars items)
StandsFor vars items answer.Unsatisfiable = status items ≡ Some Unsatisfiable
StandsFor vars items answer.Unknown = status items ≡ Some Unknown

-- ---- a text
-- its fault as an answer for so many variables
unfoldable pub answer_fault : ℕ → List ℕ → Option AnswerFault
answer_fault vars text =
    if nat_lt (2 ^ 26) (length text) then Some TooLong else
    option_or (first_fault vars [] 1 (lines_of text))
    (end_fault vars (is_closed (items_of text)) (status (items_of text)))

-- the status that it claims
abbrev pub status_of : List ℕ → Option Status
status_of text = status (items_of text)

-- the assignment that it names
abbrev pub assignment_of : ℕ → List ℕ → List Bool
assignment_of vars text = assignment vars (items_of text)

-- the answer that it is, where it has no fault
abbrev pub IsAnswer : ℕ → List ℕ → SolverAnswer → Type 0
IsAnswer vars text = StandsFor vars (items_of text)

-- memory ran out, or this is the fault
abbrev pub IsFault : AnswerFault → Option AnswerFault → Type 0
IsFault Memory fault = Unit {0}
IsFault f fault = fault ≡ Some f
