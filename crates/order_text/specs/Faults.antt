-- Which text is the text of an order, and where another one fails first.
use Rattle.std.specs.Prelude.{◌≡◌, ℕ, ◌+◌, ◌^◌, ◌==◌, Bool, false, ◌&&◌, nat_lt, if◌then◌else◌, List, [], ◌∷◌, length, take, drop, position, Option, Some, None, is_some, option_and_then}
use Rattle.std.specs.Option.{option_map, option_map_or, option_or}
use Rattle.session_log.specs.Text.{ClientSession}
use Rattle.session_log.specs.Lines.{lines, is_numeral, number_of}
use Rattle.session_history.specs.Tables.{node_named}
use Rattle.order_text.specs.declared.fault.OrderFault.{OrderFault}
use Rattle.order_text.specs.declared.fault.OrderFault.TheVariants.{BadLine, NoSuchTransaction, TooLong, Memory}

-- what stands before and behind the first space
unfoldable pub words_of : List ℕ → Option (List ℕ × List ℕ)
words_of body = option_map (λ i. (take i body, drop (i + 1) body)) (position (λ b. b == 32) body)

-- both are decimal numbers, of any size, with no leading zero
abbrev pub are_numerals : List ℕ × List ℕ → Bool
are_numerals words = is_numeral words.0 && is_numeral words.1

-- two numbers, with one space between them
abbrev pub is_name : List ℕ → Bool
is_name body = option_map_or are_numerals (words_of body) false

-- the committed transaction of this session number and place; a number of 2 ^ 64 or more is that of
-- none
unfoldable pub named_by : List ClientSession → List ℕ → List ℕ → Option ℕ
named_by ss session place = option_and_then (λ s. option_and_then (λ t. node_named ss s t)
    (number_of place)) (number_of session)

-- the committed transaction that a line without its LF names
abbrev pub named : List ClientSession → List ℕ → Option ℕ
named ss body = option_and_then (λ (words : List ℕ × List ℕ). named_by ss words.0 words.1)
    (words_of body)

-- the fault of a line, which is line n: no name that ends by LF, or no committed transaction's
unfoldable pub line_fault : List ClientSession → ℕ → List ℕ × Bool → Option OrderFault
line_fault ss n l =
    if l.1 && is_name l.0 then (if is_some (named ss l.0) then None else Some (NoSuchTransaction n))
    else Some (BadLine n)

-- the first fault of these lines, the first of which is line n
abbrev pub first_fault : List ClientSession → ℕ → List (List ℕ × Bool) → Option OrderFault
first_fault ss n [] = None
first_fault ss n (l ∷ ls) = option_or (line_fault ss n l) (first_fault ss (n + 1) ls)

-- the fault of a text as an order: more than 1 MiB, or that of the first line that has one
unfoldable pub order_fault : List ClientSession → List ℕ → Option OrderFault
order_fault ss text = if nat_lt (2 ^ 20) (length text) then Some TooLong else first_fault ss 1
    (lines text)

-- memory ran out, or exactly this fault
abbrev pub IsOrderFault : OrderFault → Option OrderFault → Type 0
IsOrderFault Memory whole = Unit {0}
IsOrderFault f whole = whole ≡ Some f
