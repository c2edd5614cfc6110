-- DRAT in its binary form: it is read as words of bytes, in lines that end behind a 0.
use Rattle.std.specs.Prelude.{ℕ, ◌+◌, ◌*◌, ◌/◌, ◌%◌, Bool, false, ◌&&◌, if◌then◌else◌, nat_lt, nat_le, ◌==◌, List, [], ◌∷◌, length, map, drop, Option, Some, None}
use Rattle.std.specs.List.{enumerate_from, list_any}
use Rattle.std.specs.Str.{bytes_eq}
use Rattle.proof_text.specs.Words.{onto_first}
use Rattle.proof_text.specs.Steps.{DratStep, clause_of, steps_by, drat_steps}
use Rattle.proof_text.specs.declared.number.Number.{Number}
use Rattle.proof_text.specs.declared.drat.DratAction.{DratAction}
use Rattle.proof_text.specs.declared.drat.DratAction.TheVariants.{Add, Delete}

-- the words: each ends with its first byte below 128, and only the last may lack it
unfoldable pub binary_words : List ℕ → List (List ℕ)
binary_words [] = []
binary_words (b ∷ bs) = if nat_lt b 128 then (b ∷ []) ∷ binary_words bs else onto_first b
    (binary_words bs)

-- the number of a word, seven bits a byte, the lowest first
unfoldable pub sevens : List ℕ → ℕ
sevens [] = 0
sevens (b ∷ bs) = b % 128 + 128 * sevens bs

-- it has its end, and at most five bytes
abbrev pub is_binary : List ℕ → Bool
is_binary word = nat_le (length word) 5 && list_any (λ b. nat_lt b 128) word

-- twice the variable, and one more for its negation
unfoldable pub signed : ℕ → Option Number
signed n = if n == 1 then None else Some (record { size = n / 2; negative = n % 2 == 1 })

unfoldable pub binary_number : List ℕ → Option Number
binary_number word = if is_binary word then signed (sevens word) else None

-- it is 0
abbrev pub is_zero : Option Number → Bool
is_zero None = false
is_zero (Some n) = n.size == 0

-- the lines: each ends with its first 0, and only the last may lack it
unfoldable pub binary_lines : List (List ℕ) → List (List (List ℕ))
binary_lines [] = []
binary_lines (w ∷ ws) = if is_zero (binary_number w) then
    (w ∷ []) ∷ binary_lines ws else onto_first w (binary_lines ws)

-- the numbers of words
abbrev pub binary_numbers : List (List ℕ) → List (Option Number)
binary_numbers ws = map binary_number ws

-- the words of the first line
unfoldable pub up_to_zero : List (List ℕ) → List (List ℕ)
up_to_zero [] = []
up_to_zero (w ∷ ws) = if is_zero (binary_number w) then w ∷ [] else w ∷ up_to_zero ws

-- the words behind it
unfoldable pub behind_line : List (List ℕ) → List (List ℕ)
behind_line [] = []
behind_line (w ∷ ws) = if is_zero (binary_number w) then ws else behind_line ws

-- what a step does: `a` or `d`
abbrev pub action_of_word : List ℕ → Option DratAction
action_of_word w = if bytes_eq w (97 ∷ []) then Some Add else
    (if bytes_eq w (100 ∷ []) then Some Delete else None)

abbrev pub binary_action : List (List ℕ) → Option DratAction
binary_action [] = None
binary_action (w ∷ ws) = action_of_word w

-- the step of an action, and the literals up to a 0
unfoldable pub clause_with : ℕ → List (Option Number) → Option DratAction → Option DratStep
clause_with v ns None = None
clause_with v ns (Some action) = clause_of v action ns

-- the step of a line
unfoldable pub binary_step : ℕ → List (List ℕ) → Option DratStep
binary_step v ws = clause_with v (binary_numbers (drop 1 ws)) (binary_action ws)

-- the numbered lines of bytes
unfoldable pub binary_lines_of : List ℕ → List (ℕ × List (List ℕ))
binary_lines_of bytes = enumerate_from 1 (binary_lines (binary_words bytes))

-- the numbered steps of a proof
unfoldable pub drat_steps_in : Bool → ℕ → List ℕ → List (ℕ × Option DratStep)
drat_steps_in binary v proof = if binary then steps_by (binary_step v)
    (binary_lines_of proof) else drat_steps v proof
