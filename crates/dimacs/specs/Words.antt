-- The words of a line of a solver's answer, and what each says.
use Rattle.std.specs.Prelude.{ℕ, Bool, true, false, ◌&&◌, ◌||◌, if◌then◌else◌, ◌==◌, nat_lt, List, [], ◌∷◌, length, drop, map, codes, filter, slice_index, Option, Some, None}
use Rattle.std.specs.List.{list_all, slice_split}
use Rattle.std.specs.Str.{bytes_eq}
use Rattle.std.specs.Str.Lines.{lines}
use Rattle.std.specs.Char.{is_ascii_digit}
use Rattle.std.specs.Str.Parse.{digits_value}
use Rattle.serializability.specs.declared.literal.Literal.{Literal}
use Rattle.dimacs.specs.declared.status.Status.{Status}
use Rattle.dimacs.specs.declared.status.Status.TheVariants.{Satisfiable, Unsatisfiable, Unknown}

-- the lines of a text, without their ends: a line feed, and one carriage return directly before it
unfoldable pub lines_of : List ℕ → List (List ℕ)
lines_of text = lines text

-- spaces and tabs
abbrev pub is_blank : ℕ → Bool
is_blank b = b == 32 || b == 9

-- the words that blanks separate
unfoldable pub words : List ℕ → List (List ℕ)
words line = filter (λ word. nat_lt 0 (length word)) (slice_split is_blank line)

-- one thing that an answer says: a status, a literal, a zero between literals or behind them, or
-- nothing that the format has
pub data Item : Type 0 where
  Claim : Status → Item
  Given : Literal → Item
  Zero : Item
  Broken : Item

-- one or more decimal digits
abbrev pub is_number : List ℕ → Bool
is_number word = nat_lt 0 (length word) && list_all is_ascii_digit word

-- a number by its sign and what should be its digits
abbrev pub signed_item : Bool → List ℕ → Item
signed_item positive digits =
    if is_number digits then (if digits_value 10 digits == 0 then Zero else Given
    (record { variable = digits_value 10 digits; positive = positive }))
    else Broken

-- a word of a `v` line: digits, with a minus before them where the variable is negated
unfoldable pub number_item : List ℕ → Item
number_item word = if slice_index word 0 == 45 then signed_item false
    (drop 1 word) else signed_item true word

-- the status that a word names
unfoldable pub status_named : List ℕ → Option Status
status_named word =
    if bytes_eq word (codes "SATISFIABLE") then Some Satisfiable else
    (if bytes_eq word (codes "UNSATISFIABLE") then Some Unsatisfiable else
    (if bytes_eq word (codes "UNKNOWN") || bytes_eq word
    (codes "INDETERMINATE") then Some Unknown else None))

-- the claim of a status, where the word names one
abbrev pub claim : Option Status → Item
claim None = Broken
claim (Some s) = Claim s

-- what stands behind the `s` of a line: one word, the status
abbrev pub status_item : List (List ℕ) → Item
status_item (word ∷ []) = claim (status_named word)
status_item _ = Broken

-- a line by its words, the first of which stands at the front of the line
abbrev pub word_items : Bool → List (List ℕ) → List Item
word_items indented [] = []
word_items true (first ∷ rest) = Broken ∷ []
word_items false (first ∷ rest) =
    if bytes_eq first (codes "v") then map number_item rest else
    ((if bytes_eq first (codes "s") then status_item rest else Broken) ∷ [])

-- what a line says; one that begins with `c` is a comment
unfoldable pub line_items : List ℕ → List Item
line_items line = if slice_index line 0 == 99 then [] else word_items
    (is_blank (slice_index line 0)) (words line)
