-- The words and the lines of a text.
use Rattle.std.specs.Prelude.{◌≡◌, ℕ, ◌+◌, ◌^◌, ◌≤◌, Bool, true, false, ◌||◌, not, if◌then◌else◌, ◌==◌, List, [], ◌∷◌, length, drop}
use Rattle.std.specs.Str.{bytes_eq}

-- a space, a tab or a carriage return
unfoldable pub is_blank : ℕ → Bool
is_blank b = b == 32 || b == 9 || b == 13

-- an item more at the head of the first list
abbrev pub onto_first : {A : Type 0} → A → List (List A) → List (List A)
onto_first x [] = (x ∷ []) ∷ []
onto_first x (l ∷ ls) = (x ∷ l) ∷ ls

-- a word goes on here
abbrev pub begins_word : List ℕ → Bool
begins_word [] = false
begins_word (b ∷ bs) = not (is_blank b)

-- the words of a line: what stands between blanks
unfoldable pub words : List ℕ → List (List ℕ)
words [] = []
words (b ∷ bs) = if is_blank b then words bs else
    (if begins_word bs then onto_first b (words bs) else (b ∷ []) ∷ words bs)

-- the lines of a text: what stands between line feeds
unfoldable pub lines : List ℕ → List (List ℕ)
lines [] = [] ∷ []
lines (b ∷ bs) = if b == 10 then [] ∷ lines bs else onto_first b (lines bs)

-- `c` or `%` stands first
abbrev pub begins_comment : List ℕ → Bool
begins_comment [] = false
begins_comment (b ∷ bs) = b == 99 || b == 37

-- a line of these words says nothing: it is blank, or a comment
abbrev pub is_passed : List (List ℕ) → Bool
is_passed [] = true
is_passed (w ∷ ws) = begins_comment w

-- the lines that say something, each with its number, counted from this one, and its words
unfoldable pub stated : ℕ → List (List ℕ) → List (ℕ × List (List ℕ))
stated n [] = []
stated n (l ∷ ls) = if is_passed (words l) then stated (n + 1) ls else (n, words l) ∷ stated
    (n + 1) ls

-- the same of a text
unfoldable pub lines_of : List ℕ → List (ℕ × List (List ℕ))
lines_of text = stated 1 (lines text)

-- the word `d` stands first
abbrev pub is_delete : List (List ℕ) → Bool
is_delete [] = false
is_delete (w ∷ ws) = bytes_eq w (100 ∷ [])

-- what stands behind that word, where it stands first
abbrev pub behind_delete : List (List ℕ) → List (List ℕ)
behind_delete ws = if is_delete ws then drop 1 ws else ws

-- no word is left
abbrev pub is_empty : List (List ℕ) → Bool
is_empty [] = true
is_empty (w ∷ ws) = false

-- of a text, the first line of which has this number: the first that says something is line n, and
-- this stands behind it
pub record IsFound (first : ℕ) (text : List ℕ) (n : ℕ) (line behind : List ℕ) : Type 0 where
  pub stated_are : stated first (lines text) ≡ (n, words line) ∷ stated (n + 1) (lines behind)
  pub within : n + 1 + length behind ≤ 2 ^ 63
