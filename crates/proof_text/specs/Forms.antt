-- Which form a proof has.
use Rattle.std.specs.Prelude.{ℕ, Bool, true, false, ◌&&◌, ◌||◌, not, if◌then◌else◌, nat_lt, ◌==◌, List, [], ◌∷◌, drop, Option, Some, None}
use Rattle.proof_text.specs.Words.{words, lines, lines_of, is_delete}
use Rattle.proof_text.specs.Numbers.{numbers_of, first_number}
use Rattle.proof_text.specs.declared.number.Number.{Number}
use Rattle.proof_text.specs.declared.form.Form.{Form}
use Rattle.proof_text.specs.declared.form.Form.TheVariants.{Lrat, Drat, BinaryDrat}

-- this byte stands first
abbrev pub begins_with : ℕ → List ℕ → Bool
begins_with c [] = false
begins_with c (b ∷ bs) = b == c

-- what stands behind the first 0, where only numbers stand before it
unfoldable pub behind_zero : List (Option Number) → Option (List (Option Number))
behind_zero [] = None
behind_zero (None ∷ ns) = None
behind_zero (Some n ∷ ns) = if n.size == 0 then Some ns else behind_zero ns

-- something does
abbrev pub is_more : Option (List (Option Number)) → Bool
is_more None = false
is_more (Some []) = false
is_more (Some (n ∷ ns)) = true

-- nothing does
abbrev pub is_end : Option (List (Option Number)) → Bool
is_end None = false
is_end (Some []) = true
is_end (Some (n ∷ ns)) = false

-- a line of these words deletes a clause of DRAT: `d`, and the first 0 stands last
unfoldable pub deletes : List (List ℕ) → Bool
deletes ws = is_delete ws && is_end (behind_zero (numbers_of (drop 1 ws)))

-- the first line
abbrev pub first_line : List (List ℕ) → List ℕ
first_line [] = []
first_line (l ∷ ls) = l

-- a number other than 0
abbrev pub is_some_nonzero : Option Number → Bool
is_some_nonzero None = false
is_some_nonzero (Some n) = nat_lt 0 n.size

-- a line of these words is one of LRAT: its first number is not 0, and `d` is next, or a 0 stands
-- before the last word
unfoldable pub is_lrat : List (List ℕ) → Bool
is_lrat ws = is_some_nonzero (first_number (numbers_of ws)) &&
    (is_delete (drop 1 ws) || is_more (behind_zero (numbers_of (drop 1 ws))))

-- the form of a text, by its first line that says something
abbrev pub text_form : List (ℕ × List (List ℕ)) → Form
text_form [] = Drat
text_form (l ∷ ls) = if is_lrat l.1 then Lrat else Drat

-- it begins with `a`, or with `d` where its first line deletes nothing
unfoldable pub is_binary_proof : List ℕ → Bool
is_binary_proof proof = begins_with 97 proof ||
    (begins_with 100 proof && not (deletes (words (first_line (lines proof)))))

-- the form of a proof
unfoldable pub form_of_text : List ℕ → Form
form_of_text proof = if is_binary_proof proof then BinaryDrat else text_form (lines_of proof)
