-- A text cut at its first line feed, and a line cut at its first blank.
use Rattle.dimacs.proofs.Prelude.{◌≡◌, ℕ, ◌+◌, ◌<◌, ◌≤◌, Bool, true, false, cond, List, [], ◌∷◌, ◌++◌, length, take, drop, nat_lt, ◌==◌, Some, None, position, refl, ap, ◌∙◌, subst, arith, if◌then◌else◌, filter, slice_split, position_or_len}
use Rattle.dimacs.proofs.Prelude.{lines_of_parts, strip_carriage_return, ne_eqb, ltb-true, ltb-false, fails_before_first, slice_split_first, slice_split_none, length-slice_split, is_blank, lines_of, words}

some_cases : (p : ℕ → Bool) (xs : List ℕ) (t : Bool) → nat_lt (position_or_len p xs) (length xs) ≡ t → (i : ℕ) → Some i ≡ cond t (Some (position_or_len p xs)) None → (position_or_len p xs ≡ i) × (position_or_len p xs < length xs)
some_cases p xs true e i is = (cc, ltb-true (position_or_len p xs) (length xs) e)
some_cases p xs false e i is = cc

none_cases : (p : ℕ → Bool) (xs : List ℕ) (t : Bool) → nat_lt (position_or_len p xs) (length xs) ≡ t → None ≡ cond t (Some (position_or_len p xs)) None → length xs ≤ position_or_len p xs
none_cases p xs true e is = cc
none_cases p xs false e is = ltb-false (position_or_len p xs) (length xs) e

split_some : (p : ℕ → Bool) (xs : List ℕ) (i : ℕ) → Some i ≡ position p xs → slice_split p xs ≡ take i xs ∷ slice_split p (drop (i + 1) xs)
split_some p xs i is =
    let at = some_cases p xs (nat_lt (position_or_len p xs) (length xs)) refl i is in
    subst (λ j. slice_split p xs ≡ take j xs ∷ slice_split p (drop (j + 1) xs)) at.0 (slice_split_first p xs 0 at.1)

split_none : (p : ℕ → Bool) (xs : List ℕ) → None ≡ position p xs → slice_split p xs ≡ xs ∷ []
split_none p xs is =
    let past = none_cases p xs (nat_lt (position_or_len p xs) (length xs)) refl is in
    slice_split_none p xs (λ k d h. fails_before_first p xs k d (omega arith))

-- ---- lines
onto_parts : (x : List ℕ) (parts : List (List ℕ)) → 0 < length parts → lines_of_parts (x ∷ parts) ≡ strip_carriage_return x ∷ lines_of_parts parts
onto_parts x [] h = absurd (omega arith)
onto_parts x (y ∷ more) h = refl

abbrev pub is_lf : ℕ → Bool
is_lf b = b == 10

pub lines_some : (text : List ℕ) (i : ℕ) → Some i ≡ position is_lf text → lines_of text ≡ strip_carriage_return (take i text) ∷ lines_of (drop (i + 1) text)
unfolding lines_of
lines_some text i is =
    ap lines_of_parts (split_some is_lf text i is)
    ∙ onto_parts (take i text) (slice_split is_lf (drop (i + 1) text)) (omega (arith, length-slice_split is_lf (drop (i + 1) text)))

pub lines_none : (text : List ℕ) → 0 < length text → None ≡ position is_lf text → lines_of text ≡ text ∷ lines_of []
unfolding lines_of
lines_none text h is =
    ap lines_of_parts (split_none is_lf text is) ∙ rw (ne_eqb (length text) 0 (λ e. absurd (omega arith))) refl

pub lines_of_nothing : lines_of [] ≡ []
unfolding lines_of
lines_of_nothing = refl

-- ---- words
abbrev has_bytes : List ℕ → Bool
has_bytes word = nat_lt 0 (length word)

kept : (t : Bool) (word : List ℕ) (others : List (List ℕ)) → cond t (word ∷ others) others ≡ cond t (word ∷ []) [] ++ others
kept true word others = refl
kept false word others = refl

pub words_some : (line : List ℕ) (i : ℕ) → Some i ≡ position is_blank line → words line ≡ (if has_bytes (take i line) then take i line ∷ [] else []) ++ words (drop (i + 1) line)
unfolding words
words_some line i is = ap (filter has_bytes) (split_some is_blank line i is) ∙ kept (has_bytes (take i line)) (take i line) _

pub words_none : (line : List ℕ) → None ≡ position is_blank line → words line ≡ (if has_bytes line then line ∷ [] else []) ++ words []
unfolding words
words_none line is = ap (filter has_bytes) (split_none is_blank line is) ∙ kept (has_bytes line) line []

pub words_of_nothing : words [] ≡ []
unfolding words
words_of_nothing = refl
