-- The lines of a text, and the form of each.
use Rattle.std.specs.Prelude.{ℕ, ◌^◌, Bool, true, false, ◌&&◌, ◌||◌, not, if◌then◌else◌, nat_le, nat_lt, ◌==◌, List, [], ◌∷◌, ◌++◌, length, take, drop, codes, position, ◌+◌, slice_index, Option, Some, None, option_and_then, nat_eq}
use Rattle.std.specs.List.{list_all, starts_with}
use Rattle.std.specs.Str.{bytes_eq}
use Rattle.std.specs.Char.{is_ascii_digit}
use Rattle.std.specs.Str.Parse.{digits_value}
use Rattle.session_log.specs.Key.{is_key}
use Rattle.session_log.specs.Version.{has_unknown_line, has_moments}
use Rattle.session_log.specs.declared.line.Line.{Line}
use Rattle.session_log.specs.declared.line.Line.TheVariants as line
use Rattle.session_log.specs.declared.version.Version.{Version}

-- a byte before lines; of each line there are its bytes without LF, and whether it has one
abbrev pub onto_line : ℕ → List (List ℕ × Bool) → List (List ℕ × Bool)
onto_line b [] = (b ∷ [], false) ∷ []
onto_line b (l ∷ ls) = (b ∷ l.0, l.1) ∷ ls

-- a line's bytes, with its LF where it has one
abbrev pub bytes_of : List ℕ × Bool → List ℕ
bytes_of l = l.0 ++ (if l.1 then 10 ∷ [] else [])

-- the lines of a text: only the last may lack its LF
unfoldable pub lines : List ℕ → List (List ℕ × Bool)
lines [] = []
lines (b ∷ bs) = if b == 10 then ([], true) ∷ lines bs else onto_line b (lines bs)

-- what is read of a value that may be missing
infixl 10 ◌>>=◌
abbrev pub ◌>>=◌ : {A B : Type 0} → Option A → (A → Option B) → Option B
o >>= f = option_and_then f o

-- decimal digits, with no leading zero
abbrev pub is_numeral : List ℕ → Bool
is_numeral word = list_all is_ascii_digit word && nat_le 1 (length word) &&
    (length word == 1 || not (slice_index word 0 == 48))

-- the number below 2 ^ 64 that a word writes
unfoldable pub number_of : List ℕ → Option ℕ
number_of word = if is_numeral word && nat_lt (digits_value 10 word) (2 ^ 64) then Some
    (digits_value 10 word) else None

-- the line of a session with the number that a word writes, 1 to 65535
unfoldable pub session_of : List ℕ → Option Line
session_of word = do
  n ← number_of word
  if nat_le 1 n && nat_lt n (2 ^ 16) then Some (line.Session n) else None

-- a key, a space and a number
unfoldable pub keyed_of : List ℕ → Option (List ℕ × ℕ)
keyed_of words = do
  i ← position (λ b. b == 32) words
  wid ← number_of (drop (i + 1) words)
  if is_key (take i words) then Some (take i words, wid) else None

-- the form of a line, where this version has one for it
unfoldable pub form_of : Version → List ℕ → Option Line
form_of v body =
    if bytes_eq body (codes "begin") then Some (line.Begin None) else
    (if bytes_eq body (codes "commit") then Some (line.Commit None) else
    (if bytes_eq body (codes "abort") then Some line.Abort else
    (if starts_with nat_eq body (codes "session ") then session_of (drop 8 body) else
    (if starts_with nat_eq body (codes "r ") then keyed_of
    (drop 2 body) >>= (λ k. Some (line.Read k.0 k.1)) else
    (if starts_with nat_eq body (codes "w ") then keyed_of
    (drop 2 body) >>= (λ k. Some (line.Write k.0 k.1)) else
    (if has_unknown_line v && bytes_eq body (codes "unknown") then Some line.Unknown else
    (if has_moments v && starts_with nat_eq body (codes "begin ") then number_of
    (drop 6 body) >>= (λ m. Some (line.Begin (Some m))) else
    (if has_moments v && starts_with nat_eq body (codes "commit ") then number_of
    (drop 7 body) >>= (λ m. Some (line.Commit (Some m))) else None))))))))
