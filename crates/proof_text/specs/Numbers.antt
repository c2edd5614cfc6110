-- Numbers, and what they stand for.
use Rattle.std.specs.Prelude.{ℕ, Bool, true, false, ◌&&◌, not, if◌then◌else◌, nat_le, nat_lt, ◌==◌, List, [], ◌∷◌, length, map, Option, Some, None}
use Rattle.std.specs.List.{list_all}
use Rattle.std.specs.Char.{is_ascii_digit}
use Rattle.std.specs.Str.Parse.{digits_value}
use Rattle.serializability.specs.declared.literal.Literal.{Literal}
use Rattle.proof_text.specs.declared.number.Number.{Number}

-- 1 to 18 decimal digits
abbrev pub is_decimal : List ℕ → Bool
is_decimal word = nat_le 1 (length word) && nat_le (length word) 18 && list_all is_ascii_digit word

-- what they write
unfoldable pub size_of : List ℕ → Option ℕ
size_of word = if is_decimal word then Some (digits_value 10 word) else None

-- a number of this size, behind a `-`
abbrev pub below_zero : Option ℕ → Option Number
below_zero None = None
below_zero (Some size) = if size == 0 then None else Some (record { size = size; negative = true })

-- a number of this size, as it stands
abbrev pub not_below_zero : Option ℕ → Option Number
not_below_zero None = None
not_below_zero (Some size) = Some (record { size = size; negative = false })

-- the number that a word writes: digits, with `-` before them where it is below 0
unfoldable pub number_of : List ℕ → Option Number
number_of [] = None
number_of (b ∷ bs) = if b == 45 then below_zero (size_of bs) else not_below_zero (size_of (b ∷ bs))

-- the numbers that words write
abbrev pub numbers_of : List (List ℕ) → List (Option Number)
numbers_of ws = map number_of ws

-- the first, where it is a number
abbrev pub first_number : List (Option Number) → Option Number
first_number [] = None
first_number (n ∷ ns) = n

-- the literal of one of the variables 1 to v
unfoldable pub literal_of : ℕ → Number → Option Literal
literal_of v n = if nat_lt 0 n.size && nat_le n.size v then Some
    (record { variable = n.size; positive = not n.negative }) else None

-- the ID that a number is; only that of a hint may be below 0, and is none
unfoldable pub id_of : Bool → Number → Option (Option ℕ)
id_of is_hint n = if n.negative then (if is_hint then Some None else None) else Some (Some n.size)

-- the first, and the others that are read behind it
abbrev pub with_front : {A B : Type 0} → Option A → Option (List A × B) → Option (List A × B)
with_front None more = None
with_front (Some x) None = None
with_front (Some x) (Some more) = Some (x ∷ more.0, more.1)

-- what each number before the first 0 stands for, and what is left behind that 0; none where there
-- is no 0, or a word before it is no such number
unfoldable pub before_zero : {A : Type 0} → (Number → Option A) → List (Option Number)
    → Option (List A × List (Option Number))
before_zero f [] = None
before_zero f (None ∷ ns) = None
before_zero f (Some n ∷ ns) = if n.size == 0 then Some ([], ns) else with_front (f n)
    (before_zero f ns)

-- the same where nothing is left
abbrev pub if_whole : {A B : Type 0} → List A → List B → Option (List A)
if_whole xs [] = Some xs
if_whole xs (y ∷ ys) = None

abbrev pub whole : {A B : Type 0} → Option (List A × List B) → Option (List A)
whole None = None
whole (Some m) = if_whole m.0 m.1
