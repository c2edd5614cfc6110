-- The number that decimal digits write.
use Rattle.session_log.proofs.Prelude.{refl, ◌≡◌, ℕ, ◌+◌, ◌-◌, ◌*◌, ◌<◌, ◌≤◌, ◌^◌, true, List, length, get_or, take, nat_lt, if◌then◌else◌, Some, None, arith, rules, list_all, is_ascii_digit, IsInRange, digits_value, le-ltb}
use Rattle.std.proofs.lemmas.Str.{digit_value_digit}
use Rattle.std.proofs.lemmas.Str.Parse.{IsNumeralModel, numerals_by_value, digit_at, digits_value-take-le}
use Rattle.std.proofs.lemmas.Int.Digits.{digits_value_more}

pub own : IsNumeralModel (λ ds. list_all is_ascii_digit ds ≡ true) (digits_value 10)
own = numerals_by_value _ (search rules)

pub digit_in : (bs : List ℕ) (i : ℕ) → list_all is_ascii_digit bs ≡ true → i < length bs → IsInRange 48 57 (get_or bs i 0)
digit_in bs i h lt = digit_at bs i (own.to bs h) lt

pub value_more : (bs : List ℕ) (i d : ℕ) → list_all is_ascii_digit bs ≡ true → i < length bs → d ≡ get_or bs i 0 - 48 → digits_value 10 (take (i + 1) bs) ≡ digits_value 10 (take i bs) * 10 + d
value_more bs i d h lt e =
    let v = digit_value_digit (get_or bs i 0) (digit_in bs i h lt) in
    let m = digits_value_more 10 bs i lt in
    omega (arith, v, m, e)

-- too large already
pub value_over : (bs : List ℕ) (i n d : ℕ) → list_all is_ascii_digit bs ≡ true → i < length bs → d ≡ get_or bs i 0 - 48 → n ≡ digits_value 10 (take i bs) → 2 ^ 64 ≤ n * 10 + d → None ≡ (if nat_lt (digits_value 10 bs) (2 ^ 64) then Some (digits_value 10 bs) else None)
value_over bs i n d h lt e is over =
    let m = value_more bs i d h lt e in
    let le = digits_value-take-le 10 bs (i + 1) (omega arith) in
    let big : 2 ^ 64 ≤ digits_value 10 bs = omega (arith, m, le, is, over) in
    rw (le-ltb (digits_value 10 bs) (2 ^ 64) big) refl
