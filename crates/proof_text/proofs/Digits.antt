-- Decimal digits that write a small number.
use Rattle.proof_text.proofs.Prelude.{◌≡◌, ℕ, ◌+◌, ◌-◌, ◌*◌, ◌<◌, ◌≤◌, ◌^◌, true, List, length, get_or, take, arith, list_all, digits_value}
use Rattle.std.specs.Char.{is_ascii_digit}
use Rattle.std.proofs.lemmas.Str.Parse.{digits_value_short, digits_value-take-le}
use Rattle.session_log.proofs.Digits.{own, value_more}

-- 18 digits are below 2 ^ 64
pub value_small : (bs : List ℕ) (i d : ℕ) → list_all is_ascii_digit bs ≡ true → length bs ≤ 18 → i < length bs → d ≡ get_or bs i 0 - 48 → digits_value 10 (take i bs) * 10 + d < 2 ^ 64
value_small bs i d h short lt e =
    let m = value_more bs i d h lt e in
    let le = digits_value-take-le 10 bs (i + 1) (omega arith) in
    let all : digits_value 10 bs < 1000000000000000000 = digits_value_short own bs 18 h short in
    omega (arith, m, le, all)
