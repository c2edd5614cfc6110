-- The bytes of a numeral.
use Rattle.dimacs.proofs.Prelude.{◌≡◌, ℕ, zero, suc, ◌+◌, ◌-◌, ◌≤◌, List, [], ◌∷◌, ◌++◌, length, get_or, take, drop, slice_set, refl, ap, ◌∙◌, arith, length-append, length-drop, take-set-le, get_or-set_same, length-decimal-le}
use Rattle.std.proofs.Math.Seq.{take-append-add}
use Rattle.std.specs.Fmt.{decimal}

pub few_digits : (n : ℕ) (digits : List ℕ) → n ≤ 999999 → digits ≡ decimal n → length digits ≤ 6
few_digits n digits h e = omega (arith, length-decimal-le 6 n (omega arith) (omega arith) (omega arith), ap length e)

-- eight spaces
abbrev pub blank : List ℕ
blank = 32 ∷ 32 ∷ 32 ∷ 32 ∷ 32 ∷ 32 ∷ 32 ∷ 32 ∷ []

one_space : (k : ℕ) → k ≤ 6 → take 1 (drop k blank) ≡ 32 ∷ []
one_space zero h = refl
one_space (suc zero) h = refl
one_space (suc (suc zero)) h = refl
one_space (suc (suc (suc zero))) h = refl
one_space (suc (suc (suc (suc zero)))) h = refl
one_space (suc (suc (suc (suc (suc zero))))) h = refl
one_space (suc (suc (suc (suc (suc (suc zero)))))) h = refl
one_space (suc (suc (suc (suc (suc (suc (suc k))))))) h = absurd (omega arith)

-- digits in front, spaces behind them, and last how many bytes the digits and one space are
abbrev pub numeral_bytes : List ℕ → ℕ → List ℕ
numeral_bytes front digits = slice_set (front ++ drop digits blank) 7 (digits + 1)

pub last_byte : (digits front : List ℕ) → length digits ≤ 6 → front ≡ digits → get_or (numeral_bytes front (length digits)) 7 0 ≡ length digits + 1
last_byte digits front h e =
    let all = front ++ drop (length digits) blank in
    let left : length (drop (length digits) blank) ≡ 8 - length digits = length-drop (length digits) blank in
    get_or-set_same all 7 (length digits + 1) 0 (omega (arith, ap length e, length-append front (drop (length digits) blank), left, h))

pub text_in_front : (digits front : List ℕ) → length digits ≤ 6 → front ≡ digits → take (get_or (numeral_bytes front (length digits)) 7 0) (numeral_bytes front (length digits)) ≡ digits ++ 32 ∷ []
text_in_front digits front h e =
    let k = length digits in
    ap (λ n. take n (numeral_bytes front k)) (last_byte digits front h e) ∙ take-set-le (k + 1) (front ++ drop k blank) 7 (k + 1) (omega (arith, h)) ∙ ap (λ f. take (k + 1) (f ++ drop k blank)) e ∙ take-append-add digits (drop k blank) 1 ∙ ap (λ s. digits ++ s) (one_space k h)
