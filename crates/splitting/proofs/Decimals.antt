-- What the decimal text of a number has.
use Rattle.splitting.proofs.Prelude.{◌≡◌, ℕ, zero, suc, ◌+◌, ◌/◌, ◌%◌, ◌≤◌, ◌<◌, ◌^◌, ◌||◌, ◌&&◌, Bool, true, false, List, [], ◌∷◌, length, refl, sym, ap, ◌∙◌, inl, inr, arith, nat_le, ◌==◌, list_all, cases_Bool, and_from, le_true, IsKey}
use Rattle.splitting.proofs.Prelude.{is_key_byte}
use Rattle.std.specs.Fmt.{decimal, digits, digits_onto, digit_glyph}
use Rattle.std.specs.Str.Parse.{AllDigits, digits_value}
use Rattle.std.proofs.Math.Nat.{pow-le-pow_right, one-le-pow}
use Rattle.std.proofs.lemmas.Fmt.{decimal_is_IsNumeral_wide, length-decimal-le_wide}
use Rattle.std.proofs.lemmas.Str.Parse.{digit_from_value}

-- ---- a text of so many digits is that of a number that has no more
onto_more : (k n : ℕ) (acc : List ℕ) → length acc ≤ length (digits_onto k 10 false n acc)
onto_more zero n acc = omega arith
onto_more (suc k) n acc = elim (cases_Bool (n / 10 == 0)) [
  | inl e ↦ rw e (omega arith)
  | inr e ↦ let ih = onto_more k (n / 10) (digit_glyph false (n % 10) ∷ acc) in rw e (omega (arith, ih))
]

one_digit : (q : ℕ) → (q == 0) ≡ true → q ≡ 0
one_digit q e = grind arith

onto_within : (j k n : ℕ) (acc : List ℕ) → j < k → length (digits_onto k 10 false n acc) ≤ length acc + j → n < 10 ^ j
onto_within j zero n acc lt le = absurd (omega arith)
onto_within zero (suc k) n acc lt le = elim (cases_Bool (n / 10 == 0)) [
  | inl e ↦ absurd (let h = rw e at le in omega (arith, h))
  | inr e ↦ absurd (let h = rw e at le in let more = onto_more k (n / 10) (digit_glyph false (n % 10) ∷ acc) in omega (arith, h, more))
]
onto_within (suc j) (suc k) n acc lt le = elim (cases_Bool (n / 10 == 0)) [
  | inl e ↦ let none = one_digit (n / 10) e in let one = one-le-pow j 10 (omega arith) in omega (arith, none, one)
  | inr e ↦ let h = rw e at le in let ih = onto_within j k (n / 10) (digit_glyph false (n % 10) ∷ acc) (omega arith) (omega (arith, h)) in omega (arith, ih)
]

within_tens : (k j n : ℕ) → j < k → length (digits_onto k 10 false n []) ≤ j → n < 10 ^ j
within_tens k j n lt le = onto_within j k n [] lt (omega arith)

pub below_tens : (j n : ℕ) → j < 64 → length (decimal n) ≤ j → n < 10 ^ j
unfolding digits
below_tens j n lt le = within_tens 64 j n lt le

-- ---- where the digits are few
pub below_wide : (j n : ℕ) → j < 64 → n < 10 ^ j → n < 10 ^ 64
below_wide j n lt h = let le = pow-le-pow_right {n = 10} (omega arith) {i = j} {j = 64} (omega arith) in omega (arith, h, le)

-- a smaller number has no more digits
pub fewer_digits : (m n : ℕ) → 0 < m → m ≤ n → length (decimal n) < 64 → length (decimal m) ≤ length (decimal n)
fewer_digits m n some le few = go (length (decimal n)) refl few
  where
    go : (k : ℕ) → length (decimal n) ≡ k → k < 64 → length (decimal m) ≤ k
    go zero e lt = absurd (let h = below_tens 0 n (omega arith) (omega (arith, e)) in omega (arith, h))
    go (suc k) e lt = let h = below_tens (suc k) n lt (omega (arith, e)) in length-decimal-le_wide (suc k) m (omega arith) (omega (arith, h)) (below_wide (suc k) m lt (omega (arith, h)))

pub same_decimal : (m n : ℕ) → m < 10 ^ 64 → n < 10 ^ 64 → decimal m ≡ decimal n → m ≡ n
same_decimal m n a b e = sym (decimal_is_IsNumeral_wide m a).1 ∙ ap (digits_value 10) e ∙ (decimal_is_IsNumeral_wide n b).1

-- ---- the bytes
third : (a b c d e f g h : Bool) → c ≡ true → (a || b || c || d || e || f || g || h) ≡ true
third v0 v1 v2 v3 v4 v5 v6 v7 e = grind arith

digit_byte : (d : ℕ) → 48 ≤ d → d ≤ 57 → is_key_byte d ≡ true
unfolding is_key_byte
digit_byte d low high = let a = le_true 48 d low in let b = le_true d 57 high in rw (a, b) (third (nat_le 65 d && nat_le d 90) (nat_le 97 d && nat_le d 122) true (d == 95) (d == 46) (d == 58) (d == 47) (d == 45) refl)

pub digit_bytes : (ds : List ℕ) → AllDigits 10 ds → list_all is_key_byte ds ≡ true
digit_bytes [] h = refl
digit_bytes (d ∷ ds) h = let own = digit_from_value d h.0 in and_from (is_key_byte d) (list_all is_key_byte ds) (digit_byte d own.0 own.1) (digit_bytes ds h.1)

pub decimal_is_key : (n : ℕ) → n < 10 ^ 64 → length (decimal n) ≤ 64 → IsKey (decimal n)
decimal_is_key n h le =
    let is = decimal_is_IsNumeral_wide n h in
    let some = is.0.0 in
    and_from (nat_le 1 (length (decimal n)) && nat_le (length (decimal n)) 64) (list_all is_key_byte (decimal n))
    (and_from (nat_le 1 (length (decimal n))) (nat_le (length (decimal n)) 64) (le_true 1 (length (decimal n)) (omega (arith, some))) (le_true (length (decimal n)) 64 le))
    (digit_bytes (decimal n) is.0.1)
