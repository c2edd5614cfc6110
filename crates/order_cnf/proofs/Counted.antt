-- How many of some numbers pass a test.
use Rattle.order_cnf.proofs.Prelude.{◌≡◌, refl, sym, ap, ◌∙◌, ℕ, zero, suc, ◌+◌, ◌*◌, ◌/◌, ◌%◌, ◌^◌, ◌<◌, ◌≤◌, Bool, true, false, cond, eqb, arith, count_ones, bit_at, ones_cat, div-add-mod', mod_below, bit_at_lowest, bit_at-suc, IsWord}
use Rattle.std.specs.Int.Count.{ones-ones}

abbrev pub one : Bool → ℕ
one b = cond b 1 0

-- of n numbers from a on
unfoldable pub count_in : (ℕ → Bool) → ℕ → ℕ → ℕ
count_in p a zero = 0
count_in p a (suc n) = one (p a) + count_in p (a + 1) n

pub count_none : (p : ℕ → Bool) (a n : ℕ) → ((k : ℕ) → a ≤ k → k < a + n → p k ≡ false) → count_in p a n ≡ 0
unfolding count_in
count_none p a zero h = refl
count_none p a (suc n) h =
    let first = ap one (h a (omega arith) (omega arith)) in
    let rest = count_none p (a + 1) n (λ k lo hi. h k (omega arith) (omega arith)) in
    omega (arith, first, rest)

pub count_same : (p q : ℕ → Bool) (a n : ℕ) → ((k : ℕ) → a ≤ k → k < a + n → p k ≡ q k) → count_in p a n ≡ count_in q a n
unfolding count_in
count_same p q a zero h = refl
count_same p q a (suc n) h =
    let first = ap one (h a (omega arith) (omega arith)) in
    let rest = count_same p q (a + 1) n (λ k lo hi. h k (omega arith) (omega arith)) in
    omega (arith, first, rest)

pub count_split : (p : ℕ → Bool) (a m n : ℕ) → count_in p a (m + n) ≡ count_in p a m + count_in p (a + m) n
unfolding count_in
count_split p a zero n =
    let e : 0 + n ≡ n = omega arith in
    let f : a ≡ a + 0 = omega arith in
    omega (arith, ap (count_in p a) e, ap (λ x. count_in p x n) f)
count_split p a (suc m) n =
    let e : suc m + n ≡ suc (m + n) = omega arith in
    let f : a + 1 + m ≡ a + suc m = omega arith in
    omega (arith, ap (count_in p a) e, count_split p (a + 1) m n, ap (λ x. count_in p x n) f)

-- counted from further on
pub count_moved : (p q : ℕ → Bool) (a d n : ℕ) → ((k : ℕ) → a ≤ k → k < a + n → q k ≡ p (d + k)) → count_in q a n ≡ count_in p (d + a) n
unfolding count_in
count_moved p q a d zero h = refl
count_moved p q a d (suc n) h =
    let f : d + (a + 1) ≡ d + a + 1 = omega arith in
    let first = ap one (h a (omega arith) (omega arith)) in
    let rest = count_moved p q (a + 1) d n (λ k lo hi. h k (omega arith) (omega arith)) in
    omega (arith, first, rest, ap (λ x. count_in p x n) f)

one_most : (b : Bool) → one b ≤ 1
one_most true = omega arith
one_most false = omega arith

pub count_most : (p : ℕ → Bool) (a n : ℕ) → count_in p a n ≤ n
unfolding count_in
count_most p a zero = omega arith
count_most p a (suc n) = omega (arith, one_most (p a), count_most p (a + 1) n)

-- ---- the ones of a number
ones_of_bit : (b : ℕ) → b < 2 → count_ones b ≡ one (eqb b 1)
ones_of_bit zero h = ones-ones 0
ones_of_bit (suc zero) h = ones-ones 1
ones_of_bit (suc (suc b)) h = absurd (omega arith)

pub ones_counted : (m w : ℕ) → w < 2 ^ m → count_ones w ≡ count_in (λ b. eqb (bit_at w b) 1) 0 m
unfolding count_in
ones_counted zero w h = let e : w ≡ 0 = omega arith in ap count_ones e ∙ ones-ones 0
ones_counted (suc m) w h =
    let low : w % 2 < 2 = mod_below w 2 (omega arith) in
    let parts : w ≡ w / 2 * 2 + w % 2 = sym (div-add-mod' w 2) in
    let split : count_ones w ≡ count_ones (w / 2) + count_ones (w % 2) = ap count_ones parts ∙ ones_cat 1 (w / 2) (w % 2) low in
    let half : w / 2 < 2 ^ m = omega (arith, h) in
    let first : one (eqb (bit_at w 0) 1) ≡ one (eqb (w % 2) 1) = ap (λ x. one (eqb x 1)) (bit_at_lowest w) in
    let rest : count_in (λ b. eqb (bit_at (w / 2) b) 1) 0 m ≡ count_in (λ b. eqb (bit_at w b) 1) (1 + 0) m =
    count_moved (λ b. eqb (bit_at w b) 1) (λ b. eqb (bit_at (w / 2) b) 1) 0 1 m (λ k lo hi. (let next : suc k ≡ 1 + k = omega arith in ap (λ x. eqb x 1) (sym (bit_at-suc w k)) ∙ ap (λ i. eqb (bit_at w i) 1) next)) in
    omega (arith, split, ones_of_bit (w % 2) low, first, rest, ones_counted m (w / 2) half)

pub word_counted : (p : ℕ → Bool) (place w : ℕ) → w < 2 ^ 64 → IsWord p place w → count_ones w ≡ count_in p (place * 64) 64
word_counted p place w small h =
    let e : place * 64 + 0 ≡ place * 64 = omega arith in
    ones_counted 64 w small ∙ count_moved p (λ b. eqb (bit_at w b) 1) 0 (place * 64) 64 (λ k lo hi. h.bits k hi) ∙ ap (λ x. count_in p x 64) e
