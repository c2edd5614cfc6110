-- Bits that are set in some words and not in others.
use Rattle.known_graph.proofs.Prelude.{◌≡◌, ◌≢◌, ℕ, zero, suc, ◌+◌, ◌-◌, ◌*◌, ◌^◌, ◌<◌, ◌≤◌, min, Bool, true, false, eqb, List, length, get_or, refl, sym, ap, ◌∙◌, inl, inr, arith, eq-eqb, eqb-true, bit_and, bit_at, w64, trailing_zeros}
use Rattle.known_graph.proofs.Prelude.{cases_eq, cases_lt, false≢true, and_le_l, bit_at_and, bit_at_not, bit_at-lt, bit_at-zero, bit_at-trailing_zeros, bit_of, left_one, left_of}
use Rattle.known_graph.proofs.Words.{bit_of-past, bit_there}

-- the bits of a word that are set in x and not in y
abbrev pub open_bits : ℕ → ℕ → ℕ
open_bits x y = bit_and x (18446744073709551615 - y)

open_bit : (x y b : ℕ) → y < 2 ^ 64 → b < 64 → bit_at (open_bits x y) b ≡ min (bit_at x b) (1 - bit_at y b)
open_bit x y b hy hb = bit_at_and x (18446744073709551615 - y) b ∙ ap (λ z. min (bit_at x b) z) (bit_at_not w64 y b hy hb)

pub record IsOpen (row done : List ℕ) (k : ℕ) : Type 0 where
  pub set : bit_of row k ≡ true
  pub clear : bit_of done k ≡ false

-- the lowest open bit of a word
pub open_found : (row done : List ℕ) (i : ℕ) → get_or row i 0 < 2 ^ 64 → get_or done i 0 < 2 ^ 64 → open_bits (get_or row i 0) (get_or done i 0) ≢ 0 → IsOpen row done (i * 64 + trailing_zeros w64 (open_bits (get_or row i 0) (get_or done i 0)))
open_found row done i hx hy some =
    let x = get_or row i 0 in
    let y = get_or done i 0 in
    let t = trailing_zeros w64 (open_bits x y) in
    let hz : open_bits x y < 2 ^ 64 = omega (arith, and_le_l x (18446744073709551615 - y)) in
    let f = bit_at-trailing_zeros w64 (open_bits x y) (omega (arith, some)) hz in
    let both : min (bit_at x t) (1 - bit_at y t) ≡ 1 = sym (open_bit x y t hy f.0) ∙ f.1 in
    let a = bit_at-lt x t in
    let c = bit_at-lt y t in
    let set : bit_at x t ≡ 1 = omega arith in
    let clear : bit_at y t ≡ 0 = omega arith in
    record {
      set = bit_there row i t f.0 ∙ ap (λ n. eqb n 1) set;
      clear = bit_there done i t f.0 ∙ ap (λ n. eqb n 1) clear;
    }

-- no bit below k is open
pub record AreDoneTo (row done : List ℕ) (k : ℕ) : Type 0 where
  pub all : (j : ℕ) → j < k → bit_of row j ≡ true → bit_of done j ≡ true

pub done_none : (row done : List ℕ) → AreDoneTo row done 0
done_none row done = record { all = λ j h t. absurd (omega arith) }

word_done : (x y b : ℕ) → y < 2 ^ 64 → b < 64 → open_bits x y ≡ 0 → bit_at x b ≡ 1 → bit_at y b ≡ 1
word_done x y b hy hb none set =
    let both : min (bit_at x b) (1 - bit_at y b) ≡ 0 = sym (open_bit x y b hy hb) ∙ ap (λ n. bit_at n b) none ∙ bit_at-zero b in
    let c = bit_at-lt y b in
    omega arith

pub done_more : (row done : List ℕ) (i : ℕ) → get_or done i 0 < 2 ^ 64 → open_bits (get_or row i 0) (get_or done i 0) ≡ 0 → AreDoneTo row done (i * 64) → AreDoneTo row done ((i + 1) * 64)
done_more row done i hy none h = record {
  all = λ j lt t. elim (cases_lt j (i * 64)) [
    | inl before ↦ h.all j before t
    | inr here ↦
        let b = j - i * 64 in
        let small : b < 64 = omega arith in
        let place : i * 64 + b ≡ j = omega arith in
        let set : bit_at (get_or row i 0) b ≡ 1 = eqb-true (bit_at (get_or row i 0) b) 1 (sym (bit_there row i b small) ∙ ap (bit_of row) place ∙ t) in
        ap (bit_of done) (sym place) ∙ bit_there done i b small ∙ eq-eqb (bit_at (get_or done i 0) b) 1 (word_done (get_or row i 0) (get_or done i 0) b hy small none set)
  ];
}

pub done_all : (row done : List ℕ) (i : ℕ) → length row ≤ i → AreDoneTo row done (i * 64) → (k : ℕ) → bit_of row k ≡ true → bit_of done k ≡ true
done_all row done i all h k t = elim (cases_lt k (i * 64)) [
  | inl lt ↦ h.all k lt t
  | inr ge ↦ absurd (false≢true (sym (bit_of-past row k (omega arith)) ∙ t))
]

-- ---- how many numbers below n are left
taken_le : (a b : Bool) → (a ≡ true → b ≡ true) → left_one b ≤ left_one a
unfolding left_one
taken_le true b h = omega (arith, ap left_one (h refl))
taken_le false true h = omega arith
taken_le false false h = omega arith

left_le : (p q : ℕ → Bool) → ((j : ℕ) → p j ≡ true → q j ≡ true) → (n : ℕ) → left_of q n ≤ left_of p n
unfolding left_of
left_le p q h zero = omega arith
left_le p q h (suc n) = omega (arith, left_le p q h n, taken_le (p n) (q n) (h n))

pub left_falls : (p q : ℕ → Bool) → ((j : ℕ) → p j ≡ true → q j ≡ true) → (k : ℕ) → p k ≡ false → q k ≡ true → (n : ℕ) → k < n → left_of q n < left_of p n
unfolding left_of left_one
left_falls p q h k out into zero lt = absurd (omega arith)
left_falls p q h k out into (suc n) lt = elim (cases_eq k n) [
  | inl e ↦ omega (arith, left_le p q h n, ap left_one (ap p (sym e) ∙ out), ap left_one (ap q (sym e) ∙ into))
  | inr ne ↦ omega (arith, left_falls p q h k out into n (omega (arith, ne)), taken_le (p n) (q n) (h n))
]
