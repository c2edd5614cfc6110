-- Bits in words: the next one that is set, one that is cleared, and all below a number.
use Rattle.branching.proofs.Prelude.{◌≡◌, ◌≢◌, ℕ, ◌+◌, ◌-◌, ◌*◌, ◌/◌, ◌%◌, ◌^◌, ◌<◌, ◌≤◌, min, true, false, not, eqb, ◌&&◌, List, length, get_or, set, sym, ap, ◌∙◌, inl, inr, arith, eq-eqb, ne_eqb, get_or-set_same, get_or-set_other}
use Rattle.branching.proofs.Prelude.{bit_and, nat_lt, cases_eq, cases_lt, lt-ltb, le-ltb, get_or_past, bit_of, bit_of-past, same_word, bit_there, IsNext, NoneFrom}
use Rattle.std.specs.Int.{bit_at, w64, trailing_zeros}
use Rattle.std.proofs.lemmas.Nat.{and_le_l, div-add-mod', mod_below, pow_below}
use Rattle.std.proofs.lemmas.Nat.Bits.{bit_at_and, bit_at-lt, bit_at-zero, bit_at-trailing_zeros, bit_at_mask_inside, bit_at_mask_below, ones_shl, bit_at_ones, bit_at_ones_above, bit_at_clear_same, bit_at_clear_other}
use Rattle.std.proofs.Math.Nat.{mod-eq_of_lt}

bit_set : (words : List ℕ) (i b : ℕ) → b < 64 → bit_at (get_or words i 0) b ≡ 1 → bit_of words (i * 64 + b) ≡ true
bit_set words i b h e = bit_there words i b h ∙ ap (λ n. eqb n 1) e

-- bit j of word i
bit_clear : (words : List ℕ) (i j : ℕ) → i * 64 ≤ j → j < (i + 1) * 64 → bit_at (get_or words i 0) (j - i * 64) ≡ 0 → bit_of words j ≡ false
bit_clear words i j lo hi e =
    let b = j - i * 64 in
    let small : b < 64 = omega arith in
    let place : i * 64 + b ≡ j = omega arith in
    ap (bit_of words) (sym place) ∙ bit_there words i b small ∙ ap (λ n. eqb n 1) e

-- ---- the next bit that is set
-- no bit from `from` and below k is set
pub record ClearTo (words : List ℕ) (from k : ℕ) : Type 0 where
  pub all : (j : ℕ) → from ≤ j → j < k → bit_of words j ≡ false

-- the bits of a word from the m-th on
abbrev pub high_bits : ℕ → ℕ → ℕ
high_bits x m = bit_and x (18446744073709551615 * 2 ^ m % 18446744073709551616)

high_inside : (x m b : ℕ) → m ≤ b → b < 64 → bit_at (high_bits x m) b ≡ min (bit_at x b) 1
high_inside x m b lo hi =
    bit_at_and x (18446744073709551615 * 2 ^ m % 18446744073709551616) b
    ∙ ap (λ k. min (bit_at x b) (bit_at k b)) (ones_shl 64 m (omega arith))
    ∙ ap (λ n. min (bit_at x b) n) (bit_at_mask_inside m 64 b lo hi)

high_below : (x m b : ℕ) → b < m → m < 64 → bit_at (high_bits x m) b ≡ min (bit_at x b) 0
high_below x m b lo hi =
    bit_at_and x (18446744073709551615 * 2 ^ m % 18446744073709551616) b
    ∙ ap (λ k. min (bit_at x b) (bit_at k b)) (ones_shl 64 m (omega arith))
    ∙ ap (λ n. min (bit_at x b) n) (bit_at_mask_below m 64 b lo)

high_clear : (x m b : ℕ) → m ≤ b → b < 64 → bit_at (high_bits x m) b ≡ 0 → bit_at x b ≡ 0
high_clear x m b lo hi e = omega (arith, high_inside x m b lo hi, e, bit_at-lt x b)

record HighBit (x m b : ℕ) : Type 0 where
  past : m ≤ b
  set : bit_at x b ≡ 1

high_set : (x m b : ℕ) → m < 64 → b < 64 → bit_at (high_bits x m) b ≡ 1 → HighBit x m b
high_set x m b hm hb e = elim (cases_lt b m) [
  | inl lt ↦ absurd (omega (arith, high_below x m b lt hm, e))
  | inr ge ↦ record { past = ge; set = omega (arith, high_inside x m b ge hb, e, bit_at-lt x b) }
]

pub found_first : (words : List ℕ) (from : ℕ) → get_or words (from / 64) 0 < 2 ^ 64 → high_bits (get_or words (from / 64) 0) (from % 64) ≢ 0
    → IsNext words from (from / 64 * 64 + trailing_zeros w64 (high_bits (get_or words (from / 64) 0) (from % 64)))
found_first words from hx some =
    let x = get_or words (from / 64) 0 in
    let m = from % 64 in
    let i = from / 64 in
    let y = high_bits x m in
    let t = trailing_zeros w64 y in
    let hm : m < 64 = mod_below from 64 (omega arith) in
    let whole : i * 64 + m ≡ from = div-add-mod' from 64 in
    let hy : y < 2 ^ 64 = omega (arith, hx, and_le_l x (18446744073709551615 * 2 ^ m % 18446744073709551616)) in
    let f = bit_at-trailing_zeros w64 y (omega (arith, some)) hy in
    let h = high_set x m t hm f.0 f.1 in
    record {
      past = omega (arith, whole, h.past);
      set = bit_set words i t f.0 h.set;
      first = λ j lo hi.
          let b = j - i * 64 in
          let above : i * 64 ≤ j = omega (arith, whole, lo) in
          let small : b < t = omega (arith, above, hi) in
          let far : m ≤ b = omega (arith, whole, lo, above) in
          bit_clear words i j above (omega (arith, hi, f.0)) (high_clear x m b far (omega (arith, small, f.0)) (f.2 b small));
    }

pub none_first : (words : List ℕ) (from : ℕ) → high_bits (get_or words (from / 64) 0) (from % 64) ≡ 0 → ClearTo words from ((from / 64 + 1) * 64)
none_first words from none =
    let x = get_or words (from / 64) 0 in
    let m = from % 64 in
    let i = from / 64 in
    let whole : i * 64 + m ≡ from = div-add-mod' from 64 in
    record {
      all = λ j lo hi.
          let b = j - i * 64 in
          let above : i * 64 ≤ j = omega (arith, whole, lo) in
          let far : m ≤ b = omega (arith, whole, lo, above) in
          let small : b < 64 = omega (arith, above, hi) in
          bit_clear words i j above hi (high_clear x m b far small (ap (λ n. bit_at n b) none ∙ bit_at-zero b));
    }

pub past_first : (from : ℕ) → from ≤ (from / 64 + 1) * 64
past_first from = let whole : from / 64 * 64 + from % 64 ≡ from = div-add-mod' from 64 in let m = mod_below from 64 (omega arith) in omega (arith, whole, m)

pub found_later : (words : List ℕ) (from i : ℕ) → get_or words i 0 < 2 ^ 64 → get_or words i 0 ≢ 0 → from ≤ i * 64 → ClearTo words from (i * 64)
    → IsNext words from (i * 64 + trailing_zeros w64 (get_or words i 0))
found_later words from i hx some past clear =
    let x = get_or words i 0 in
    let t = trailing_zeros w64 x in
    let f = bit_at-trailing_zeros w64 x (omega (arith, some)) hx in
    record {
      past = omega (arith, past);
      set = bit_set words i t f.0 f.1;
      first = λ j lo hi. elim (cases_lt j (i * 64)) [
        | inl before ↦ clear.all j lo before
        | inr here ↦ (let small : j - i * 64 < t = omega (arith, here, hi) in bit_clear words i j here (omega (arith, hi, f.0)) (f.2 (j - i * 64) small))
      ];
    }

pub none_more : (words : List ℕ) (from i : ℕ) → get_or words i 0 ≡ 0 → ClearTo words from (i * 64) → ClearTo words from ((i + 1) * 64)
none_more words from i none clear = record {
  all = λ j lo hi. elim (cases_lt j (i * 64)) [
    | inl before ↦ clear.all j lo before
    | inr here ↦ bit_clear words i j here hi (ap (λ n. bit_at n (j - i * 64)) none ∙ bit_at-zero (j - i * 64))
  ];
}

pub none_all : (words : List ℕ) (from i : ℕ) → length words ≤ i → ClearTo words from (i * 64) → NoneFrom words from
none_all words from i all clear = record {
  clear = λ j lo. elim (cases_lt j (i * 64)) [
    | inl before ↦ clear.all j lo before
    | inr here ↦ bit_of-past words j (omega arith)
  ];
}

pub none_past : (words : List ℕ) (from : ℕ) → length words ≤ from / 64 → NoneFrom words from
none_past words from past = record { clear = λ j lo. bit_of-past words j (omega arith) }

-- ---- a bit that is cleared
-- the word that a bit is cleared in
abbrev pub without_bit : ℕ → ℕ → ℕ
without_bit w b = bit_and w (18446744073709551615 - 1 * 2 ^ b % 18446744073709551616)

other_bit : (words : List ℕ) (n k : ℕ) → n / 64 < length words → k ≢ n → bit_of (set words (n / 64) (without_bit (get_or words (n / 64) 0) (n % 64))) k ≡ bit_of words k
unfolding bit_of
other_bit words n k within other =
    let new = without_bit (get_or words (n / 64) 0) (n % 64) in
    elim (cases_eq (k / 64) (n / 64)) [
      | inl row ↦
          let apart : k % 64 ≢ n % 64 = λ e. other (sym (div-add-mod' k 64) ∙ ap (λ a. a * 64 + k % 64) row ∙ ap (λ b. n / 64 * 64 + b) e ∙ div-add-mod' n 64) in
          ap (λ w. eqb (bit_at w (k % 64)) 1) (same_word words n k within row new)
          ∙ ap (λ b. eqb b 1) (bit_at_clear_other w64 (get_or words (n / 64) 0) (n % 64) (mod_below n 64 (omega arith)) (k % 64) (mod_below k 64 (omega arith)) apart)
          ∙ ap (λ i. eqb (bit_at (get_or words i 0) (k % 64)) 1) (sym row)
      | inr apart ↦ ap (λ w. eqb (bit_at w (k % 64)) 1) (get_or-set_other words (n / 64) (k / 64) new 0 apart)
    ]

this_bit : (words : List ℕ) (n k : ℕ) → n / 64 < length words → k ≡ n → bit_of (set words (n / 64) (without_bit (get_or words (n / 64) 0) (n % 64))) k ≡ false
unfolding bit_of
this_bit words n k within same =
    let new = without_bit (get_or words (n / 64) 0) (n % 64) in
    ap (λ w. eqb (bit_at w (k % 64)) 1) (same_word words n k within (ap (λ i. i / 64) same) new)
    ∙ ap (λ i. eqb (bit_at new (i % 64)) 1) same
    ∙ ap (λ b. eqb b 1) (bit_at_clear_same w64 (get_or words (n / 64) 0) (n % 64) (mod_below n 64 (omega arith)))

pub bit_of-clear : (words : List ℕ) (n : ℕ) → n / 64 < length words → (k : ℕ) → bit_of (set words (n / 64) (without_bit (get_or words (n / 64) 0) (n % 64))) k ≡ (not (eqb k n) && bit_of words k)
bit_of-clear words n within k =
    elim (cases_eq k n) [
      | inl same ↦ this_bit words n k within same ∙ sym (ap (λ b. not b && bit_of words k) (eq-eqb k n same))
      | inr other ↦ other_bit words n k within other ∙ sym (ap (λ b. not b && bit_of words k) (ne_eqb k n other))
    ]

-- ---- the bits below a number
pub record AreFull (words : List ℕ) (k : ℕ) : Type 0 where
  pub each : (i : ℕ) → i < k → get_or words i 0 ≡ 18446744073709551615

pub full_more : (words : List ℕ) (k : ℕ) → k < length words → AreFull words k → AreFull (set words k 18446744073709551615) (k + 1)
full_more words k within full = record {
  each = λ i h. elim (cases_eq i k) [
    | inl e ↦ ap (λ n. get_or (set words k 18446744073709551615) n 0) e ∙ get_or-set_same words k 18446744073709551615 0 within
    | inr ne ↦ get_or-set_other words k i 18446744073709551615 0 ne ∙ full.each i (omega (arith, h, ne))
  ];
}

low_ones : (m : ℕ) → m < 64 → 1 * 2 ^ m % 18446744073709551616 - 1 ≡ 2 ^ m - 1
low_ones m h =
    let one : 1 * 2 ^ m ≡ 2 ^ m = omega arith in
    ap (λ x. x % 18446744073709551616 - 1) one ∙ ap (λ x. x - 1) (mod-eq_of_lt (pow_below m 64 h))

pub bits_below : (words : List ℕ) (n : ℕ) → length words ≡ n / 64 + 1 → AreFull words (n / 64) → (k : ℕ) → bit_of (set words (n / 64) (1 * 2 ^ (n % 64) % 18446744073709551616 - 1)) k ≡ nat_lt k n
unfolding bit_of
bits_below words n len full k =
    let new = 1 * 2 ^ (n % 64) % 18446744073709551616 - 1 in
    let within : n / 64 < length words = omega (arith, len) in
    let dk = div-add-mod' k 64 in
    let dn = div-add-mod' n 64 in
    let mk = mod_below k 64 (omega arith) in
    let mn = mod_below n 64 (omega arith) in
    elim (cases_lt (k / 64) (n / 64)) [
      | inl before ↦ (let ne : k / 64 ≢ n / 64 = omega (arith, before) in
          ap (λ w. eqb (bit_at w (k % 64)) 1) (get_or-set_other words (n / 64) (k / 64) new 0 ne ∙ full.each (k / 64) before)
          ∙ ap (λ b. eqb b 1) (bit_at_ones 64 (k % 64) mk)
          ∙ sym (lt-ltb k n (omega (arith, dk, dn, mk, mn, before))))
      | inr after ↦ elim (cases_eq (k / 64) (n / 64)) [
        | inl same ↦
            ap (λ w. eqb (bit_at w (k % 64)) 1) (same_word words n k within same new ∙ low_ones (n % 64) mn)
            ∙ elim (cases_lt (k % 64) (n % 64)) [
              | inl lt ↦ ap (λ b. eqb b 1) (bit_at_ones (n % 64) (k % 64) lt) ∙ sym (lt-ltb k n (omega (arith, dk, dn, same, lt)))
              | inr ge ↦ ap (λ b. eqb b 1) (bit_at_ones_above (n % 64) (k % 64) ge) ∙ sym (le-ltb k n (omega (arith, dk, dn, same, ge)))
            ]
        | inr apart ↦
            ap (λ w. eqb (bit_at w (k % 64)) 1) (get_or-set_other words (n / 64) (k / 64) new 0 apart ∙ get_or_past words (k / 64) 0 (omega (arith, len, after, apart)))
            ∙ ap (λ b. eqb b 1) (bit_at-zero (k % 64))
            ∙ sym (le-ltb k n (omega (arith, dk, dn, mk, mn, after, apart)))
      ]
    ]
