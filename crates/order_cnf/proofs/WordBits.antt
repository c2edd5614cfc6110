-- Words of bits.
use Rattle.order_cnf.proofs.Prelude.{◌≡◌, ◌≢◌, refl, sym, ap, ◌∙◌, ℕ, zero, suc, ◌+◌, ◌-◌, ◌*◌, ◌/◌, ◌%◌, ◌^◌, ◌<◌, ◌≤◌, min, Bool, true, false, eqb, ◌&&◌, ◌||◌, inl, inr, arith, bit_and, bit_or, nat_le, bit_at, w64, trailing_zeros}
use Rattle.order_cnf.proofs.Prelude.{cases_lt, le-leb, lt-leb, div-add-mod', mod_below, bit_at_and, bit_at_or, bit_at-lt, bit_at-trailing_zeros, bit_at-zero, bit_at_ones, bit_at_mask_inside, bit_at_mask_below, ones_shl, IsWord}
use Rattle.known_graph.proofs.Fresh.{either_bit}

both : (x y : ℕ) → x < 2 → y < 2 → eqb (min x y) 1 ≡ (eqb x 1 && eqb y 1)
both zero y hx hy = let e : min 0 y ≡ 0 = omega arith in ap (λ n. eqb n 1) e
both (suc zero) zero hx hy = refl
both (suc zero) (suc zero) hx hy = refl
both (suc zero) (suc (suc y)) hx hy = absurd (omega arith)
both (suc (suc x)) y hx hy = absurd (omega arith)

pub and_word : (p q : ℕ → Bool) (place a b : ℕ) → IsWord p place a → IsWord q place b → IsWord (λ k. p k && q k) place (bit_and a b)
and_word p q place a b f g = record {
  bits = λ i h.
      ap (λ n. eqb n 1) (bit_at_and a b i) ∙ both (bit_at a i) (bit_at b i) (bit_at-lt a i) (bit_at-lt b i)
      ∙ ap (λ x. x && eqb (bit_at b i) 1) (f.bits i h) ∙ ap (λ x. p (place * 64 + i) && x) (g.bits i h);
}

pub or_word : (p q : ℕ → Bool) (place a b : ℕ) → IsWord p place a → IsWord q place b → IsWord (λ k. p k || q k) place (bit_or a b)
or_word p q place a b f g = record {
  bits = λ i h.
      ap (λ n. eqb n 1) (bit_at_or a b i) ∙ either_bit (bit_at a i) (bit_at b i) (bit_at-lt a i) (bit_at-lt b i)
      ∙ ap (λ x. x || eqb (bit_at b i) 1) (f.bits i h) ∙ ap (λ x. p (place * 64 + i) || x) (g.bits i h);
}

pub word_as : (p q : ℕ → Bool) (place a : ℕ) → ((k : ℕ) → p k ≡ q k) → IsWord p place a → IsWord q place a
word_as p q place a same f = record { bits = λ i h. f.bits i h ∙ same (place * 64 + i) }

pub no_word : (p : ℕ → Bool) (place : ℕ) → ((k : ℕ) → p k ≡ false) → IsWord p place 0
no_word p place none = record { bits = λ i h. ap (λ n. eqb n 1) (bit_at-zero i) ∙ sym (none (place * 64 + i)) }

-- ---- the numbers from one on
pub all_from : (from place : ℕ) → from / 64 < place → IsWord (nat_le from) place 18446744073709551615
all_from from place h =
    let whole : from / 64 * 64 + from % 64 ≡ from = div-add-mod' from 64 in
    let small : from % 64 < 64 = mod_below from 64 (omega arith) in
    record {
      bits = λ i lt. ap (λ n. eqb n 1) (bit_at_ones 64 i lt) ∙ sym (le-leb from (place * 64 + i) (omega (arith, whole, small, h)));
    }

pub some_from : (from place : ℕ) → place ≤ from / 64 → from / 64 ≤ place → IsWord (nat_le from) place (18446744073709551615 * 2 ^ (from % 64) % 18446744073709551616)
some_from from place lo hi =
    let m = from % 64 in
    let whole : from / 64 * 64 + m ≡ from = div-add-mod' from 64 in
    let small : m < 64 = mod_below from 64 (omega arith) in
    let mask = ones_shl 64 m (omega (arith, small)) in
    record {
      bits = λ i lt. elim (cases_lt i m) [
        | inl below ↦
            ap (λ w. eqb (bit_at w i) 1) mask ∙ ap (λ n. eqb n 1) (bit_at_mask_below m 64 i below)
            ∙ sym (lt-leb from (place * 64 + i) (omega (arith, whole, below, lo, hi)))
        | inr behind ↦
            ap (λ w. eqb (bit_at w i) 1) mask ∙ ap (λ n. eqb n 1) (bit_at_mask_inside m 64 i behind lt)
            ∙ sym (le-leb from (place * 64 + i) (omega (arith, whole, behind, lo, hi)))
      ];
    }

-- ---- the first bit that is set
-- one of the numbers of a word, at which q holds, and at none before it
pub record IsFirstOf (q : ℕ → Bool) (place k : ℕ) : Type 0 where
  pub low : place * 64 ≤ k
  pub here : q k ≡ true
  pub before : (j : ℕ) → place * 64 ≤ j → j < k → q j ≡ false

pub bit_from_word : (q : ℕ → Bool) (place w k n : ℕ) → IsWord q place w → place * 64 ≤ k → k < place * 64 + 64 → bit_at w (k - place * 64) ≡ n → q k ≡ eqb n 1
bit_from_word q place w k n word lo hi e =
    let b = k - place * 64 in
    let at : place * 64 + b ≡ k = omega (arith, lo) in
    ap q (sym at) ∙ sym (word.bits b (omega (arith, lo, hi))) ∙ ap (λ x. eqb x 1) e

pub first_bit : (q : ℕ → Bool) (place w : ℕ) → IsWord q place w → w < 2 ^ 64 → w ≢ 0 → IsFirstOf q place (place * 64 + trailing_zeros w64 w)
first_bit q place w word small some =
    let t = trailing_zeros w64 w in
    let f = bit_at-trailing_zeros w64 w (omega (arith, some)) small in
    let back : place * 64 + t - place * 64 ≡ t = omega arith in
    record {
      low = omega arith;
      here = bit_from_word q place w (place * 64 + t) 1 word (omega arith) (omega (arith, f.0)) (ap (bit_at w) back ∙ f.1);
      before = λ j lo hi. bit_from_word q place w j 0 word lo (omega (arith, hi, f.0)) (f.2 (j - place * 64) (omega (arith, lo, hi)));
    }

pub none_of_word : (q : ℕ → Bool) (place w : ℕ) → IsWord q place w → w ≡ 0 → (k : ℕ) → place * 64 ≤ k → k < (place + 1) * 64 → q k ≡ false
none_of_word q place w word none k lo hi =
    bit_from_word q place w k 0 word lo (omega (arith, hi)) (ap (λ x. bit_at x (k - place * 64)) none ∙ bit_at-zero (k - place * 64))
