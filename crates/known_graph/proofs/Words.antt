-- Bits in words.
use Rattle.known_graph.proofs.Prelude.{◌≡◌, ◌≢◌, ℕ, ◌+◌, ◌*◌, ◌/◌, ◌%◌, ◌^◌, ◌<◌, ◌≤◌, false, eqb, ◌||◌, List, length, get_or, set, replicate, sym, ap, ◌∙◌, inl, inr, arith, eq-eqb, ne_eqb, get_or-set_same, get_or-set_other, bit_and}
use Rattle.known_graph.proofs.Prelude.{bit_or, bit_at, w64, or-false, cases_eq, cases_lt, or_left, get_or_past, get_or-replicate, length-replicate, div-add-mod', div-mul-add, mod-mul-add, mod_below, bit_at-zero, shr_and_one}
use Rattle.known_graph.proofs.Prelude.{bit_at_set_same, bit_at_set_other, bit_of}
use Rattle.known_graph.proofs.Bools.{or_second}

pub bit_of-past : (words : List ℕ) (k : ℕ) → length words ≤ k / 64 → bit_of words k ≡ false
unfolding bit_of
bit_of-past words k h = let e : bit_at (get_or words (k / 64) 0) (k % 64) ≡ 0 = ap (λ w. bit_at w (k % 64)) (get_or_past words (k / 64) 0 h) ∙ bit_at-zero (k % 64) in ap (λ b. eqb b 1) e

pub bit_of-read : (words : List ℕ) (k : ℕ) → eqb (bit_and (get_or words (k / 64) 0 / 2 ^ (k % 64)) 1) 1 ≡ bit_of words k
unfolding bit_of
bit_of-read words k = ap (λ b. eqb b 1) (shr_and_one (get_or words (k / 64) 0) (k % 64))

-- bit b of word i
pub bit_there : (words : List ℕ) (i b : ℕ) → b < 64 → bit_of words (i * 64 + b) ≡ eqb (bit_at (get_or words i 0) b) 1
unfolding bit_of
bit_there words i b h =
    ap (λ k. eqb (bit_at (get_or words k 0) ((i * 64 + b) % 64)) 1) (div-mul-add i 64 b h)
    ∙ ap (λ c. eqb (bit_at (get_or words i 0) c) 1) (mod-mul-add i 64 b h)

-- the word that a bit is set in
abbrev pub with_bit : ℕ → ℕ → ℕ
with_bit w b = bit_or w (1 * 2 ^ b % 2 ^ 64)

pub same_word : (words : List ℕ) (n k : ℕ) → n / 64 < length words → k / 64 ≡ n / 64 → (new : ℕ) → get_or (set words (n / 64) new) (k / 64) 0 ≡ new
same_word words n k within row new = ap (λ i. get_or (set words (n / 64) new) i 0) row ∙ get_or-set_same words (n / 64) new 0 within

-- the word of n changes at bit n alone: another bit, and this one
pub other_bit : (words : List ℕ) (n k new : ℕ) → n / 64 < length words → k ≢ n → ((b : ℕ) → b < 64 → b ≢ n % 64 → bit_at new b ≡ bit_at (get_or words (n / 64) 0) b) → bit_of (set words (n / 64) new) k ≡ bit_of words k
unfolding bit_of
other_bit words n k new within other same =
    elim (cases_eq (k / 64) (n / 64)) [
      | inl row ↦
          let apart : k % 64 ≢ n % 64 = λ e. other (sym (div-add-mod' k 64) ∙ ap (λ a. a * 64 + k % 64) row ∙ ap (λ b. n / 64 * 64 + b) e ∙ div-add-mod' n 64) in
          ap (λ w. eqb (bit_at w (k % 64)) 1) (same_word words n k within row new)
          ∙ ap (λ b. eqb b 1) (same (k % 64) (mod_below k 64 (omega arith)) apart)
          ∙ ap (λ i. eqb (bit_at (get_or words i 0) (k % 64)) 1) (sym row)
      | inr apart ↦ ap (λ w. eqb (bit_at w (k % 64)) 1) (get_or-set_other words (n / 64) (k / 64) new 0 apart)
    ]

pub this_bit : (words : List ℕ) (n k new bit : ℕ) → n / 64 < length words → k ≡ n → bit_at new (n % 64) ≡ bit → bit_of (set words (n / 64) new) k ≡ eqb bit 1
unfolding bit_of
this_bit words n k new bit within same here =
    ap (λ w. eqb (bit_at w (k % 64)) 1) (same_word words n k within (ap (λ i. i / 64) same) new)
    ∙ ap (λ i. eqb (bit_at new (i % 64)) 1) same
    ∙ ap (λ b. eqb b 1) here

pub bit_of-set : (words : List ℕ) (n : ℕ) → n / 64 < length words → (k : ℕ) → bit_of (set words (n / 64) (with_bit (get_or words (n / 64) 0) (n % 64))) k ≡ (eqb k n || bit_of words k)
bit_of-set words n within k =
    let word = get_or words (n / 64) 0 in
    let small = mod_below n 64 (omega arith) in
    elim (cases_eq k n) [
      | inl same ↦ this_bit words n k (with_bit word (n % 64)) 1 within same (bit_at_set_same w64 word (n % 64) small) ∙ sym (or_left (eqb k n) (bit_of words k) (eq-eqb k n same))
      | inr other ↦ other_bit words n k (with_bit word (n % 64)) within other (λ b lt. bit_at_set_other w64 word (n % 64) small b) ∙ sym (or_second (eqb k n) (bit_of words k) (ne_eqb k n other))
    ]

-- one bit more is set
pub record SetsBit (old new : List ℕ) (n : ℕ) : Type 0 where
  pub bits : (k : ℕ) → bit_of new k ≡ (eqb k n || bit_of old k)
  pub len : length new ≡ length old

-- ---- no bits
pub bit_of-zeros : (n k : ℕ) → bit_of (replicate n 0) k ≡ false
unfolding bit_of
bit_of-zeros n k = elim (cases_lt (k / 64) n) [
  | inl within ↦ ap (λ w. eqb (bit_at w (k % 64)) 1) (get_or-replicate n (k / 64) 0 0 within) ∙ ap (λ b. eqb b 1) (bit_at-zero (k % 64))
  | inr past ↦ bit_of-past (replicate n 0) k (omega (arith, past, length-replicate {A = ℕ} n 0))
]

pub only_bit : (zeros new : List ℕ) (n u a : ℕ) → zeros ≡ replicate n 0 → a ≡ u → ((k : ℕ) → bit_of new k ≡ (eqb k a || bit_of zeros k)) → (k : ℕ) → bit_of new k ≡ eqb k u
only_bit zeros new n u a e same bits k =
    bits k ∙ ap (λ b. eqb k a || b) (ap (λ l. bit_of l k) e ∙ bit_of-zeros n k) ∙ or-false (eqb k a) ∙ ap (eqb k) same
