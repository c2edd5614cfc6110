-- The numbers of set bits, word by word.
use Rattle.known_graph.proofs.Prelude.{◌≡◌, ◌≢◌, ℕ, zero, suc, ◌+◌, ◌-◌, ◌*◌, ◌/◌, ◌%◌, ◌^◌, ◌<◌, ◌≤◌, Bool, true, false, eqb, ◌||◌, ◌&&◌, List, [], ◌∷◌, ◌++◌, length, get_or, set, refl, sym, ap, ◌∙◌, inl, inr, arith, append_assoc}
use Rattle.known_graph.proofs.Prelude.{get_or-set_same, bit_and, bit_or, not, min, max, bit_at, bit_not, trailing_zeros, w64, filter, range_with_len, cases_eq, cases_lt, cond-true, cond-false, map-append, get_or-set_other, filter-append}
use Rattle.known_graph.proofs.Prelude.{div-mul-add, mod-mul-add, and_le_l, bit_at-zero, bit_at-lt, bit_at_and, bit_at_or, bit_at_not, bit_at-trailing_zeros, bit_at_clear_same, bit_at_clear_other, and_first, Reached, bit_of, reached_from}
use Rattle.known_graph.proofs.Prelude.{word_numbers, fresh_numbers}
use Rattle.known_graph.proofs.Listed.{In, In-of_range, filter_same}
use Rattle.known_graph.proofs.Words.{bit_of-past}

-- ---- filters of ranges
pub range-append : (a m n : ℕ) → range_with_len a (m + n) ≡ range_with_len a m ++ range_with_len (a + m) n
range-append a zero n = let e : 0 + n ≡ n = omega arith in let f : a ≡ a + 0 = omega arith in ap (range_with_len a) e ∙ ap (λ x. range_with_len x n) f
range-append a (suc m) n =
    let e : suc m + n ≡ suc (m + n) = omega arith in
    let f : a + 1 + m ≡ a + suc m = omega arith in
    ap (range_with_len a) e ∙ ap (λ l. a ∷ l) (range-append (a + 1) m n) ∙ ap (λ x. a ∷ (range_with_len (a + 1) m ++ range_with_len x n)) f

filter_none : (p : ℕ → Bool) (xs : List ℕ) → ((x : ℕ) → In x xs → p x ≡ false) → filter p xs ≡ []
filter_none p [] h = refl
filter_none p (x ∷ xs) h = cond-false (p x) (x ∷ filter p xs) (filter p xs) (h x (inl refl)) ∙ filter_none p xs (λ y k. h y (inr k))

-- q is p without t, the first at which p holds
pub record Without (p q : ℕ → Bool) (a n t : ℕ) : Type 0 where
  pub low : a ≤ t
  pub high : t < a + n
  pub here : p t ≡ true
  pub below : (v : ℕ) → a ≤ v → v < t → p v ≡ false
  pub gone : q t ≡ false
  pub other : (v : ℕ) → a ≤ v → v < a + n → v ≢ t → q v ≡ p v

first_kept : (p q : ℕ → Bool) (n a t : ℕ) → Without p q a n t → filter p (range_with_len a n) ≡ t ∷ filter q (range_with_len a n)
first_kept p q zero a t w = absurd (omega (arith, w.low, w.high))
first_kept p q (suc n) a t w = elim (cases_eq a t) [
  | inl e ↦
      let pa : p a ≡ true = ap p e ∙ w.here in
      let qa : q a ≡ false = ap q e ∙ w.gone in
      let rest : filter p (range_with_len (a + 1) n) ≡ filter q (range_with_len (a + 1) n) =
      filter_same p q (range_with_len (a + 1) n) (λ v k. (let r = In-of_range v (a + 1) n k in sym (w.other v (omega (arith, r.0)) (omega (arith, r.1)) (λ bad. absurd (omega (arith, r.0, bad, e)))))) in
      cond-true (p a) (a ∷ filter p (range_with_len (a + 1) n)) (filter p (range_with_len (a + 1) n)) pa
      ∙ ap (λ l. a ∷ l) rest
      ∙ ap (λ x. x ∷ filter q (range_with_len (a + 1) n)) e
      ∙ ap (λ l. t ∷ l) (sym (cond-false (q a) (a ∷ filter q (range_with_len (a + 1) n)) (filter q (range_with_len (a + 1) n)) qa))
  | inr ne ↦
      let lt : a < t = omega (arith, ne, w.low) in
      let pa : p a ≡ false = w.below a (omega arith) lt in
      let qa : q a ≡ false = w.other a (omega arith) (omega arith) ne ∙ pa in
      let rest = first_kept p q n (a + 1) t (record {
        low = omega (arith, lt);
        high = omega (arith, w.high);
        here = w.here;
        below = λ v lo hi. w.below v (omega arith) hi;
        gone = w.gone;
        other = λ v lo hi nv. w.other v (omega arith) (omega arith) nv;
      }) in
      cond-false (p a) (a ∷ filter p (range_with_len (a + 1) n)) (filter p (range_with_len (a + 1) n)) pa
      ∙ rest
      ∙ ap (λ l. t ∷ l) (sym (cond-false (q a) (a ∷ filter q (range_with_len (a + 1) n)) (filter q (range_with_len (a + 1) n)) qa))
]

-- ---- the bits of one word
-- the word without a bit
abbrev pub without_bit : ℕ → ℕ → ℕ
without_bit word k = bit_and word (bit_not w64 (1 * 2 ^ k % 2 ^ 64))

pub word_numbers-zero : (first : ℕ) → word_numbers first 0 ≡ []
unfolding word_numbers
word_numbers-zero first = filter_none (λ v. eqb (bit_at 0 (v - first)) 1) (range_with_len first 64) (λ v k. ap (λ b. eqb b 1) (bit_at-zero (v - first)))

pub word_numbers-first : (first word : ℕ) → 0 < word → word < 2 ^ 64 → word_numbers first word ≡ (first + trailing_zeros w64 word) ∷ word_numbers first (without_bit word (trailing_zeros w64 word))
unfolding word_numbers
word_numbers-first first word lo hi =
    let t = trailing_zeros w64 word in
    let z = bit_at-trailing_zeros w64 word lo hi in
    let back : first + t - first ≡ t = omega arith in
    first_kept (λ v. eqb (bit_at word (v - first)) 1) (λ v. eqb (bit_at (without_bit word t) (v - first)) 1) 64 first (first + t) (record {
      low = omega arith;
      high = omega (arith, z.0);
      here = ap (λ i. eqb (bit_at word i) 1) back ∙ ap (λ b. eqb b 1) z.1;
      below = λ v l h. ap (λ b. eqb b 1) (z.2 (v - first) (omega arith));
      gone = ap (λ i. eqb (bit_at (without_bit word t) i) 1) back ∙ ap (λ b. eqb b 1) (bit_at_clear_same w64 word t z.0);
      other = λ v l h ne. ap (λ b. eqb b 1) (bit_at_clear_other w64 word t z.0 (v - first) (omega arith) (λ e. ne (omega (arith, e, l))));
    })

zero_or_one : (n : ℕ) → n ≡ 0 → n ≡ 1 → ⊥
zero_or_one n p q = omega arith

pub without_bit-lt : (word k : ℕ) → k < 64 → bit_at word k ≡ 1 → without_bit word k < word
without_bit-lt word k within one = elim (cases_eq (without_bit word k) word) [
  | inl same ↦ absurd (zero_or_one (bit_at (without_bit word k) k) (bit_at_clear_same w64 word k within) (ap (λ w. bit_at w k) same ∙ one))
  | inr other ↦ omega (arith, other, and_le_l word (bit_not w64 (1 * 2 ^ k % 2 ^ 64)))
]

pub without_bit-bit : (word k b : ℕ) → k < 64 → b < 64 → bit_at (without_bit word k) b ≡ 1 → bit_at word b ≡ 1
without_bit-bit word k b within hb one = elim (cases_eq b k) [
  | inl same ↦ absurd (zero_or_one (bit_at (without_bit word k) k) (bit_at_clear_same w64 word k within) (ap (bit_at (without_bit word k)) (sym same) ∙ one))
  | inr other ↦ sym (bit_at_clear_other w64 word k within b hb other) ∙ one
]

-- ---- found nodes, one by one and word by word

pub add_first : (now next total : List Reached) (from v node : ℕ) (ws rest : List ℕ) → ws ≡ v ∷ rest → node ≡ v → next ≡ now ++ record { node = node; from = from } ∷ [] → now ++ reached_from from ws ≡ total → next ++ reached_from from rest ≡ total
add_first now next total from v node ws rest e n p h =
    ap (λ l. l ++ reached_from from rest) p
    ∙ append_assoc now (record { node = node; from = from } ∷ []) (reached_from from rest)
    ∙ ap (λ x. now ++ record { node = x; from = from } ∷ reached_from from rest) n
    ∙ ap (λ l. now ++ reached_from from l) (sym e)
    ∙ h

pub add_numbers : (start now next : List Reached) (from : ℕ) (old ws all : List ℕ) → now ≡ start ++ reached_from from old → next ≡ now ++ reached_from from ws → all ≡ old ++ ws → next ≡ start ++ reached_from from all
add_numbers start now next from old ws all p q e =
    q ∙ ap (λ l. l ++ reached_from from ws) p
    ∙ append_assoc start (reached_from from old) (reached_from from ws)
    ∙ ap (λ l. start ++ l) (sym (map-append (λ v. (let r : Reached = record { node = v; from = from } in r)) old ws))
    ∙ ap (λ l. start ++ reached_from from l) (sym e)

-- ---- the bits of a row that are not seen
abbrev pub is_fresh : List ℕ → List ℕ → ℕ → Bool
is_fresh row seen v = bit_of row v && not (bit_of seen v)

abbrev pub fresh_below : List ℕ → List ℕ → ℕ → List ℕ
fresh_below row seen i = filter (is_fresh row seen) (range_with_len 0 (i * 64))

abbrev pub fresh_word : ℕ → ℕ → ℕ
fresh_word word seen = bit_and word (bit_not w64 seen)

both_bits : (x y : ℕ) → x < 2 → y < 2 → eqb (min x (1 - y)) 1 ≡ (eqb x 1 && not (eqb y 1))
both_bits zero y hx hy = let e : min 0 (1 - y) ≡ 0 = omega arith in ap (λ z. eqb z 1) e
both_bits (suc zero) zero hx hy = refl
both_bits (suc zero) (suc zero) hx hy = refl
both_bits (suc zero) (suc (suc y)) hx hy = absurd (omega arith)
both_bits (suc (suc x)) y hx hy = absurd (omega arith)

fresh_bit : (word seen b : ℕ) → seen < 2 ^ 64 → b < 64 → eqb (bit_at (fresh_word word seen) b) 1 ≡ (eqb (bit_at word b) 1 && not (eqb (bit_at seen b) 1))
fresh_bit word seen b hs hb =
    ap (λ x. eqb x 1) (bit_at_and word (bit_not w64 seen) b ∙ ap (λ y. min (bit_at word b) y) (bit_at_not w64 seen b hs hb))
    ∙ both_bits (bit_at word b) (bit_at seen b) (bit_at-lt word b) (bit_at-lt seen b)

bit_of-word : (words : List ℕ) (i v : ℕ) → i * 64 ≤ v → v < i * 64 + 64 → bit_of words v ≡ eqb (bit_at (get_or words i 0) (v - i * 64)) 1
unfolding bit_of
bit_of-word words i v lo hi =
    let b = v - i * 64 in
    let e : v ≡ i * 64 + b = omega arith in
    let small : b < 64 = omega arith in
    ap (λ x. eqb (bit_at (get_or words (x / 64) 0) (x % 64)) 1) e
    ∙ ap (λ x. eqb (bit_at (get_or words x 0) ((i * 64 + b) % 64)) 1) (div-mul-add i 64 b small)
    ∙ ap (λ x. eqb (bit_at (get_or words i 0) x) 1) (mod-mul-add i 64 b small)

pub fresh_of_word : (row seen : List ℕ) (i : ℕ) → get_or seen i 0 < 2 ^ 64 → word_numbers (i * 64) (fresh_word (get_or row i 0) (get_or seen i 0)) ≡ filter (is_fresh row seen) (range_with_len (i * 64) 64)
unfolding word_numbers
fresh_of_word row seen i hs =
    let w = get_or row i 0 in
    let s = get_or seen i 0 in
    filter_same (λ v. eqb (bit_at (fresh_word w s) (v - i * 64)) 1) (is_fresh row seen) (range_with_len (i * 64) 64)
    (λ v k. (let r = In-of_range v (i * 64) 64 k in
    fresh_bit w s (v - i * 64) hs (omega (arith, r.0, r.1))
    ∙ sym (ap (λ x. x && not (bit_of seen v)) (bit_of-word row i v r.0 r.1) ∙ ap (λ y. eqb (bit_at w (v - i * 64)) 1 && not y) (bit_of-word seen i v r.0 r.1))))

pub fresh_more : (row seen : List ℕ) (i : ℕ) → get_or seen i 0 < 2 ^ 64 → fresh_below row seen (i + 1) ≡ fresh_below row seen i ++ word_numbers (i * 64) (fresh_word (get_or row i 0) (get_or seen i 0))
fresh_more row seen i hs =
    let e : (i + 1) * 64 ≡ i * 64 + 64 = omega arith in
    let f : 0 + i * 64 ≡ i * 64 = omega arith in
    ap (λ n. filter (is_fresh row seen) (range_with_len 0 n)) e
    ∙ ap (filter (is_fresh row seen)) (range-append 0 (i * 64) 64)
    ∙ filter-append (is_fresh row seen) (range_with_len 0 (i * 64)) (range_with_len (0 + i * 64) 64)
    ∙ ap (λ a. fresh_below row seen i ++ filter (is_fresh row seen) (range_with_len a 64)) f
    ∙ ap (λ l. fresh_below row seen i ++ l) (sym (fresh_of_word row seen i hs))

-- a bit of a word that is not seen is one of the row
pub fresh_word_bit : (row : List ℕ) (i seen b : ℕ) → seen < 2 ^ 64 → b < 64 → bit_at (fresh_word (get_or row i 0) seen) b ≡ 1 → bit_of row (i * 64 + b) ≡ true
fresh_word_bit row i seen b hs hb one =
    let back : i * 64 + b - i * 64 ≡ b = omega arith in
    let both : (eqb (bit_at (get_or row i 0) b) 1 && not (eqb (bit_at seen b) 1)) ≡ true = sym (fresh_bit (get_or row i 0) seen b hs hb) ∙ ap (λ x. eqb x 1) one in
    bit_of-word row i (i * 64 + b) (omega arith) (omega arith) ∙ ap (λ x. eqb (bit_at (get_or row i 0) x) 1) back ∙ and_first (eqb (bit_at (get_or row i 0) b) 1) (not (eqb (bit_at seen b) 1)) both

pub either_bit : (x y : ℕ) → x < 2 → y < 2 → eqb (max x y) 1 ≡ (eqb x 1 || eqb y 1)
either_bit zero zero hx hy = refl
either_bit zero (suc zero) hx hy = refl
either_bit (suc zero) zero hx hy = refl
either_bit (suc zero) (suc zero) hx hy = refl
either_bit x (suc (suc y)) hx hy = absurd (omega arith)
either_bit (suc (suc x)) y hx hy = absurd (omega arith)

either_word : (old row new : List ℕ) (v : ℕ) → get_or new (v / 64) 0 ≡ bit_or (get_or old (v / 64) 0) (get_or row (v / 64) 0) → bit_of new v ≡ (bit_of old v || bit_of row v)
unfolding bit_of
either_word old row new v e =
    let x = get_or old (v / 64) 0 in
    let y = get_or row (v / 64) 0 in
    ap (λ w. eqb (bit_at w (v % 64)) 1) e ∙ ap (λ b. eqb b 1) (bit_at_or x y (v % 64))
    ∙ either_bit (bit_at x (v % 64)) (bit_at y (v % 64)) (bit_at-lt x (v % 64)) (bit_at-lt y (v % 64))

pub either_row : (old row new : List ℕ) → length old ≡ length row → length new ≡ length old → ((k : ℕ) → k < length row → get_or new k 0 ≡ bit_or (get_or old k 0) (get_or row k 0)) → (v : ℕ) → bit_of new v ≡ (bit_of old v || bit_of row v)
either_row old row new e f each v = elim (cases_lt (v / 64) (length row)) [
  | inl within ↦ either_word old row new v (each (v / 64) within)
  | inr past ↦
      bit_of-past new v (omega (arith, past, e, f))
      ∙ sym (ap (λ b. b || bit_of row v) (bit_of-past old v (omega (arith, past, e))) ∙ bit_of-past row v past)
]

pub fresh_all : (row seen : List ℕ) (i : ℕ) → i ≡ length row → fresh_below row seen i ≡ fresh_numbers row seen
unfolding fresh_numbers
fresh_all row seen i e = ap (fresh_below row seen) e

-- ---- a loop that marks a row as seen
pub either_more : (old now row : List ℕ) (i x : ℕ) → i < length now → get_or now i 0 ≡ get_or old i 0 → x ≡ bit_or (get_or now i 0) (get_or row i 0) → ((k : ℕ) → k < i → get_or now k 0 ≡ bit_or (get_or old k 0) (get_or row k 0)) → (k : ℕ) → k < i + 1 → get_or (set now i x) k 0 ≡ bit_or (get_or old k 0) (get_or row k 0)
either_more old now row i x within same e before k h = elim (cases_lt k i) [
  | inl lt ↦ get_or-set_other now i k x 0 (λ bad. absurd (omega (arith, bad, lt))) ∙ before k lt
  | inr ge ↦
      let here : k ≡ i = omega (arith, ge, h) in
      ap (λ j. get_or (set now i x) j 0) here ∙ get_or-set_same now i x 0 within ∙ e
      ∙ ap (λ y. bit_or y (get_or row i 0)) same
      ∙ ap (λ j. bit_or (get_or old j 0) (get_or row j 0)) (sym here)
]

pub behind_more : (old now : List ℕ) (i x : ℕ) → ((k : ℕ) → i ≤ k → get_or now k 0 ≡ get_or old k 0) → (k : ℕ) → i + 1 ≤ k → get_or (set now i x) k 0 ≡ get_or old k 0
behind_more old now i x behind k h = get_or-set_other now i k x 0 (λ bad. absurd (omega (arith, bad, h))) ∙ behind k (omega (arith, h))
