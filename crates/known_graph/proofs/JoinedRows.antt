-- Bits of rows that are joined.
use Rattle.known_graph.proofs.Prelude.{◌≡◌, ◌≢◌, ℕ, ◌+◌, ◌*◌, ◌/◌, ◌%◌, ◌<◌, ◌≤◌, Bool, true, eqb, ◌||◌, ◌&&◌, List, length, get_or, set, refl, sym, ap, ◌∙◌, inl, inr, arith, eq-eqb, get_or-set_same, get_or-set_other, bit_or, bit_at}
use Rattle.known_graph.proofs.Prelude.{mul_assoc, cases_eq, and_left, div-mul-add, mod-mul-add, div-add-mod', div_below, mod_below, same_from_place, bit_of}
use Rattle.known_graph.proofs.Joined.{joined_bit, or_none}

-- ---- places of bits, where rows of words lie one behind the other
pub row_place_parts : (len u v : ℕ) → u * (len * 64) + v ≡ (u * len + v / 64) * 64 + v % 64
row_place_parts len u v = omega (arith, sym (mul_assoc u len 64), div-add-mod' v 64)

pub row_place_word : (len u v : ℕ) → (u * (len * 64) + v) / 64 ≡ u * len + v / 64
row_place_word len u v = ap (λ p. p / 64) (row_place_parts len u v) ∙ div-mul-add (u * len + v / 64) 64 (v % 64) (mod_below v 64 (omega arith))

pub row_place_bit : (len u v : ℕ) → (u * (len * 64) + v) % 64 ≡ v % 64
row_place_bit len u v = ap (λ p. p % 64) (row_place_parts len u v) ∙ mod-mul-add (u * len + v / 64) 64 (v % 64) (mod_below v 64 (omega arith))

-- the bit there, by its word
pub row_bit_is : (words : List ℕ) (len u v : ℕ) → bit_of words (u * (len * 64) + v) ≡ eqb (bit_at (get_or words (u * len + v / 64) 0) (v % 64)) 1
unfolding bit_of
row_bit_is words len u v = grind (arith, row_place_word, row_place_bit)

-- ---- the first words of one row are joined with those of another
pub record IsRowJoined (len to from i : ℕ) (old new : List ℕ) : Type 0 where
  pub joined : (j : ℕ) → j < i → get_or new (to * len + j) 0 ≡ bit_or (get_or old (to * len + j) 0) (get_or old (from * len + j) 0)
  pub later : (j : ℕ) → i ≤ j → j < len → get_or new (to * len + j) 0 ≡ get_or old (to * len + j) 0
  pub others : (a j : ℕ) → a ≢ to → j < len → get_or new (a * len + j) 0 ≡ get_or old (a * len + j) 0

pub row_joined_none : (len to from : ℕ) (old : List ℕ) → IsRowJoined len to from 0 old old
row_joined_none len to from old = record { joined = λ j h. absurd (omega arith); later = λ j h lt. refl; others = λ a j ne lt. refl }

from_same : (len to from i : ℕ) (old new : List ℕ) → IsRowJoined len to from i old new → i < len → get_or new (from * len + i) 0 ≡ get_or old (from * len + i) 0
from_same len to from i old new h lt = grind (arith, cases_eq)

pub row_joined_more : (len to from i : ℕ) (old new : List ℕ) → IsRowJoined len to from i old new → i < len → to * len + i < length new → IsRowJoined len to from (i + 1) old (set new (to * len + i) (bit_or (get_or new (to * len + i) 0) (get_or new (from * len + i) 0)))
row_joined_more len to from i old new h lt within =
    let word = bit_or (get_or new (to * len + i) 0) (get_or new (from * len + i) 0) in
    record {
      joined = λ j le. elim (cases_eq j i) [
        | inl e ↦
            ap (λ k. get_or (set new (to * len + i) word) (to * len + k) 0) e ∙ get_or-set_same new (to * len + i) word 0 within
            ∙ ap (λ x. bit_or x (get_or new (from * len + i) 0)) (h.later i (omega arith) lt)
            ∙ ap (λ x. bit_or (get_or old (to * len + i) 0) x) (from_same len to from i old new h lt)
            ∙ ap (λ k. bit_or (get_or old (to * len + k) 0) (get_or old (from * len + k) 0)) (sym e)
        | inr ne ↦
            (let apart : to * len + j ≢ to * len + i = omega (arith, ne) in
            get_or-set_other new (to * len + i) (to * len + j) word 0 apart ∙ h.joined j (omega (arith, ne)))
      ];
      later = λ j le small.
          (let apart : to * len + j ≢ to * len + i = omega arith in
          get_or-set_other new (to * len + i) (to * len + j) word 0 apart ∙ h.later j (omega arith) small);
      others = λ a j ne small.
          (let apart : a * len + j ≢ to * len + i = λ e. ne (same_from_place a j to i len small lt e).0 in
          get_or-set_other new (to * len + i) (a * len + j) word 0 apart ∙ h.others a j ne small);
    }

and_yes : (a b : Bool) → a ≡ true → b ≡ (a && b)
and_yes a b e = sym (ap (λ x. x && b) e)

pub row_joined_bits : (len to from : ℕ) (old new : List ℕ) → IsRowJoined len to from len old new → (u v : ℕ) → v < len * 64 → bit_of new (u * (len * 64) + v) ≡ (bit_of old (u * (len * 64) + v) || (eqb u to && bit_of old (from * (len * 64) + v)))
row_joined_bits len to from old new h u v small = grind (arith, div_below, cases_eq, row_bit_is, joined_bit, and_yes, eq-eqb, or_none, and_left)
