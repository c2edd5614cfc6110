-- Bits of words that are joined.
use Rattle.known_graph.proofs.Prelude.{◌≡◌, ◌≢◌, ℕ, ◌+◌, ◌/◌, ◌%◌, ◌<◌, ◌≤◌, Bool, true, false, eqb, ◌||◌, List, length, get_or, set, refl, sym, ap, ◌∙◌, inl, inr, arith, get_or-set_same, get_or-set_other, bit_or, bit_at, cases_eq}
use Rattle.known_graph.proofs.Prelude.{cases_lt, bit_at_or, bit_at-lt, bit_of}
use Rattle.known_graph.proofs.Words.{bit_of-past}
use Rattle.known_graph.proofs.Fresh.{either_bit}

-- ---- one bit

pub joined_bit : (x y b : ℕ) → eqb (bit_at (bit_or x y) b) 1 ≡ (eqb (bit_at x b) 1 || eqb (bit_at y b) 1)
joined_bit x y b = ap (λ n. eqb n 1) (bit_at_or x y b) ∙ either_bit (bit_at x b) (bit_at y b) (bit_at-lt x b) (bit_at-lt y b)

pub or_none : (a b : Bool) → b ≡ false → a ≡ (a || b)
or_none true b e = refl
or_none false b e = sym e

-- ---- the first words are joined with others
pub record IsJoinedTo (old more new : List ℕ) (i : ℕ) : Type 0 where
  pub joined : (j : ℕ) → j < i → get_or new j 0 ≡ bit_or (get_or old j 0) (get_or more j 0)
  pub rest : (j : ℕ) → i ≤ j → get_or new j 0 ≡ get_or old j 0

pub joined_none : (old more : List ℕ) → IsJoinedTo old more old 0
joined_none old more = record { joined = λ j h. absurd (omega arith); rest = λ j h. refl }

pub joined_more : (old more new : List ℕ) (i : ℕ) → IsJoinedTo old more new i → i < length new → IsJoinedTo old more (set new i (bit_or (get_or new i 0) (get_or more i 0))) (i + 1)
joined_more old more new i h lt =
    let word = bit_or (get_or new i 0) (get_or more i 0) in
    record {
      joined = λ j le. elim (cases_eq j i) [
        | inl e ↦
            ap (λ k. get_or (set new i word) k 0) e ∙ get_or-set_same new i word 0 lt
            ∙ ap (λ x. bit_or x (get_or more i 0)) (h.rest i (omega arith))
            ∙ ap (λ k. bit_or (get_or old k 0) (get_or more k 0)) (sym e)
        | inr ne ↦ get_or-set_other new i j word 0 ne ∙ h.joined j (omega (arith, ne))
      ];
      rest = λ j le. (let ne : j ≢ i = omega arith in get_or-set_other new i j word 0 ne ∙ h.rest j (omega arith));
    }

pub joined_bits : (old more new : List ℕ) (i : ℕ) → length more ≤ i → IsJoinedTo old more new i → (k : ℕ) → bit_of new k ≡ (bit_of old k || bit_of more k)
unfolding bit_of
joined_bits old more new i all h k = elim (cases_lt (k / 64) i) [
  | inl lt ↦ ap (λ w. eqb (bit_at w (k % 64)) 1) (h.joined (k / 64) lt) ∙ joined_bit (get_or old (k / 64) 0) (get_or more (k / 64) 0) (k % 64)
  | inr ge ↦ ap (λ w. eqb (bit_at w (k % 64)) 1) (h.rest (k / 64) ge) ∙ or_none (bit_of old k) (bit_of more k) (bit_of-past more k (omega arith))
]
