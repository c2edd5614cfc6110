-- A list that is made piece by piece, with what is left of it.
use Rattle.known_graph.proofs.Prelude.{◌≡◌, ℕ, suc, ◌+◌, ◌-◌, ◌<◌, List, ◌∷◌, ◌++◌, length, sym, ap, ◌∙◌, arith, append_assoc, length-append, range_with_len}

-- the numbers from k up to the end
abbrev pub up_to : ℕ → ℕ → List ℕ
up_to k end = range_with_len k (end - k)

pub up_to_first : (k end : ℕ) → k < end → up_to k end ≡ k ∷ up_to (k + 1) end
up_to_first k end h = let e : end - k ≡ suc (end - (k + 1)) = omega arith in ap (range_with_len k) e

-- of what is left, a piece comes first
pub record Split {X : Type 0} (left piece rest : List X) : Type 0 where
  pub parts : left ≡ piece ++ rest

pub piece_more : {X : Type 0} {left piece rest : List X} → Split left piece rest → (now next total : List X) → now ++ left ≡ total → next ≡ now ++ piece → next ++ rest ≡ total
piece_more {X} {left} {piece} {rest} s now next total h e =
    ap (λ l. l ++ rest) e ∙ append_assoc now piece rest ∙ ap (λ l. now ++ l) (sym s.parts) ∙ h

pub piece_begun : {X : Type 0} {left piece rest : List X} → Split left piece rest → (now total : List X) → now ++ left ≡ total → now ++ (piece ++ rest) ≡ total
piece_begun s now total h = ap (λ l. now ++ l) (sym s.parts) ∙ h

-- the same, where others come behind
pub before : {X : Type 0} {left piece rest : List X} (others : List X) → Split left piece rest → Split (left ++ others) piece (rest ++ others)
before {X} {left} {piece} {rest} others s = record { parts = ap (λ l. l ++ others) s.parts ∙ append_assoc piece rest others }

pub split_length : {X : Type 0} {left piece rest : List X} → Split left piece rest → length left ≡ length piece + length rest
split_length {X} {left} {piece} {rest} s = ap length s.parts ∙ length-append piece rest
