-- Lines without names that snapshot isolation allows.
use Rattle.part_reasons.proofs.Prelude.{◌≡◌, ℕ, zero, suc, ◌+◌, ◌<◌, false, List, [], ◌∷◌, ◌++◌, length, drop, codes, refl, ap, ◌∙◌, subst, arith, Option, None, Some, IfSome, String, nat_eq, starts_with, Global, append-nil, lines}
use Rattle.part_reasons.proofs.Prelude.{IsKnownAs, is_allowed, forbidden_in, IsForbiddenName}
use Rattle.std.specs.String.{string_bytes}

pub allowed_behind : (line : List ℕ) (i : ℕ) → i < length line → starts_with nat_eq (drop i line) (codes "(G2-") ≡ false → is_allowed (drop (i + 1) line) ≡ is_allowed (drop i line)
allowed_behind [] i lt e = absurd (omega (arith, lt))
allowed_behind (b ∷ line) zero lt e = rw e refl
allowed_behind (b ∷ line) (suc i) lt e =
    let next : suc (i + 1) ≡ suc i + 1 = omega arith in
    subst (λ n. is_allowed (drop n (b ∷ line)) ≡ is_allowed (drop i line)) next (allowed_behind line i (omega (arith, lt)) e)

no_lines : lines [] ≡ []
unfolding lines
no_lines = refl

pub nothing_left : (out rest : List ℕ) → 0 ≡ length rest → out ++ forbidden_in (lines rest) ≡ out
nothing_left out [] e = ap (λ ls. out ++ forbidden_in ls) no_lines ∙ append-nil out
nothing_left out (b ∷ rest) e = cc

pub forbidden_name : (kept name : Option (String Global)) (said : List ℕ) → IfSome kept (λ called. is_allowed (string_bytes called) ≡ false) → IfSome kept (λ called. name ≡ Some called) → IfSome name (λ called. IsKnownAs (string_bytes called) said) → IsForbiddenName said kept
forbidden_name None name said apart same known = tt
forbidden_name (Some called) name said apart same known = (subst (λ o. IfSome o (λ text. IsKnownAs (string_bytes text) said)) same known, apart)
