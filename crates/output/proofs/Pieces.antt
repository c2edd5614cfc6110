-- Known bytes that grow piece by piece.
use Rattle.std.proofs.Common.{◌≡◌, ℕ, zero, suc, ◌+◌, ◌-◌, ◌≤◌, List, ◌++◌, length, take, drop, Option, Ok, refl, sym, ap, ◌∙◌, subst, arith, cond, take-add, take_all, drop-drop, length-drop}
use Rattle.std.specs.Io.KnownBytes.{Appends}
use Rattle.std.proofs.KnownBytes.{Appends-trans}
use Rattle.output.specs.Sinks.{is_refused}

-- ---- one more turn of the loop over `put`
pub left_more : (rest piece : List ℕ) (out written taken : ℕ) → rest ≡ drop (out - written) piece → written ≤ out → taken ≤ length rest → take (length rest - taken) (drop taken rest) ≡ drop (out + taken - written) piece
left_more rest piece out written taken e h t =
    let all : length (drop taken rest) ≤ length rest - taken = omega (arith, length-drop taken rest) in
    let n : out - written + taken ≡ out + taken - written = omega arith in
    take_all (length rest - taken) (drop taken rest) all ∙ ap (drop taken) e ∙ drop-drop taken (out - written) piece ∙ ap (λ k. drop k piece) n

pub went_more : (a b d : Option (List ℕ)) (rest piece : List ℕ) (out written taken : ℕ) → rest ≡ drop (out - written) piece → written ≤ out → Appends a b (take (out - written) piece) → Appends b d (take taken rest) → Appends a d (take (out + taken - written) piece)
went_more a b d rest piece out written taken e h p q =
    let n : out - written + taken ≡ out + taken - written = omega arith in
    let two = Appends-trans a b d (take (out - written) piece) (take taken rest) p q in
    let joined : take (out - written) piece ++ take taken rest ≡ take (out + taken - written) piece =
    ap (λ l. take (out - written) piece ++ take taken l) e ∙ sym (take-add (out - written) taken piece) ∙ ap (λ k. take k piece) n in
    subst (Appends a d) joined two

pub not_refused : (n : ℕ) (piece : List ℕ) (count more old : ℕ) → (n ≡ 0 → ⊥) → count ≡ cond (is_refused (Ok n) piece) more old → count ≡ old
not_refused zero piece count more old ne e = absurd (ne refl)
not_refused (suc n) piece count more old ne e = e
