-- What is made of the numbers below one, one number after the other.
use Rattle.serializability.proofs.Prelude.{◌≡◌, ℕ, zero, suc, ◌+◌, List, [], ◌∷◌, ◌++◌, ap, ◌∙◌, arith, flat_map, range_with_len, append-nil, flat_map-append}

pub range_last : (a k : ℕ) → range_with_len a (k + 1) ≡ range_with_len a k ++ (a + k) ∷ []
range_last a zero = let e : a ≡ a + 0 = omega arith in ap (λ n. n ∷ []) e
range_last a (suc k) =
    let e : (a + 1) + k ≡ a + suc k = omega arith in
    let two : suc k + 1 ≡ suc (k + 1) = omega arith in
    ap (range_with_len a) two ∙ ap (λ l. a ∷ l) (range_last (a + 1) k) ∙ ap (λ n. a ∷ (range_with_len (a + 1) k ++ n ∷ [])) e

abbrev pub so_far : {X : Type 0} → (ℕ → List X) → ℕ → List X
so_far f k = flat_map f (range_with_len 0 k)

pub so_far_more : {X : Type 0} (f : ℕ → List X) (k : ℕ) → so_far f (k + 1) ≡ so_far f k ++ f k
so_far_more f k =
    let here : 0 + k ≡ k = omega arith in
    ap (flat_map f) (range_last 0 k ∙ ap (λ v. range_with_len 0 k ++ v ∷ []) here)
    ∙ flat_map-append f (range_with_len 0 k) (k ∷ [])
    ∙ ap (λ l. so_far f k ++ l) (append-nil (f k))
