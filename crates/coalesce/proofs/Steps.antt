-- What is made of the elements of a list, one by one.
use Rattle.coalesce.proofs.Prelude.{◌≡◌, ℕ, zero, suc, ◌+◌, ◌<◌, ◌≤◌, List, [], ◌∷◌, ◌++◌, length, get_or, take, sym, ap, ◌∙◌, subst, ◌-◌, arith, length-append, map, flat_map, append-nil, map-append, take_more, so_far, so_far_more}
use Rattle.std.proofs.lemmas.Grind.{flat_map-append}

-- ---- of the numbers below k
so_far_up : {X : Type 0} (f : ℕ → List X) (k d : ℕ) → length (so_far f k) ≤ length (so_far f (k + d))
so_far_up f k zero = let e : k + 0 ≡ k = omega arith in subst (λ n. length (so_far f k) ≤ length (so_far f n)) (sym e) (omega arith)
so_far_up f k (suc d) =
    let e : k + suc d ≡ (k + d) + 1 = omega arith in
    subst (λ n. length (so_far f k) ≤ length (so_far f n)) (sym e)
    (omega (arith, so_far_up f k d, ap length (so_far_more f (k + d)), length-append (so_far f (k + d)) (f (k + d))))

pub so_far_length : {X : Type 0} (f : ℕ → List X) (k : ℕ) → length (so_far f (k + 1)) ≡ length (so_far f k) + length (f k)
so_far_length f k = ap length (so_far_more f k) ∙ length-append (so_far f k) (f k)

pub so_far_le : {X : Type 0} (f : ℕ → List X) (k n : ℕ) → k ≤ n → length (so_far f k) ≤ length (so_far f n)
so_far_le f k n h = let e : k + (n - k) ≡ n = omega arith in subst (λ m. length (so_far f k) ≤ length (so_far f m)) e (so_far_up f k (n - k))

-- ---- of what a list's items stand for
pub flat_more : {X Y Z : Type 0} (g : X → Y) (f : Y → List Z) (xs : List X) (i : ℕ) (x : X) → i < length xs → x ≡ get_or xs i x → flat_map f (map g (take (i + 1) xs)) ≡ flat_map f (map g (take i xs)) ++ f (g x)
flat_more g f xs i x lt is =
    ap (λ l. flat_map f (map g l)) (take_more xs i x lt)
    ∙ ap (flat_map f) (map-append g (take i xs) (get_or xs i x ∷ []))
    ∙ flat_map-append f (map g (take i xs)) (g (get_or xs i x) ∷ [])
    ∙ ap (λ l. flat_map f (map g (take i xs)) ++ l) (append-nil (f (g (get_or xs i x))))
    ∙ ap (λ y. flat_map f (map g (take i xs)) ++ f (g y)) (sym is)
