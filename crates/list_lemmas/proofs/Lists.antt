-- Lists that are joined and cut.
use Rattle.std.proofs.Common.{◌≡◌, List, [], ◌∷◌, ◌++◌, refl, ap, ℕ, ◌∙◌, append_assoc, ◌+◌, ◌<◌, length, take, get_or, sym, map, drop, Bool, true, false, cond, ◌&&◌}
use Rattle.std.specs.List.{filter}
use Rattle.std.proofs.lemmas.List.{take_more, drop_more, map-append}

pub append_none : {X : Type 0} (xs : List X) → xs ≡ xs ++ []
append_none [] = refl
append_none (x ∷ xs) = ap (λ l. x ∷ l) (append_none xs)

pub appended_twice : (old so_far next before after : List ℕ) → before ≡ old ++ so_far → after ≡ before ++ next → after ≡ old ++ (so_far ++ next)
appended_twice old so_far next before after p q = q ∙ ap (λ l. l ++ next) p ∙ append_assoc old so_far next

pub front_more : {X : Type 0} (xs : List X) (i : ℕ) (x : X) → i < length xs → x ≡ get_or xs i x → take (i + 1) xs ≡ take i xs ++ x ∷ []
front_more xs i x lt at = take_more xs i x lt ∙ ap (λ y. take i xs ++ y ∷ []) (sym at)

pub mapped_left : {X Y : Type 0} (g : X → Y) (xs : List X) (i : ℕ) (x : X) → i < length xs → x ≡ get_or xs i x → map g (drop i xs) ≡ g x ∷ map g (drop (i + 1) xs)
mapped_left g xs i x lt at = ap (map g) (drop_more xs i x lt ∙ ap (λ y. y ∷ drop (i + 1) xs) (sym at))

pub mapped_front : {X Y : Type 0} (g : X → Y) (xs : List X) (i : ℕ) (x : X) → i < length xs → x ≡ get_or xs i x → map g (take (i + 1) xs) ≡ map g (take i xs) ++ g x ∷ []
mapped_front g xs i x lt is =
    ap (map g) (take_more xs i x lt)
    ∙ map-append g (take i xs) (get_or xs i x ∷ [])
    ∙ ap (λ y. map g (take i xs) ++ g y ∷ []) (sym is)

pub filter_both : {X : Type 0} (p q : X → Bool) (xs : List X) → filter p (filter q xs) ≡ filter (λ x. q x && p x) xs
filter_both p q [] = refl
filter_both p q (x ∷ xs) =
    elim (q x) as (λ b. filter p (cond b (x ∷ filter q xs) (filter q xs)) ≡ cond (b && p x) (x ∷ filter (λ y. q y && p y) xs) (filter (λ y. q y && p y) xs)) [
      | true ↦ ap (λ l. cond (p x) (x ∷ l) l) (filter_both p q xs)
      | false ↦ filter_both p q xs
    ]
