-- One step of a loop over what a slice holds, seen as a list of values, and what an option holds.
use Rattle.session_history.proofs.Prelude.{◌≡◌, ℕ, ◌+◌, ◌<◌, ◌≤◌, List, [], ◌∷◌, ◌++◌, length, map, take, get_or, sym, ap, ◌∙◌, subst, append-nil, flat_map, map-append, take_more, take_all, flat_map-append}

-- what is passed on is what is there
pub step : {X Y : Type 0} (f : X → Y) (xs passed : List X) (i : ℕ) (x : X) → passed ≡ xs → i < length passed → x ≡ get_or passed i x → map f (take (i + 1) xs) ≡ map f (take i xs) ++ f x ∷ []
step f xs passed i x same lt at =
    let P : List _ → Type 0 = λ ys. (i < length ys) × (x ≡ get_or ys i x) in
    let here : P xs = subst P same (lt, at) in
    ap (map f) (take_more xs i x here.0 ∙ ap (λ y. take i xs ++ y ∷ []) (sym here.1)) ∙ map-append f (take i xs) (x ∷ [])

-- and of what each of them holds
pub step_in : {X Y Z : Type 0} (g : Y → List Z) (f : X → Y) (xs passed : List X) (i : ℕ) (x : X) → passed ≡ xs → i < length passed → x ≡ get_or passed i x
    → flat_map g (map f (take (i + 1) xs)) ≡ flat_map g (map f (take i xs)) ++ g (f x)
step_in g f xs passed i x same lt at =
    ap (flat_map g) (step f xs passed i x same lt at) ∙ flat_map-append g (map f (take i xs)) (f x ∷ []) ∙ ap (λ l. flat_map g (map f (take i xs)) ++ l) (append-nil (g (f x)))

-- behind the last one
pub stepped : {X : Type 0} (xs passed : List X) (i : ℕ) → passed ≡ xs → length passed ≤ i → take i xs ≡ xs
stepped xs passed i same le = let P : List _ → Type 0 = λ ys. length ys ≤ i in take_all i xs (subst P same le)
