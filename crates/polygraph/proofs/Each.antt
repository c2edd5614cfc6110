-- What holds of each element of a list, by its place.
use Rattle.polygraph.proofs.Prelude.{◌≡◌, ℕ, ◌<◌, List, length, get_or, sym, subst, AllByRecursion, map, each_of_map, each_at}

-- the same of an item read from the list, where P holds of what each item stands for
pub each_item : {X Y : Type 0} (P : Y → Type 0) (f : X → Y) (xs : List X) → AllByRecursion P (map f xs) → (k : ℕ) (x : X) → k < length xs → x ≡ get_or xs k x → P (f x)
each_item P f xs h k x lt is = subst (λ y. P (f y)) (sym is) (each_at (λ y. P (f y)) xs (each_of_map P f xs h) k x lt)
