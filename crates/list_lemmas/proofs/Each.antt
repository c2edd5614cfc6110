-- What holds of each of a list.
use Rattle.std.proofs.Common.{ℕ, zero, suc, ◌<◌, List, [], ◌∷◌, length, get_or, arith, ◌≡◌, ◌+◌, ◌≤◌, Bool, true, refl}
use Rattle.std.specs.List.{AllByRecursion, list_all, range_with_len, Contains}
use Rattle.std.proofs.lemmas.Bool.{and_from}
use Rattle.std.proofs.lemmas.List.Elements.{All-from_recursion, All-contains}
use Rattle.list_lemmas.proofs.Elements.{behind}

pub each_at_index : {X : Type 0} (P : X → Type 0) (xs : List X) (k : ℕ) (d : X) → AllByRecursion P xs → k < length xs → P (get_or xs k d)
each_at_index P [] k d h lt = absurd (omega arith)
each_at_index P (x ∷ xs) zero d h lt = h.0
each_at_index P (x ∷ xs) (suc k) d h lt = each_at_index P xs k d h.1 (omega arith)

pub all_range : (t : ℕ → Bool) (a n : ℕ) → ((v : ℕ) → a ≤ v → v < a + n → t v ≡ true) → list_all t (range_with_len a n) ≡ true
all_range t a zero h = refl
all_range t a (suc n) h = and_from (t a) (list_all t (range_with_len (a + 1) n)) (h a (omega arith) (omega arith)) (all_range t (a + 1) n (λ v lo hi. h v (omega arith) (omega (arith, hi))))

pub member : {X : Type 0} (P : X → Type 0) (xs : List X) (x : X) → AllByRecursion P xs → Contains xs x → P x
member P xs x h c = All-contains P xs x (All-from_recursion P xs h) c

pub each_member : {X : Type 0} (P : X → Type 0) (xs : List X) → ((x : X) → Contains xs x → P x) → AllByRecursion P xs
each_member P [] f = tt
each_member P (x ∷ xs) f = (f x (0, omega arith, refl), each_member P xs (λ y c. f y (behind x xs y c)))
