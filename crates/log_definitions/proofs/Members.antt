-- What holds of each element of a list.
use Rattle.log_definitions.proofs.Prelude.{◌≡◌, Bool, true, List, [], ◌∷◌, list_any, AllByRecursion, Contains, recursion_from_All, All-contains_itself, list_any-from_Any}
pub use Rattle.list_lemmas.proofs.Each.{member, each_member}

pub themselves : {X : Type 0} (xs : List X) → AllByRecursion (Contains xs) xs
themselves xs = recursion_from_All (Contains xs) xs (All-contains_itself xs)

pub each_weaker : {X : Type 0} (P Q : X → Type 0) → ((x : X) → P x → Q x) → (xs : List X) → AllByRecursion P xs → AllByRecursion Q xs
each_weaker P Q f [] h = tt
each_weaker P Q f (x ∷ xs) h = (f x h.0, each_weaker P Q f xs h.1)

pub any_member : {X : Type 0} (p : X → Bool) (xs : List X) (x : X) → Contains xs x → p x ≡ true → list_any p xs ≡ true
any_member p xs x c t = list_any-from_Any p xs (c.0, x, c.1, c.2, t)
