-- What holds of each of several parts.
use Rattle.audit_command.proofs.Prelude.{List, [], ◌∷◌, ◌++◌, AllByRecursion, All-permutation}
use Rattle.std.specs.List.Sorted.{IsPermutation}
use Rattle.std.proofs.lemmas.List.Elements.{All-from_recursion, recursion_from_All}

pub all_front : {X : Type 0} (P : X → Type 0) (xs : List X) (x : X) → AllByRecursion P (xs ++ x ∷ []) → AllByRecursion P xs × P x
all_front P [] x h = (tt, h.0)
all_front P (y ∷ ys) x h = let r = all_front P ys x h.1 in ((h.0, r.0), r.1)

-- ---- in another order
pub all_permuted : {X : Type 0} (P : X → Type 0) (xs ys : List X) → IsPermutation xs ys → AllByRecursion P xs → AllByRecursion P ys
all_permuted P xs ys same h = recursion_from_All P ys (All-permutation P xs ys same (All-from_recursion P xs h))
