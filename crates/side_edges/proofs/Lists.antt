-- Elements that are written.
use Rattle.std.proofs.Common.{◌≡◌, ◌≢◌, ℕ, zero, suc, ◌<◌, List, [], ◌∷◌, length, set, Some, refl, ap, arith}
use Rattle.std.specs.Prelude.{slice_get}

pub slice_get-set_same : {A : Type 0} (xs : List A) (k : ℕ) (y : A) → k < length xs → slice_get (set xs k y) k ≡ Some y
slice_get-set_same [] k y h = absurd (omega arith)
slice_get-set_same (x ∷ xs) zero y h = refl
slice_get-set_same (x ∷ xs) (suc k) y h = slice_get-set_same xs k y (omega arith)

pub slice_get-set_other : {A : Type 0} (xs : List A) (k j : ℕ) (y : A) → j ≢ k → slice_get (set xs k y) j ≡ slice_get xs j
slice_get-set_other [] k j y h = refl
slice_get-set_other (x ∷ xs) zero zero y h = absurd (h refl)
slice_get-set_other (x ∷ xs) zero (suc j) y h = refl
slice_get-set_other (x ∷ xs) (suc k) zero y h = refl
slice_get-set_other (x ∷ xs) (suc k) (suc j) y h = slice_get-set_other xs k j y (λ e. h (ap suc e))
