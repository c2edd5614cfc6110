-- Versions in many sets, each for some identities.
use Rattle.census.proofs.Prelude.{◌≡◌, ◌⊎◌, ℕ, zero, suc, Bool, true, false, ◌&&◌, ◌||◌, eqb, List, [], ◌∷◌, length, Option, Some, refl, sym, ap, ◌∙◌, inl, inr, ◌<◌, arith, slice_get, slice_set, AllByRecursion, list_any, option_map_or}
use Rattle.census.proofs.Prelude.{bytes_eq, BTreeSet, is_at, cases_Bool, cases_order, and_parts, eqb-true, length-set, get_put, is_in, version_cmp}
use Rattle.census.specs.Versions.{place_in}
use Rattle.census.proofs.Truth.{or_none}
use denote.Ref.{Bor}

abbrev pub Set : Type 0
Set = BTreeSet (ℕ × Bor (List ℕ))

abbrev of_version : List ℕ → ℕ → Option Set → Bool
of_version k w o = option_map_or (λ (s : Set). is_in s k w) o false

pub none_in : (sets : List Set) → AllByRecursion (λ (s : Set). s.keys ≡ []) sets → (i : ℕ) (k : List ℕ) (w : ℕ) → of_version k w (slice_get sets i) ≡ false
none_in [] all i k w = refl
none_in (s ∷ sets) all zero k w = ap (list_any (is_at (version_cmp k w))) all.0
none_in (s ∷ sets) all (suc i) k w = none_in sets all.1 i k w

set_there : {X : Type 0} (xs : List X) (i j : ℕ) (y : X) → (i ≡ j → ⊥) → slice_get (slice_set xs i y) j ≡ slice_get xs j
set_there [] i j y apart = refl
set_there (z ∷ xs) zero zero y apart = absurd (apart refl)
set_there (z ∷ xs) zero (suc j) y apart = refl
set_there (z ∷ xs) (suc i) zero y apart = refl
set_there (z ∷ xs) (suc i) (suc j) y apart = set_there xs i j y (λ e. apart (ap suc e))

pub added_at : (sets : List Set) (place : ℕ) (old new : Set) (key : List ℕ) (wid : ℕ) → slice_get sets place ≡ Some old → place ≡ place_in (length sets) wid
    → ((k : List ℕ) (w : ℕ) → is_in new k w ≡ (is_in old k w || (bytes_eq k key && eqb w wid)))
    → (k : List ℕ) (w : ℕ) → of_version k w (slice_get (slice_set sets place new) (place_in (length (slice_set sets place new)) w)) ≡ (of_version k w (slice_get sets (place_in (length sets) w)) || (bytes_eq k key && eqb w wid))
added_at sets place old new key wid at is added k w = rw (length-set sets place new) (elim (cases_order place (place_in (length sets) w)) [
  | inl same ↦ rw (sym same) (ap (of_version k w) (get_put sets place old new at) ∙ added k w ∙ ap (λ b. b || (bytes_eq k key && eqb w wid)) (sym (ap (of_version k w) at)))
  | inr apart ↦ ap (of_version k w) (set_there sets place (place_in (length sets) w) new (differs apart)) ∙ kept (cases_Bool (bytes_eq k key && eqb w wid)) (differs apart)
])
  where
    differs : (place < place_in (length sets) w) ⊎ (place_in (length sets) w < place) → place ≡ place_in (length sets) w → ⊥
    differs (inl lt) e = omega (arith, lt, e)
    differs (inr lt) e = omega (arith, lt, e)

    kept : ((bytes_eq k key && eqb w wid) ≡ true) ⊎ ((bytes_eq k key && eqb w wid) ≡ false) → (place ≡ place_in (length sets) w → ⊥) → of_version k w (slice_get sets (place_in (length sets) w)) ≡ (of_version k w (slice_get sets (place_in (length sets) w)) || (bytes_eq k key && eqb w wid))
    kept (inl e) apart = absurd (apart (is ∙ ap (place_in (length sets)) (sym (eqb-true w wid (and_parts (bytes_eq k key) (eqb w wid) e).1))))
    kept (inr e) apart = rw e (or_none (of_version k w (slice_get sets (place_in (length sets) w))))
