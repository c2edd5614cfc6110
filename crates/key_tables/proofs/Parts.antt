-- Tables for the keys with some marks.
use Rattle.std.proofs.Common.{◌≡◌, ◌⊎◌, ℕ, zero, suc, true, false, cond, List, [], ◌∷◌, length, Option, None, Some, refl, sym, ap, ◌∙◌, inl, inr, ◌<◌, arith}
use Rattle.std.specs.Prelude.{slice_get, slice_set}
use Rattle.std.specs.List.{AllByRecursion}
use Rattle.std.specs.Option.{option_map_or}
use Rattle.std.specs.Str.{bytes_eq}
use Rattle.std.specs.Map.{lookup}
use Rattle.std.specs.Ordering.{is_eq}
use Rattle.std.specs.BTreeMap.{BTreeMap}
use Rattle.std.proofs.lemmas.Bool.{cases_Bool, cases_order}
use Rattle.std.proofs.lemmas.List.{length-set}
use Rattle.std.proofs.lemmas.Slice.Eq.{bytes_eq-Decides}
use Rattle.list_lemmas.proofs.Elements.{get_put}
use Rattle.key_tables.specs.Table.{mark_of, entry_cmp, held_in}
use Rattle.key_tables.specs.Parts.{place_in}
use denote.Ref.{Bor}

abbrev pub Table : Type 0
Table = BTreeMap (ℕ × Bor (List ℕ)) ℕ

pub none_held : (ts : List Table) → AllByRecursion (λ (t : Table). t.entries ≡ []) ts → (i : ℕ) (key : List ℕ) → option_map_or (λ (t : Table). held_in t key) (slice_get ts i) None ≡ None
none_held [] all i key = refl
none_held (t ∷ ts) all zero key = ap (lookup (λ q. is_eq (entry_cmp (mark_of key) key q))) all.0
none_held (t ∷ ts) all (suc i) key = none_held ts all.1 i key

set_there : {X : Type 0} (xs : List X) (i j : ℕ) (y : X) → (i ≡ j → ⊥) → slice_get (slice_set xs i y) j ≡ slice_get xs j
set_there [] i j y apart = refl
set_there (z ∷ xs) zero zero y apart = absurd (apart refl)
set_there (z ∷ xs) zero (suc j) y apart = refl
set_there (z ∷ xs) (suc i) zero y apart = refl
set_there (z ∷ xs) (suc i) (suc j) y apart = set_there xs i j y (λ e. apart (ap suc e))

abbrev of_key : List ℕ → Option Table → Option ℕ
of_key key o = option_map_or (λ (t : Table). held_in t key) o None

pub updated_by : (ts : List Table) (place : ℕ) (old new : Table) (key : List ℕ) (value : ℕ) → slice_get ts place ≡ Some old → place ≡ place_in (length ts) key
    → ((k : List ℕ) → held_in new k ≡ cond (bytes_eq key k) (Some value) (held_in old k))
    → (k : List ℕ) → of_key k (slice_get (slice_set ts place new) (place_in (length (slice_set ts place new)) k)) ≡ cond (bytes_eq key k) (Some value) (of_key k (slice_get ts (place_in (length ts) k)))
updated_by ts place old new key value at is held k = rw (length-set ts place new) (elim (cases_order place (place_in (length ts) k)) [
  | inl same ↦ rw (sym same) (ap (of_key k) (get_put ts place old new at) ∙ held k ∙ ap (cond (bytes_eq key k) (Some value)) (sym (ap (of_key k) at)))
  | inr apart ↦ ap (of_key k) (set_there ts place (place_in (length ts) k) new (differs apart)) ∙ kept (cases_Bool (bytes_eq key k)) (differs apart)
])
  where
    differs : (place < place_in (length ts) k) ⊎ (place_in (length ts) k < place) → place ≡ place_in (length ts) k → ⊥
    differs (inl lt) e = omega (arith, lt, e)
    differs (inr lt) e = omega (arith, lt, e)

    kept : (bytes_eq key k ≡ true) ⊎ (bytes_eq key k ≡ false) → (place ≡ place_in (length ts) k → ⊥) → of_key k (slice_get ts (place_in (length ts) k)) ≡ cond (bytes_eq key k) (Some value) (of_key k (slice_get ts (place_in (length ts) k)))
    kept (inl e) apart = absurd (apart (is ∙ ap (place_in (length ts)) ((bytes_eq-Decides key k).0 e)))
    kept (inr e) apart = rw e refl
