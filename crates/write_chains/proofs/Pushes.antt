-- Lists by number, item by item.
use Rattle.write_chains.proofs.Prelude.{◌≡◌, ℕ, ◌<◌, cond, List, [], ◌∷◌, ◌++◌, length, set, slice_get, Some, sym, ap, ◌∙◌, nat_eq, Vec, Global, arith, option_map, eqb-true, append-nil, length-set, AreLists}
use Rattle.session_history.proofs.KeyRows.{slice_get-set_here, slice_get-set_apart}

pub lists_same : {X : Type 0} (n : ℕ) (f g : ℕ → List X) (lists : List (Vec X Global)) → ((v : ℕ) → v < n → f v ≡ g v) → AreLists n f lists → AreLists n g lists
lists_same n f g lists e h = record { count = h.count; each = λ v lt. h.each v lt ∙ ap (λ l. Some l) (e v lt) }

some_same : {X : Type 0} (a b : List X) → Some a ≡ Some b → a ≡ b
some_same a b e = cc

pub lists_pushed : {X : Type 0} (n : ℕ) (f : ℕ → List X) (lists : List (Vec X Global)) (old new : Vec X Global) (k : ℕ) (item : X)
    → k < length lists → slice_get lists k ≡ Some old → new.items ≡ old.items ++ item ∷ []
    → AreLists n f lists → AreLists n (λ v. f v ++ cond (nat_eq k v) (item ∷ []) []) (set lists k new)
lists_pushed n f lists old new k item within at pushed h = grind (arith, length-set, eqb-true, some_same, slice_get-set_here, slice_get-set_apart, append-nil)

-- the list at a place
pub list_at : {X : Type 0} (n : ℕ) (f : ℕ → List X) (lists : List (Vec X Global)) (v : ℕ) (list : Vec X Global) → AreLists n f lists → v < n → slice_get lists v ≡ Some list → list.items ≡ f v
list_at n f lists v list h lt at = some_same _ _ (sym (ap (option_map (λ l. l.items)) at) ∙ h.each v lt)
