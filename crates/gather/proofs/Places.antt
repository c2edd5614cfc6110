-- Elements of lists by their places.
use Rattle.std.proofs.Common.{◌≡◌, ◌≢◌, ◌<◌, ℕ, zero, suc, List, [], ◌∷◌, ◌++◌, Option, Some, None, length, map, take, drop, refl, sym, ap, ◌∙◌, arith, append_assoc}
use Rattle.std.specs.Prelude.{slice_get, Contains}
use Rattle.std.proofs.lemmas.Option.{slice_get_within, get_or_from_slice_get}
use Rattle.std.specs.List.{AllByRecursion}
use Rattle.std.proofs.lemmas.List.{append-nil}
use Rattle.desk.proofs.Seating.{get_middle}

module _ {A : Type 0} where
  pub contains_at : (xs : List A) (k : ℕ) (x : A) → slice_get xs k ≡ Some x → Contains xs x
  contains_at xs k x e = (k, slice_get_within xs k x e, get_or_from_slice_get xs k x x e)

  some_is : (x y : A) → Some x ≡ Some y → x ≡ y
  some_is x y e = cc

  pub take_at : (xs : List A) (k : ℕ) (x : A) → slice_get xs k ≡ Some x → take (suc k) xs ≡ take k xs ++ x ∷ []
  take_at [] k x e = absurd (cc)
  take_at (z ∷ zs) zero x e = ap (λ w. w ∷ []) (some_is z x e)
  take_at (z ∷ zs) (suc k) x e = ap (λ l. z ∷ l) (take_at zs k x e)

  pub drop_at : (xs : List A) (k : ℕ) (x : A) → slice_get xs k ≡ Some x → drop k xs ≡ x ∷ drop (suc k) xs
  drop_at [] k x e = absurd (cc)
  drop_at (z ∷ zs) zero x e = ap (λ w. w ∷ zs) (some_is z x e)
  drop_at (z ∷ zs) (suc k) x e = drop_at zs k x e

  -- the element that comes next, after those that were seen
  pub next_at : (seen rest more all : List A) (x : A) → seen ++ rest ≡ all → rest ≡ x ∷ more → slice_get all (length seen) ≡ Some x
  next_at seen rest more all x e n = ap (λ l. slice_get l (length seen)) (sym e ∙ ap (λ l. seen ++ l) n) ∙ get_middle seen x more

  pub length_push : (xs : List A) (x : A) → length (xs ++ x ∷ []) ≡ suc (length xs)
  length_push [] x = refl
  length_push (y ∷ ys) x = ap suc (length_push ys x)

  -- what was seen of a list, and what comes next
  pub seen_more : (seen rest more all : List A) (x : A) → seen ++ rest ≡ all → rest ≡ x ∷ more → (seen ++ x ∷ []) ++ more ≡ all
  seen_more seen rest more all x e n = append_assoc seen (x ∷ []) more ∙ ap (λ l. seen ++ l) (sym n) ∙ e

  empty : (xs : List A) → length xs ≡ 0 → xs ≡ []
  empty [] e = refl
  empty (x ∷ xs) e = absurd (omega arith)

  -- all of a list was seen
  pub seen_all : (seen rest all : List A) → seen ++ rest ≡ all → length rest ≡ 0 → seen ≡ all
  seen_all seen rest all e n = sym (append-nil seen) ∙ ap (λ l. seen ++ l) (sym (empty rest n)) ∙ e

  pub all_push : (P : A → Type 0) (xs : List A) (x : A) → AllByRecursion P xs → P x → AllByRecursion P (xs ++ x ∷ [])
  all_push P [] x h p = (p, tt)
  all_push P (y ∷ ys) x h p = (h.0, all_push P ys x h.1 p)

module _ {A B : Type 0} where
  pub none_found : (xs : List A) (k : ℕ) (x : B) → slice_get (map (λ y. None) xs) k ≢ Some (Some x)
  none_found [] k x e = cc
  none_found (y ∷ ys) zero x e = let is : ◌≡◌ {A = Option (Option B)} (Some None) (Some (Some x)) = e in cc
  none_found (y ∷ ys) (suc k) x e = none_found ys k x e

  pub none_more : (xs : List A) (out : List (Option B)) (k n : ℕ) → k < length xs → n ≡ suc k → out ≡ map (λ y. None) (take k xs) → out ++ None ∷ [] ≡ map (λ y. None) (take n xs)
  none_more xs out k n h is e = ap (λ l. l ++ None ∷ []) e ∙ more xs k h ∙ ap (λ m. map (λ y. None) (take m xs)) (sym is)
    where
      more : (ys : List A) (j : ℕ) → j < length ys → ◌≡◌ {A = List (Option B)} (map (λ y. None) (take j ys) ++ None ∷ []) (map (λ y. None) (take (suc j) ys))
      more [] j less = absurd (omega arith)
      more (y ∷ ys) zero less = refl
      more (y ∷ ys) (suc j) less = ap (λ l. None ∷ l) (more ys j (omega arith))

  -- one more of both lists
  pub same_length : (xs now : List A) (x : A) (seen : List B) (y : B) → now ≡ xs ++ x ∷ [] → length xs ≡ length seen → length now ≡ length (seen ++ y ∷ [])
  same_length xs now x seen y is e = ap length is ∙ length_push xs x ∙ ap suc e ∙ sym (length_push seen y)
