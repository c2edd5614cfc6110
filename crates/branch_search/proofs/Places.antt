-- Elements of lists by their places.
use Rattle.branch_search.proofs.Prelude.{◌≡◌, suc, List, [], ◌∷◌, ◌++◌, Some, length, refl, sym, ap, ◌∙◌, append_assoc, slice_get}
use Rattle.desk.proofs.Seating.{get_middle}

module _ {A : Type 0} where
  -- the element that comes next, after those that were seen
  pub next_at : (seen rest more all : List A) (x : A) → seen ++ rest ≡ all → rest ≡ x ∷ more → slice_get all (length seen) ≡ Some x
  next_at seen rest more all x e n = ap (λ l. slice_get l (length seen)) (sym e ∙ ap (λ l. seen ++ l) n) ∙ get_middle seen x more

  length_push : (xs : List A) (x : A) → length (xs ++ x ∷ []) ≡ suc (length xs)
  length_push [] x = refl
  length_push (y ∷ ys) x = ap suc (length_push ys x)

  -- what was seen of a list, and what comes next
  pub seen_more : (seen rest more all : List A) (x : A) → seen ++ rest ≡ all → rest ≡ x ∷ more → (seen ++ x ∷ []) ++ more ≡ all
  seen_more seen rest more all x e n = append_assoc seen (x ∷ []) more ∙ ap (λ l. seen ++ l) (sym n) ∙ e

module _ {A B : Type 0} where
  -- one more of both lists
  pub same_length : (xs now : List A) (x : A) (seen : List B) (y : B) → now ≡ xs ++ x ∷ [] → length xs ≡ length seen → length now ≡ length (seen ++ y ∷ [])
  same_length xs now x seen y is e = ap length is ∙ length_push xs x ∙ ap suc e ∙ sym (length_push seen y)
