-- The clauses that an assignment has passed.
use Rattle.order_cnf.proofs.Prelude.{◌≡◌, refl, sym, ap, ◌∙◌, subst, ℕ, ◌+◌, ◌-◌, Bool, true, false, List, [], ◌∷◌, ◌++◌, length, take, get_or, arith, AllByRecursion, false≢true, append_assoc, length-append, take-append_seam, Literal}
use Rattle.order_cnf.proofs.Prelude.{clause_true, each_from_append, each_of_append, True, IsWithin, IsFirstFalse}
use Rattle.order_cnf.proofs.Wholes.{later_range}

pub record IsPassed (values : List Bool) (all rest : List (List Literal)) (n : ℕ) : Type 0 where
  pub done : List (List Literal)
  pub split : all ≡ done ++ rest
  pub counted : length done ≡ n
  pub held : AllByRecursion (True values) done
  pub within : AllByRecursion (AllByRecursion (IsWithin (length values))) rest

pub passed_begun : (values : List Bool) (variables : ℕ) (all rest : List (List Literal)) → rest ≡ all → length values ≡ variables → AllByRecursion (AllByRecursion (IsWithin variables)) all → IsPassed values all rest 0
passed_begun values variables all rest same count h = record {
  done = [];
  split = sym same;
  counted = refl;
  held = tt;
  within = subst (λ l. AllByRecursion (AllByRecursion (IsWithin (length values))) l) (sym same) (subst (λ n. AllByRecursion (AllByRecursion (IsWithin n)) all) (sym count) h);
}

pub passed_number : (values : List Bool) (all rest : List (List Literal)) (n : ℕ) → IsPassed values all rest n → n + length rest ≡ length all
passed_number values all rest n k = omega (arith, ap length k.split, length-append k.done rest, k.counted)

pub passed_one : (values : List Bool) (all rest next : List (List Literal)) (c : List Literal) (n : ℕ) → IsPassed values all rest n → rest ≡ c ∷ next → clause_true values c ≡ true → IsPassed values all next (n + 1)
passed_one values all rest next c n k same t = record {
  done = k.done ++ c ∷ [];
  split = k.split ∙ ap (λ l. k.done ++ l) same ∙ sym (append_assoc k.done (c ∷ []) next);
  counted = length-append k.done (c ∷ []) ∙ ap (λ m. m + 1) k.counted;
  held = each_from_append (True values) k.done (c ∷ []) k.held (t, tt);
  within = (subst (λ l. AllByRecursion (AllByRecursion (IsWithin (length values))) l) same k.within).1;
}

get_seam : (xs ys : List (List Literal)) (c : List Literal) → get_or (xs ++ c ∷ ys) (length xs) [] ≡ c
get_seam [] ys c = refl
get_seam (x ∷ xs) ys c = get_seam xs ys c

pub passed_false : (values : List Bool) (all rest next : List (List Literal)) (c : List Literal) (n : ℕ) → IsPassed values all rest n → rest ≡ c ∷ next → clause_true values c ≡ false → IsFirstFalse values all (n + 1)
passed_false values all rest next c n k same f =
    let here : all ≡ k.done ++ c ∷ next = k.split ∙ ap (λ l. k.done ++ l) same in
    let back : n + 1 - 1 ≡ length k.done = later_range n ∙ sym k.counted in
    record {
      counted = (omega arith, omega (arith, passed_number values all rest n k, ap length same));
      earlier = subst (λ m. AllByRecursion (True values) (take m all)) (sym back) (subst (λ l. AllByRecursion (True values) (take (length k.done) l)) (sym here) (subst (AllByRecursion (True values)) (sym (take-append_seam k.done (c ∷ next))) k.held));
      here = ap (λ m. clause_true values (get_or all m [])) back ∙ ap (λ l. clause_true values (get_or l (length k.done) [])) here ∙ ap (clause_true values) (get_seam k.done next c) ∙ f;
    }

pub not_all : (values : List Bool) (all rest next : List (List Literal)) (c : List Literal) (n : ℕ) → IsPassed values all rest n → rest ≡ c ∷ next → clause_true values c ≡ false → AllByRecursion (True values) all → ⊥
not_all values all rest next c n k same f h =
    false≢true (sym f ∙ (each_of_append (True values) k.done (c ∷ next) (subst (AllByRecursion (True values)) (k.split ∙ ap (λ l. k.done ++ l) same) h)).1.0)
