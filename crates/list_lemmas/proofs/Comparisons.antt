-- Comparisons of numbers and of texts.
use Rattle.std.proofs.Common.{◌≡◌, ℕ, List, sym, ◌&&◌, refl, eqb, eqb-true, ◌<◌, true, arith}
use Rattle.std.specs.Str.{bytes_eq}
use Rattle.std.specs.Ordering.{is_eq, ordering_then}
use Rattle.std.specs.declared.cmp.Ordering.{Ordering}
use Rattle.std.specs.declared.cmp.Ordering.TheVariants.{Less, Equal, Greater}
use Rattle.std.specs.Prelude.{nat_lt}
use Rattle.std.proofs.lemmas.Slice.Eq.{bytes_eq-Decides}
use Rattle.std.proofs.lemmas.Bool.{eq-eqb}
use Rattle.list_lemmas.proofs.Bools.{same_bool}

pub bytes_flip : (a b : List ℕ) → bytes_eq a b ≡ bytes_eq b a
bytes_flip a b = same_bool (bytes_eq a b) (bytes_eq b a) (λ t. (bytes_eq-Decides b a).1 (sym ((bytes_eq-Decides a b).0 t))) (λ t. (bytes_eq-Decides a b).1 (sym ((bytes_eq-Decides b a).0 t)))

pub eq_then : (a b : Ordering) → is_eq (ordering_then a b) ≡ (is_eq a && is_eq b)
eq_then Less b = refl
eq_then Equal b = refl
eq_then Greater b = refl

pub eqb_flip : (a b : ℕ) → eqb a b ≡ eqb b a
eqb_flip a b = same_bool (eqb a b) (eqb b a) (λ t. eq-eqb b a (sym (eqb-true a b t))) (λ t. eq-eqb a b (sym (eqb-true b a t)))

pub lt_true : (a b : ℕ) → nat_lt a b ≡ true → a < b
lt_true a b h = grind arith
