-- Items of lists.
use Rattle.tell_reasons.proofs.Prelude.{◌≡◌, ℕ, List, length, get_or, Option, None, Some, refl, sym, Bor, ltb-true, ltb-false, slice_get, is_some, nat_lt, IfSome, option_copied, slice_get_past, slice_get_read, unwrap_or-slice_get}

-- what a slice's `get` gives
pub got : {X : Type 0} (xs : List X) (i : ℕ) (o : Option (Bor X)) → is_some o ≡ nat_lt i (length xs) → IfSome o (λ x. x.now ≡ get_or xs i x.now) → option_copied o ≡ slice_get xs i
got xs i None e h = sym (slice_get_past xs i (ltb-false i (length xs) (sym e)))
got xs i (Some x) e h = sym (slice_get_read xs (length xs) i x.now refl (ltb-true i (length xs) (sym e)) h)

pub ruleset or_else = (unwrap_or-slice_get)
