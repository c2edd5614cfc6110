-- The line of words that ask for what there is not.
use Rattle.cobra_calls.proofs.Prelude.{◌≡◌, ℕ, List, refl, Result, Ok, Err, IfOk, subst, sym, string_bytes, String, Ending, told_as, IsUsage}
use Rattle.std.specs.declared.alloc.Global.{Global}

pub usage_of : {E : Type 0} (r : Result (String Global) E) (text : List ℕ) (e : Ending) → IfOk r (λ line. string_bytes line ≡ text) → e ≡ told_as r 2 → IsUsage text e
usage_of (Ok line) text e h is = subst (IsUsage text) (sym is) (h, refl)
usage_of (Err x) text e h is = subst (IsUsage text) (sym is) refl
