-- Truth values.
use Rattle.std.proofs.Common.{◌≡◌, Bool, true, false, ◌&&◌, refl, cond, ◌||◌, arith}
use Rattle.std.proofs.lemmas.Bool.{false≢true}

pub and_first : (a b : Bool) → (a && b) ≡ true → a ≡ true
and_first true b e = refl
and_first false b e = e

pub same_bool : (a b : Bool) → (a ≡ true → b ≡ true) → (b ≡ true → a ≡ true) → a ≡ b
same_bool true true f g = refl
same_bool true false f g = absurd (false≢true (f refl))
same_bool false true f g = absurd (false≢true (g refl))
same_bool false false f g = refl

pub cond_or : (b c : Bool) → cond b true c ≡ (b || c)
cond_or v0 v1 = grind arith

pub either_way : (a b c d : Bool) → ((a || b) || (c || d)) ≡ ((a || c) || (b || d))
either_way true b c d = refl
either_way false true true d = refl
either_way false true false d = refl
either_way false false true d = refl
either_way false false false d = refl
