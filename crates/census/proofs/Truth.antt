-- Truth values, and tests of lists.
use Rattle.census.proofs.Prelude.{◌≡◌, ℕ, ◌+◌, ◌<◌, Bool, true, false, cond, ◌&&◌, ◌||◌, List, [], ◌∷◌, ◌++◌, length, take, get_or, refl, sym, ap, ◌∙◌, arith, not, nat_lt, count_by, list_any, false≢true, list_any-append, sum_by_push}
use Rattle.census.proofs.Prelude.{front_more}

pub or_none : (b : Bool) → b ≡ (b || false)
or_none true = refl
or_none false = refl

pub or_assoc : (a b c : Bool) → ((a || b) || c) ≡ (a || (b || c))
or_assoc true b c = refl
or_assoc false b c = refl

-- where this is not asked for, nothing is added
pub left_out : (asked a b : Bool) → asked ≡ false → a ≡ (a || (asked && b))
left_out true a b e = absurd (false≢true (sym e))
left_out false a b e = or_none a

pub let_in : (asked a b new : Bool) → asked ≡ true → new ≡ (a || b) → new ≡ (a || (asked && b))
let_in true a b new e h = h
let_in false a b new e h = absurd (false≢true e)

pub not_true : (b : Bool) → b ≡ true → not b ≡ false
not_true true e = refl
not_true false e = absurd (false≢true e)

pub not_false : (b : Bool) → b ≡ false → not b ≡ true
not_false true e = absurd (false≢true (sym e))
not_false false e = refl

-- one more of a list is added
pub grown : {X : Type 0} (p : X → Bool) (xs : List X) (i : ℕ) (x : X) (a b c : Bool) → i < length xs → x ≡ get_or xs i x → b ≡ (a || list_any p (take i xs)) → c ≡ (b || p x)
    → c ≡ (a || list_any p (take (i + 1) xs))
grown p xs i x a b c lt is before here =
    here
    ∙ ap (λ t. t || p x) before
    ∙ or_assoc a (list_any p (take i xs)) (p x)
    ∙ ap (λ t. a || t) (
    ap (λ t. list_any p (take i xs) || t) (or_none (p x))
    ∙ sym (list_any-append p (take i xs) (x ∷ []))
    ∙ ap (list_any p) (sym (front_more xs i x lt is))
    )

pub any_same : {X : Type 0} (p q : X → Bool) → ((x : X) → p x ≡ q x) → (xs : List X) → list_any p xs ≡ list_any q xs
any_same p q same [] = refl
any_same p q same (x ∷ xs) = ap (λ b. b || list_any p xs) (same x) ∙ ap (λ b. q x || b) (any_same p q same xs)

-- ---- counts
pub counted : {X : Type 0} (p : X → Bool) (xs : List X) (x : X) → count_by p (xs ++ x ∷ []) ≡ count_by p xs + cond (p x) 1 0
counted p xs x = sum_by_push (λ y. cond (p y) 1 0) xs x

pub some_more : (n : ℕ) (b : Bool) → (nat_lt 0 n || b) ≡ nat_lt 0 (n + cond b 1 0)
some_more n true = grind arith
some_more n false = grind arith

pub many_more : (n : ℕ) (b : Bool) → (nat_lt 1 n || (b && nat_lt 0 n)) ≡ nat_lt 1 (n + cond b 1 0)
many_more n true = grind arith
many_more n false = grind arith

-- what holds of one of two is the same where the two are the same
pub together : (s r f : Bool) → ((s && f) || (r && f)) ≡ ((s || r) && f)
together true true true = refl
together true true false = refl
together true false true = refl
together true false false = refl
together false r f = refl
