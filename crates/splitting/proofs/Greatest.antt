-- The greatest of what operations have.
use Rattle.splitting.proofs.Prelude.{◌≡◌, ℕ, ◌+◌, ◌≤◌, max, List, [], ◌∷◌, ◌++◌, length, map, refl, ap, ◌∙◌, inl, inr, arith, Contains, Op, written, key_of, written-append, length-append, first_or_behind, greatest, wid_of, leading}
use Rattle.splitting.proofs.Prelude.{most_leading, most_marks, Finds, Survey}

pub within_greatest : {X : Type 0} (f : X → ℕ) (xs : List X) (x : X) → Contains xs x → f x ≤ greatest (map f xs)
within_greatest f [] x c = absurd (omega (arith, c.1))
within_greatest f (y ∷ ys) x c = elim (first_or_behind y ys x c) [
  | inl e ↦ let same = ap f e in omega (arith, same)
  | inr d ↦ let ih = within_greatest f ys x d in omega (arith, ih)
]

greatest_over : {X : Type 0} (f : X → ℕ) (xs ys : List X) → greatest (map f (xs ++ ys)) ≡ max (greatest (map f xs)) (greatest (map f ys))
greatest_over f [] ys = omega arith
greatest_over f (x ∷ xs) ys = let ih = greatest_over f xs ys in omega (arith, ih)

pub marks_are : (ops : List Op) → max 1 (most_marks ops) ≡ most_leading ops + 1
marks_are [] = refl
marks_are (o ∷ ops) = let ih = marks_are ops in omega (arith, ih)

pub finds_none : (a : Survey) → Finds a [] a
finds_none a = record { marks = omega arith; longest = omega arith; largest = omega arith; writes = omega arith }

pub finds_join : (a b c : Survey) (xs ys : List Op) → Finds a xs b → Finds b ys c → Finds a (xs ++ ys) c
finds_join a b c xs ys h k = record {
  marks = (let e = greatest_over (λ o. leading (key_of o) + 1) xs ys in omega (arith, e, h.marks, k.marks));
  longest = (let e = greatest_over (λ o. length (key_of o)) xs ys in omega (arith, e, h.longest, k.longest));
  largest = (let e = greatest_over wid_of xs ys in omega (arith, e, h.largest, k.largest));
  writes = (let e = ap length (written-append xs ys) ∙ length-append (written xs) (written ys) in omega (arith, e, h.writes, k.writes));
}

-- ---- of a whole log
abbrev pub base : Survey
base = record { marks = 1; longest = 0; largest = 0; writes = 0 }
