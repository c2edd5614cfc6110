-- Elements of a list that pass a test, and pairs of them.
use Rattle.anomaly_laws.proofs.Prelude.{◌≡◌, ◌⊎◌, Bool, true, List, [], ◌∷◌, ◌++◌, refl, sym, ap, ◌∙◌, subst, inl, inr, arith, Contains, list_any, false≢true, or_cases, or_left, or_right}
use Rattle.std.proofs.lemmas.List.Elements.{Contains-append_right}

-- an element that passes, with those before it and those behind it
pub record Found {X : Type 0} (p : X → Bool) (xs : List X) : Type 0 where
  pub front : List X
  pub item : X
  pub back : List X
  pub stands : xs ≡ front ++ item ∷ back
  pub passes : p item ≡ true

pub any_split : {X : Type 0} (p : X → Bool) (xs : List X) → list_any p xs ≡ true → Found p xs
any_split p [] e = absurd (false≢true e)
any_split p (x ∷ xs) e = elim (or_cases (p x) (list_any p xs) e) [
  | inl h ↦ record { front = []; item = x; back = xs; stands = refl; passes = h }
  | inr h ↦ let r = any_split p xs h in
      record { front = x ∷ r.front; item = r.item; back = r.back; stands = ap (λ l. x ∷ l) r.stands; passes = r.passes }
]

pub any_at : {X : Type 0} (p : X → Bool) (front : List X) (x : X) (back : List X) → p x ≡ true → list_any p (front ++ x ∷ back) ≡ true
any_at p [] x back e = or_left (p x) (list_any p back) e
any_at p (y ∷ front) x back e = or_right (p y) (list_any p (front ++ x ∷ back)) (any_at p front x back e)

pub contains_at : {X : Type 0} (xs front : List X) (x : X) (back : List X) → xs ≡ front ++ x ∷ back → Contains xs x
contains_at xs front x back e =
    subst (λ l. Contains l x) (sym e) (Contains-append_right front (x ∷ back) x (0, omega arith, refl))

-- of two elements of a list, one place, or the first before the second, or behind it
pub two_places : {X : Type 0} (a c : List X) (x y : X) (b d : List X) → a ++ x ∷ b ≡ c ++ y ∷ d → ((a ≡ c) × (x ≡ y)) ⊎ (((m : List X) × (c ≡ a ++ x ∷ m)) ⊎ ((m : List X) × (a ≡ c ++ y ∷ m)))
two_places [] [] x y b d e = inl (refl, cc)
two_places [] (z ∷ c) x y b d e = inr (inl (c, cc))
two_places (z ∷ a) [] x y b d e = inr (inr (a, cc))
two_places (z ∷ a) (t ∷ c) x y b d e =
    let head : z ≡ t = cc in
    let tail : a ++ x ∷ b ≡ c ++ y ∷ d = cc in
    elim (two_places a c x y b d tail) [
      | inl s ↦ inl (ap (λ l. z ∷ l) s.0 ∙ ap (λ n. n ∷ c) head, s.1)
      | inr h ↦ elim h [
        | inl s ↦ inr (inl (s.0, ap (λ l. t ∷ l) s.1 ∙ ap (λ n. n ∷ (a ++ x ∷ s.0)) (sym head)))
        | inr s ↦ inr (inr (s.0, ap (λ l. z ∷ l) s.1 ∙ ap (λ n. n ∷ (c ++ y ∷ s.0)) head))
      ]
    ]
