-- Each number of a list becomes some others, in its place.
use Rattle.point_laws.proofs.Prelude.{◌≡◌, ◌≢◌, ℕ, ◌<◌, ◌≤◌, List, [], ◌∷◌, ◌++◌, get_or, map, refl, sym, ap, ◌∙◌, subst, inl, inr, arith, flat_map, Contains, cases_eq, map-append, flat_map-append, behind, place_of, Before, ListsOnce, Has}
use Rattle.point_laws.proofs.Prelude.{Apart, Has-from_Contains, Contains-from_Has, Apart-append, place_of-here, place_of-further, place_of-front, place_of-back, once_apart, Has_get, IsDistinct-from_Apart, behind_zero, in_flat, of_flat}
use Rattle.serializability.proofs.Serial.{node_of as listed}

-- of numbers 1 to n each of 1 to m comes from one, and once
pub record Spreads (n m : ℕ) (f : ℕ → List ℕ) : Type 0 where
  pub within : (x y : ℕ) → 0 < x → x ≤ n → Has y (f x) → (0 < y) × (y ≤ m)
  pub found : (y : ℕ) → 0 < y → y ≤ m → (x : ℕ) × (0 < x) × (x ≤ n) × Has y (f x)
  pub one : (a b y : ℕ) → 0 < a → a ≤ n → 0 < b → b ≤ n → Has y (f a) → Has y (f b) → a ≡ b
  pub apart : (x : ℕ) → 0 < x → x ≤ n → Apart (f x)

abbrev Single : (ℕ → List ℕ) → List ℕ → Type 0
Single f xs = (a b y : ℕ) → Has a xs → Has b xs → Has y (f a) → Has y (f b) → a ≡ b

later : (f : ℕ → List ℕ) (x : ℕ) (xs : List ℕ) → Single f (x ∷ xs) → Single f xs
later f x xs one a b y h k = one a b y (inr h) (inr k)

single : {n m : ℕ} {f : ℕ → List ℕ} → Spreads n m f → (xs : List ℕ) → ListsOnce n xs → Single f xs
single {n} s xs once a b y h k = let p = listed n xs once a h in let q = listed n xs once b k in s.one a b y p.0 p.1 q.0 q.1

come_from : (f : ℕ → List ℕ) (xs : List ℕ) (y : ℕ) → Has y (flat_map f xs) → (x : ℕ) × Has x xs × Has y (f x)
come_from f xs y h =
    let r = of_flat f xs y (Contains-from_Has (flat_map f xs) y h) in (r.0, Has-from_Contains xs r.0 r.1, Has-from_Contains (f r.0) y r.2)

flat_apart : (f : ℕ → List ℕ) (xs : List ℕ) → Apart xs → ((x : ℕ) → Has x xs → Apart (f x)) → Single f xs → Apart (flat_map f xs)
flat_apart f [] h k one = tt
flat_apart f (x ∷ xs) h k one =
    Apart-append (f x) (flat_map f xs) (k x (inl refl)) (flat_apart f xs h.1 (λ a c. k a (inr c)) (later f x xs one)) (λ y c d. (let r = come_from f xs y d in h.0 (subst (λ w. Has w xs) (sym (one x r.0 y (inl refl) (inr r.1) c r.2)) r.1)))

pub once_spread : {n m : ℕ} {f : ℕ → List ℕ} → Spreads n m f → (xs : List ℕ) → ListsOnce n xs → ListsOnce m (flat_map f xs)
once_spread {n} {m} {f} s xs once = record {
  only = λ k d lt. only (get_or (flat_map f xs) k d) (Has_get (flat_map f xs) k d lt);
  each = λ y lo hi. (let x = s.found y lo hi in in_flat f xs x.0 y (once.each x.0 x.1 x.2) (Contains-from_Has (f x.0) y x.3));
  distinct = IsDistinct-from_Apart (flat_map f xs) (flat_apart f xs (once_apart n xs once) (λ x h. (let p = listed n xs once x h in s.apart x p.0 p.1)) (single s xs once));
}
  where
    only : (y : ℕ) → Has y (flat_map f xs) → (0 < y) × (y ≤ m)
    only y h = let r = come_from f xs y h in let p = listed n xs once r.0 r.1 in s.within r.0 y p.0 p.1 r.2

-- ---- what stands before
behind_first : (x a : ℕ) (xs : List ℕ) → Has a (x ∷ xs) → x ≢ a → Has a xs
behind_first x a xs (inl e) ne = absurd (ne e)
behind_first x a xs (inr h) ne = h

before_flat : (f : ℕ → List ℕ) (xs : List ℕ) → Single f xs → (a b y z : ℕ) → Has a xs → Has b xs → Has y (f a) → Has z (f b) → place_of xs a < place_of xs b → place_of (flat_map f xs) y < place_of (flat_map f xs) z
before_flat f [] one a b y z ha hb hy hz lt = absurd ha
before_flat f (x ∷ xs) one a b y z ha hb hy hz lt = elim (cases_eq x b) [
  | inl e ↦ absurd (let none = subst (λ n. place_of (x ∷ xs) n ≡ 0) e (place_of-here x xs) in omega (arith, lt, none))
  | inr nb ↦
      let to = place_of-back z (f x) (flat_map f xs) (λ k. nb (one x b z (inl refl) hb k hz)) in
      elim (cases_eq x a) [
        | inl e ↦ let front = place_of-front y (f x) (flat_map f xs) (subst (λ n. Has y (f n)) (sym e) hy) in omega (arith, front, to)
        | inr na ↦
            let from = place_of-back y (f x) (flat_map f xs) (λ k. na (one x a y (inl refl) ha k hy)) in
            let ih = before_flat f xs (later f x xs one) a b y z (behind_first x a xs ha na) (behind_first x b xs hb nb) hy hz (omega (arith, lt, place_of-further x a xs na, place_of-further x b xs nb)) in
            omega (arith, from, to, ih)
      ]
]

within_flat : (f : ℕ → List ℕ) (xs : List ℕ) → Single f xs → (a y z : ℕ) → Has a xs → f a ≡ y ∷ z ∷ [] → y ≢ z → place_of (flat_map f xs) y < place_of (flat_map f xs) z
within_flat f [] one a y z ha e ne = absurd ha
within_flat f (x ∷ xs) one a y z ha e ne = elim (cases_eq x a) [
  | inl here ↦ subst (λ l. place_of (l ++ flat_map f xs) y < place_of (l ++ flat_map f xs) z) (sym (ap f here ∙ e)) (omega (arith, place_of-here y (z ∷ flat_map f xs), place_of-further y z (z ∷ flat_map f xs) ne))
  | inr na ↦
      let from = place_of-back y (f x) (flat_map f xs) (λ k. na (one x a y (inl refl) ha k (subst (Has y) (sym e) (inl refl)))) in
      let to = place_of-back z (f x) (flat_map f xs) (λ k. na (one x a z (inl refl) ha k (subst (Has z) (sym e) (inr (inl refl))))) in
      omega (arith, from, to, within_flat f xs (later f x xs one) a y z (behind_first x a xs ha na) e ne)
]

pub before_spread : {n m : ℕ} {f : ℕ → List ℕ} → Spreads n m f → (xs : List ℕ) → ListsOnce n xs → (a b y z : ℕ) → 0 < a → a ≤ n → 0 < b → b ≤ n → Has y (f a) → Has z (f b) → Before xs a b → Before (flat_map f xs) y z
before_spread {n} {m} {f} s xs once a b y z lo hi lo_b hi_b hy hz before =
    let lt = before_flat f xs (single s xs once) a b y z (Has-from_Contains xs a (once.each a lo hi)) (Has-from_Contains xs b (once.each b lo_b hi_b)) hy hz (omega (arith, before, behind_zero xs a lo, behind_zero xs b lo_b)) in
    omega (arith, lt, behind_zero (flat_map f xs) y (s.within a y lo hi hy).0, behind_zero (flat_map f xs) z (s.within b z lo_b hi_b hz).0)

pub within_spread : {n m : ℕ} {f : ℕ → List ℕ} → Spreads n m f → (xs : List ℕ) → ListsOnce n xs → (a y z : ℕ) → 0 < a → a ≤ n → f a ≡ y ∷ z ∷ [] → y ≢ z → Before (flat_map f xs) y z
within_spread {n} {m} {f} s xs once a y z lo hi e ne =
    let lt = within_flat f xs (single s xs once) a y z (Has-from_Contains xs a (once.each a lo hi)) e ne in
    omega (arith, lt, behind_zero (flat_map f xs) y (s.within a y lo hi (subst (Has y) (sym e) (inl refl))).0, behind_zero (flat_map f xs) z (s.within a z lo hi (subst (Has z) (sym e) (inr (inl refl)))).0)

-- ---- what is joined twice
pub flat_flat : {X Y Z : Type 0} (f : X → List Y) (g : Y → List Z) (h : X → List Z) (xs : List X) → ((x : X) → Contains xs x → flat_map g (f x) ≡ h x) → flat_map g (flat_map f xs) ≡ flat_map h xs
flat_flat f g h [] e = refl
flat_flat f g h (x ∷ xs) e =
    flat_map-append g (f x) (flat_map f xs) ∙ ap (λ l. l ++ flat_map g (flat_map f xs)) (e x (0, omega arith, refl)) ∙ ap (λ l. h x ++ l) (flat_flat f g h xs (λ y c. e y (behind x xs y c)))

pub flat_self : {X : Type 0} (f : X → List X) (xs : List X) → ((x : X) → Contains xs x → f x ≡ x ∷ []) → flat_map f xs ≡ xs
flat_self f [] e = refl
flat_self f (x ∷ xs) e = ap (λ l. l ++ flat_map f xs) (e x (0, omega arith, refl)) ∙ ap (λ l. x ∷ l) (flat_self f xs (λ y c. e y (behind x xs y c)))

pub map_flat : {X Y Z : Type 0} (f : Y → Z) (g : X → List Y) (xs : List X) → map f (flat_map g xs) ≡ flat_map (λ x. map f (g x)) xs
map_flat f g [] = refl
map_flat f g (x ∷ xs) = map-append f (g x) (flat_map g xs) ∙ ap (λ l. map f (g x) ++ l) (map_flat f g xs)
