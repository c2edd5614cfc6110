-- Places in a list of nodes.
use Rattle.serializability.proofs.Prelude.{◌≡◌, ◌⊎◌, ℕ, zero, suc, ◌+◌, ◌<◌, ◌≤◌, Bool, true, false, eqb, cond, List, [], ◌∷◌, ◌++◌, length, get_or, refl, sym, ap, ◌∙◌, subst, inl, inr, arith, eq-eqb, ne_eqb, Contains, AllByRecursion}
use Rattle.serializability.proofs.Prelude.{IsDistinct, range_with_len, filter, flat_map, nat_eq, map, cases_eq, cond-true, cond-false, false≢true, place_of}

-- v is in the list
abbrev pub Has : ℕ → List ℕ → Type 0
Has v [] = ⊥
Has v (u ∷ us) = (u ≡ v) ⊎ Has v us

pub Has_at : (xs : List ℕ) (v k : ℕ) → k < length xs → get_or xs k v ≡ v → Has v xs
Has_at [] v k h e = absurd (omega arith)
Has_at (u ∷ us) v zero h e = inl e
Has_at (u ∷ us) v (suc k) h e = inr (Has_at us v k (omega arith) e)

pub Has-from_Contains : (xs : List ℕ) (v : ℕ) → Contains xs v → Has v xs
Has-from_Contains xs v c = Has_at xs v c.0 c.1 c.2

pub Contains-from_Has : (xs : List ℕ) (v : ℕ) → Has v xs → Contains xs v
Contains-from_Has [] v h = absurd h
Contains-from_Has (u ∷ us) v (inl e) = (0, omega arith, e)
Contains-from_Has (u ∷ us) v (inr h) =
    let c = Contains-from_Has us v h in (suc c.0, omega (arith, c.1), c.2)

-- no node stands twice
abbrev pub Apart : List ℕ → Type 0
Apart [] = Unit {0}
Apart (x ∷ xs) = (Has x xs → ⊥) × Apart xs

not_among : (x : ℕ) (xs : List ℕ) → AllByRecursion (λ y. nat_eq x y ≡ false) xs → Has x xs → ⊥
not_among x [] a h = h
not_among x (y ∷ ys) a (inl e) = false≢true (sym a.0 ∙ eq-eqb x y (sym e))
not_among x (y ∷ ys) a (inr h) = not_among x ys a.1 h

pub Apart-from_IsDistinct : (xs : List ℕ) → IsDistinct nat_eq xs → Apart xs
unfolding IsDistinct
Apart-from_IsDistinct [] d = tt
Apart-from_IsDistinct (x ∷ xs) d = (not_among x xs d.0, Apart-from_IsDistinct xs d.1)

pub Has-append_front : (v : ℕ) (f b : List ℕ) → Has v f → Has v (f ++ b)
Has-append_front v [] b h = absurd h
Has-append_front v (u ∷ f) b (inl e) = inl e
Has-append_front v (u ∷ f) b (inr h) = inr (Has-append_front v f b h)

pub Has-append_back : (v : ℕ) (f b : List ℕ) → Has v b → Has v (f ++ b)
Has-append_back v [] b h = h
Has-append_back v (u ∷ f) b h = inr (Has-append_back v f b h)

pub Has-append_cases : (v : ℕ) (f b : List ℕ) → Has v (f ++ b) → Has v f ⊎ Has v b
Has-append_cases v [] b h = inr h
Has-append_cases v (u ∷ f) b (inl e) = inl (inl e)
Has-append_cases v (u ∷ f) b (inr h) = elim (Has-append_cases v f b h) [ inl a ↦ inl (inr a) | inr a ↦ inr a ]

pub Apart-not_both : (v : ℕ) (f b : List ℕ) → Apart (f ++ b) → Has v f → Has v b → ⊥
Apart-not_both v [] b a h k = h
Apart-not_both v (u ∷ f) b a (inl e) k = a.0 (Has-append_back u f b (subst (λ n. Has n b) (sym e) k))
Apart-not_both v (u ∷ f) b a (inr h) k = Apart-not_both v f b a.1 h k

pub place_of-here : (u : ℕ) (us : List ℕ) → place_of (u ∷ us) u ≡ 0
place_of-here u us = cond-true (eqb u u) 0 _ (eq-eqb u u refl)

pub place_of-further : (u v : ℕ) (us : List ℕ) → (u ≡ v → ⊥) → place_of (u ∷ us) v ≡ suc (place_of us v)
place_of-further u v us ne = cond-false (eqb u v) 0 _ (ne_eqb u v ne)

pub place_of-front : (v : ℕ) (f b : List ℕ) → Has v f → place_of (f ++ b) v < length f
place_of-front v [] b h = absurd h
place_of-front v (u ∷ f) b h = elim (cases_eq u v) [
  | inl e ↦ let here : place_of (u ∷ (f ++ b)) v ≡ 0 = cond-true (eqb u v) 0 _ (eq-eqb u v e) in omega (arith, here)
  | inr ne ↦ elim h [
    | inl e ↦ absurd (ne e)
    | inr k ↦ let there = place_of-further u v (f ++ b) ne in omega (arith, there, place_of-front v f b k)
  ]
]

pub place_of-back : (v : ℕ) (f b : List ℕ) → (Has v f → ⊥) → place_of (f ++ b) v ≡ length f + place_of b v
place_of-back v [] b absent = omega arith
place_of-back v (u ∷ f) b absent =
    let there = place_of-further u v (f ++ b) (λ e. absent (inl e)) in
    omega (arith, there, place_of-back v f b (λ h. absent (inr h)))

-- a node of the list, what stands before it and what stands behind it
pub Has-split : (v : ℕ) (xs : List ℕ) → Has v xs → (f : List ℕ) × ((b : List ℕ) × (xs ≡ f ++ v ∷ b))
Has-split v [] h = absurd h
Has-split v (u ∷ us) (inl e) = ([], (us, ap (λ n. n ∷ us) e))
Has-split v (u ∷ us) (inr h) = let s = Has-split v us h in (u ∷ s.0, (s.1.0, ap (λ l. u ∷ l) s.1.1))

-- ---- what holds of each element of a list that is made
pub each_of_range : (P : ℕ → Type 0) (a n : ℕ) → AllByRecursion P (range_with_len a n) → (v : ℕ) → a ≤ v → v < a + n → P v
each_of_range P a zero h v lo hi = absurd (omega arith)
each_of_range P a (suc n) h v lo hi = elim (cases_eq a v) [
  | inl e ↦ subst P e h.0
  | inr ne ↦ each_of_range P (a + 1) n h.1 v (omega (arith, ne)) (omega arith)
]

pub each_from_range : (P : ℕ → Type 0) (a n : ℕ) → ((v : ℕ) → a ≤ v → v < a + n → P v) → AllByRecursion P (range_with_len a n)
each_from_range P a zero h = tt
each_from_range P a (suc n) h = (h a (omega arith) (omega arith), each_from_range P (a + 1) n (λ v lo hi. h v (omega arith) (omega arith)))

pub each_of_append : {X : Type 0} (P : X → Type 0) (xs ys : List X) → AllByRecursion P (xs ++ ys) → AllByRecursion P xs × AllByRecursion P ys
each_of_append P [] ys h = (tt, h)
each_of_append P (x ∷ xs) ys h = let r = each_of_append P xs ys h.1 in ((h.0, r.0), r.1)

pub each_from_append : {X : Type 0} (P : X → Type 0) (xs ys : List X) → AllByRecursion P xs → AllByRecursion P ys → AllByRecursion P (xs ++ ys)
each_from_append P [] ys h k = k
each_from_append P (x ∷ xs) ys h k = (h.0, each_from_append P xs ys h.1 k)

pub each_of_flat_map : {X Y : Type 0} (P : Y → Type 0) (f : X → List Y) (xs : List X) → AllByRecursion P (flat_map f xs) → AllByRecursion (λ x. AllByRecursion P (f x)) xs
each_of_flat_map P f [] h = tt
each_of_flat_map P f (x ∷ xs) h = let r = each_of_append P (f x) (flat_map f xs) h in (r.0, each_of_flat_map P f xs r.1)

pub each_from_flat_map : {X Y : Type 0} (P : Y → Type 0) (f : X → List Y) (xs : List X) → AllByRecursion (λ x. AllByRecursion P (f x)) xs → AllByRecursion P (flat_map f xs)
each_from_flat_map P f [] h = tt
each_from_flat_map P f (x ∷ xs) h = each_from_append P (f x) (flat_map f xs) h.0 (each_from_flat_map P f xs h.1)

pub each_of_map : {X Y : Type 0} (P : Y → Type 0) (f : X → Y) (xs : List X) → AllByRecursion P (map f xs) → AllByRecursion (λ x. P (f x)) xs
each_of_map P f [] h = tt
each_of_map P f (x ∷ xs) h = (h.0, each_of_map P f xs h.1)

pub each_from_map : {X Y : Type 0} (P : Y → Type 0) (f : X → Y) (xs : List X) → AllByRecursion (λ x. P (f x)) xs → AllByRecursion P (map f xs)
each_from_map P f [] h = tt
each_from_map P f (x ∷ xs) h = (h.0, each_from_map P f xs h.1)

of_filtered : {X : Type 0} (P : X → Type 0) (p : X → Bool) (x : X) (xs : List X) (b : Bool) → p x ≡ b → AllByRecursion P (cond b (x ∷ filter p xs) (filter p xs)) → (p x ≡ true → P x) × AllByRecursion P (filter p xs)
of_filtered P p x xs true e h = (λ _. h.0, h.1)
of_filtered P p x xs false e h = (λ t. absurd (false≢true (sym e ∙ t)), h)

pub each_of_filter : {X : Type 0} (P : X → Type 0) (p : X → Bool) (xs : List X) → AllByRecursion P (filter p xs) → AllByRecursion (λ x. p x ≡ true → P x) xs
each_of_filter P p [] h = tt
each_of_filter P p (x ∷ xs) h = let r = of_filtered P p x xs (p x) refl h in (r.0, each_of_filter P p xs r.1)

from_filtered : {X : Type 0} (P : X → Type 0) (p : X → Bool) (x : X) (xs : List X) (b : Bool) → p x ≡ b → (p x ≡ true → P x) → AllByRecursion P (filter p xs) → AllByRecursion P (cond b (x ∷ filter p xs) (filter p xs))
from_filtered P p x xs true e h k = (h e, k)
from_filtered P p x xs false e h k = k

pub each_from_filter : {X : Type 0} (P : X → Type 0) (p : X → Bool) (xs : List X) → AllByRecursion (λ x. p x ≡ true → P x) xs → AllByRecursion P (filter p xs)
each_from_filter P p [] h = tt
each_from_filter P p (x ∷ xs) h = from_filtered P p x xs (p x) refl h.0 (each_from_filter P p xs h.1)

pub length_mapped : {X Y : Type 0} (f : X → Y) (xs : List X) → length (map f xs) ≡ length xs
length_mapped f [] = refl
length_mapped f (x ∷ xs) = ap suc (length_mapped f xs)

pub place_within : (xs : List ℕ) (v : ℕ) → Has v xs → place_of xs v < length xs
place_within [] v h = absurd h
place_within (x ∷ xs) v h = elim (cases_eq x v) [
  | inl e ↦ (let here : place_of (x ∷ xs) v ≡ 0 = cond-true {A = ℕ} (eqb x v) 0 _ (eq-eqb x v e) in omega (arith, here))
  | inr ne ↦ elim h [
    | inl e ↦ absurd (ne e)
    | inr k ↦ (let there = place_of-further x v xs ne in omega (arith, there, place_within xs v k))
  ]
]

pub Apart-append : (a b : List ℕ) → Apart a → Apart b → ((n : ℕ) → Has n a → Has n b → ⊥) → Apart (a ++ b)
Apart-append [] b h k d = k
Apart-append (x ∷ a) b h k d = (
  λ i. elim (Has-append_cases x a b i) [ inl j ↦ h.0 j | inr j ↦ d x (inl refl) j ],
  Apart-append a b h.1 k (λ n i j. d n (inr i) j),
)
