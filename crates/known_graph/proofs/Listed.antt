-- Elements of lists that are made by a filter, a map or a join.
use Rattle.known_graph.proofs.Prelude.{◌≡◌, ◌⊎◌, ℕ, zero, suc, ◌+◌, ◌<◌, ◌≤◌, Bool, true, false, cond, List, [], ◌∷◌, ◌++◌, length, get_or, refl, sym, ap, ◌∙◌, subst, inl, inr, arith, Contains, filter, flat_map, range_with_len, map}
use Rattle.known_graph.proofs.Prelude.{cases_eq, cases_Bool, Edge, all_pairs}

-- x is in the list
abbrev pub In : {X : Type 0} → X → List X → Type 0
In x [] = ⊥
In x (y ∷ ys) = (y ≡ x) ⊎ In x ys

In_at : {X : Type 0} (xs : List X) (x : X) (k : ℕ) → k < length xs → get_or xs k x ≡ x → In x xs
In_at [] x k h e = absurd (omega arith)
In_at (y ∷ ys) x zero h e = inl e
In_at (y ∷ ys) x (suc k) h e = inr (In_at ys x k (omega arith) e)

pub In-from_Contains : {X : Type 0} (xs : List X) (x : X) → Contains xs x → In x xs
In-from_Contains xs x c = In_at xs x c.0 c.1 c.2

pub Contains-from_In : {X : Type 0} (xs : List X) (x : X) → In x xs → Contains xs x
Contains-from_In [] x h = absurd h
Contains-from_In (y ∷ ys) x (inl e) = (0, omega arith, e)
Contains-from_In (y ∷ ys) x (inr h) =
    let c = Contains-from_In ys x h in (suc c.0, omega (arith, c.1), c.2)

pub In-append_left : {X : Type 0} (x : X) (xs ys : List X) → In x xs → In x (xs ++ ys)
In-append_left x [] ys h = absurd h
In-append_left x (y ∷ xs) ys (inl e) = inl e
In-append_left x (y ∷ xs) ys (inr h) = inr (In-append_left x xs ys h)

pub In-append_right : {X : Type 0} (x : X) (xs ys : List X) → In x ys → In x (xs ++ ys)
In-append_right x [] ys h = h
In-append_right x (y ∷ xs) ys h = inr (In-append_right x xs ys h)

pub In-append_cases : {X : Type 0} (x : X) (xs ys : List X) → In x (xs ++ ys) → In x xs ⊎ In x ys
In-append_cases x [] ys h = inr h
In-append_cases x (y ∷ xs) ys (inl e) = inl (inl e)
In-append_cases x (y ∷ xs) ys (inr h) = elim (In-append_cases x xs ys h) [ inl a ↦ inl (inr a) | inr a ↦ inr a ]

-- ---- a filter
pub In-filter : {X : Type 0} (p : X → Bool) (x : X) (xs : List X) → In x xs → p x ≡ true → In x (filter p xs)
In-filter p x [] h t = absurd h
In-filter p x (y ∷ ys) (inl e) t = let here : p y ≡ true = ap p e ∙ t in rw here (inl e)
In-filter p x (y ∷ ys) (inr h) t = elim (cases_Bool (p y)) [
  | inl a ↦ rw a (inr (In-filter p x ys h t))
  | inr a ↦ rw a (In-filter p x ys h t)
]

kept : {X : Type 0} (p : X → Bool) (x y : X) (rest : List X) (b : Bool) → p y ≡ b → In x (cond b (y ∷ rest) rest) → ((y ≡ x) × (p x ≡ true)) ⊎ In x rest
kept p x y rest true e (inl h) = inl (h, ap p (sym h) ∙ e)
kept p x y rest true e (inr h) = inr h
kept p x y rest false e h = inr h

pub In-of_filter : {X : Type 0} (p : X → Bool) (x : X) (xs : List X) → In x (filter p xs) → In x xs × (p x ≡ true)
In-of_filter p x [] h = absurd h
In-of_filter p x (y ∷ ys) h = elim (kept p x y (filter p ys) (p y) refl h) [
  | inl k ↦ (inl k.0, k.1)
  | inr k ↦ let r = In-of_filter p x ys k in (inr r.0, r.1)
]

-- tests that agree on the elements of a list keep the same of it
pub filter_same : {X : Type 0} (p q : X → Bool) (xs : List X) → ((x : X) → In x xs → p x ≡ q x) → filter p xs ≡ filter q xs
filter_same p q [] h = refl
filter_same p q (x ∷ xs) h =
    ap (λ b. cond b (x ∷ filter p xs) (filter p xs)) (h x (inl refl))
    ∙ ap (λ l. cond (q x) (x ∷ l) l) (filter_same p q xs (λ y k. h y (inr k)))

-- ---- numbers and pairs
pub In-range : (v a n : ℕ) → a ≤ v → v < a + n → In v (range_with_len a n)
In-range v a zero lo hi = absurd (omega arith)
In-range v a (suc n) lo hi = elim (cases_eq a v) [
  | inl e ↦ inl e
  | inr ne ↦ inr (In-range v (a + 1) n (omega (arith, ne)) (omega arith))
]

pub In-of_range : (v a n : ℕ) → In v (range_with_len a n) → (a ≤ v) × (v < a + n)
In-of_range v a zero h = absurd h
In-of_range v a (suc n) (inl e) = (omega (arith, e), omega (arith, e))
In-of_range v a (suc n) (inr h) = let r = In-of_range v (a + 1) n h in (omega (arith, r.0, r.1), omega (arith, r.0, r.1))

In-map : {X Y : Type 0} (f : X → Y) (x : X) (xs : List X) → In x xs → In (f x) (map f xs)
In-map f x [] h = absurd h
In-map f x (y ∷ ys) (inl e) = inl (ap f e)
In-map f x (y ∷ ys) (inr h) = inr (In-map f x ys h)

In-of_map : {X Y : Type 0} (f : X → Y) (y : Y) (xs : List X) → In y (map f xs) → (x : X) × (In x xs × (f x ≡ y))
In-of_map f y [] h = absurd h
In-of_map f y (x ∷ xs) (inl e) = (x, (inl refl, e))
In-of_map f y (x ∷ xs) (inr h) = let r = In-of_map f y xs h in (r.0, (inr r.1.0, r.1.1))

In-flat_map : {X Y : Type 0} (f : X → List Y) (x : X) (y : Y) (xs : List X) → In x xs → In y (f x) → In y (flat_map f xs)
In-flat_map f x y [] h k = absurd h
In-flat_map f x y (z ∷ zs) (inl e) k = In-append_left y (f z) (flat_map f zs) (let P : List _ → Type 0 = λ l. In y l in subst P (ap f (sym e)) k)
In-flat_map f x y (z ∷ zs) (inr h) k = In-append_right y (f z) (flat_map f zs) (In-flat_map f x y zs h k)

In-of_flat_map : {X Y : Type 0} (f : X → List Y) (y : Y) (xs : List X) → In y (flat_map f xs) → (x : X) × (In x xs × In y (f x))
In-of_flat_map f y [] h = absurd h
In-of_flat_map f y (x ∷ xs) h = elim (In-append_cases y (f x) (flat_map f xs) h) [
  | inl a ↦ (x, (inl refl, a))
  | inr a ↦ let r = In-of_flat_map f y xs a in (r.0, (inr r.1.0, r.1.1))
]

pub In-pairs : (u v n : ℕ) → u ≤ n → v ≤ n → In (u, v) (all_pairs n)
unfolding all_pairs
In-pairs u v n hu hv =
    let row : ℕ → List Edge = λ a. map (λ b. (a, b)) (range_with_len 0 (n + 1)) in
    In-flat_map row u (u, v) (range_with_len 0 (n + 1)) (In-range u 0 (n + 1) (omega arith) (omega arith))
    (In-map (λ (b : ℕ). (let e : Edge = (u, b) in e)) v (range_with_len 0 (n + 1)) (In-range v 0 (n + 1) (omega arith) (omega arith)))

pub In-of_pairs : (e : Edge) (n : ℕ) → In e (all_pairs n) → (e.0 ≤ n) × (e.1 ≤ n)
unfolding all_pairs
In-of_pairs e n h =
    let row : ℕ → List Edge = λ a. map (λ b. (a, b)) (range_with_len 0 (n + 1)) in
    let r = In-of_flat_map row e (range_with_len 0 (n + 1)) h in
    let s = In-of_map (λ (b : ℕ). (let x : Edge = (r.0, b) in x)) e (range_with_len 0 (n + 1)) r.1.1 in
    let hu = In-of_range r.0 0 (n + 1) r.1.0 in
    let hv = In-of_range s.0 0 (n + 1) s.1.0 in
    (omega (arith, hu.1, ap (λ (x : Edge). x.0) s.1.1), omega (arith, hv.1, ap (λ (x : Edge). x.1) s.1.1))
