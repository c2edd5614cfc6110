-- Lists of nodes: what a written mark and new nodes change.
use Rattle.cube_laws.proofs.Prelude.{◌≡◌, ◌⊎◌, ℕ, zero, suc, ◌+◌, ◌<◌, Bool, true, false, cond, List, [], ◌∷◌, ◌++◌, length, Option, None, Some, refl, sym, ap, ◌∙◌, subst, inl, inr, arith, slice_get, slice_set, option_map_or}
use Rattle.cube_laws.proofs.Prelude.{AllByRecursion, list_any, cases_Bool, false≢true, or_cases, or_left, or_right, cond-true, cond-false, same_Some, Node, is_open, is_held_by, held_from, last_open_from, or_else, CubeState}

-- ---- options

pub none-some : {A : Type 0} (x : A) → ◌≡◌ {A = Option A} None (Some x) → ⊥
none-some x e = cc

pub one_value : {A : Type 0} (o : Option A) (x y : A) → o ≡ Some x → o ≡ Some y → x ≡ y
one_value o x y a b = same_Some x y (sym a ∙ b)

-- ---- an element by its number

pub get_other : {A : Type 0} (xs : List A) (k j : ℕ) (x y : A) → (j ≡ k → ⊥) → slice_get xs j ≡ Some x → slice_get (slice_set xs k y) j ≡ Some x
get_other [] k j x y ne e = e
get_other (z ∷ zs) zero zero x y ne e = absurd (ne refl)
get_other (z ∷ zs) zero (suc j) x y ne e = e
get_other (z ∷ zs) (suc k) zero x y ne e = e
get_other (z ∷ zs) (suc k) (suc j) x y ne e = get_other zs k j x y (λ s. ne (ap suc s)) e

pub get_front : {A : Type 0} (xs ys : List A) (k : ℕ) (x : A) → slice_get xs k ≡ Some x → slice_get (xs ++ ys) k ≡ Some x
get_front [] ys k x e = absurd (none-some x e)
get_front (z ∷ zs) ys zero x e = e
get_front (z ∷ zs) ys (suc k) x e = get_front zs ys k x e

pub get_first : {A : Type 0} (xs : List A) (a b : A) → slice_get (xs ++ a ∷ b ∷ []) (length xs) ≡ Some a
get_first [] a b = refl
get_first (z ∷ zs) a b = get_first zs a b

pub get_second : {A : Type 0} (xs : List A) (a b : A) → slice_get (xs ++ a ∷ b ∷ []) (suc (length xs)) ≡ Some b
get_second [] a b = refl
get_second (z ∷ zs) a b = get_second zs a b

-- there is one below the length
pub get_below : {A : Type 0} (xs : List A) (k : ℕ) → k < length xs → (x : A) × (slice_get xs k ≡ Some x)
get_below [] k lt = absurd (omega arith)
get_below (z ∷ zs) zero lt = (z, refl)
get_below (z ∷ zs) (suc k) lt = get_below zs k (omega arith)

pub length_set : {A : Type 0} (xs : List A) (k : ℕ) (y : A) → length (slice_set xs k y) ≡ length xs
length_set [] k y = refl
length_set (z ∷ zs) zero y = refl
length_set (z ∷ zs) (suc k) y = ap suc (length_set zs k y)

pub length_two : {A : Type 0} (xs : List A) (a b : A) → length (xs ++ a ∷ b ∷ []) ≡ length xs + 2
length_two [] a b = refl
length_two (z ∷ zs) a b = let e = length_two zs a b in omega (arith, e)

-- ---- what holds of each
pub each_at : {A : Type 0} (P : A → Type 0) (xs : List A) (k : ℕ) (x : A) → AllByRecursion P xs → slice_get xs k ≡ Some x → P x
each_at P [] k x h e = absurd (none-some x e)
each_at P (z ∷ zs) zero x h e = subst P (same_Some z x e) h.0
each_at P (z ∷ zs) (suc k) x h e = each_at P zs k x h.1 e

pub each_set : {A : Type 0} (P : A → Type 0) (xs : List A) (k : ℕ) (y : A) → AllByRecursion P xs → P y → AllByRecursion P (slice_set xs k y)
each_set P [] k y h p = h
each_set P (z ∷ zs) zero y h p = (p, h.1)
each_set P (z ∷ zs) (suc k) y h p = (h.0, each_set P zs k y h.1 p)

pub each_indexed : {A : Type 0} (P : A → Type 0) (xs : List A) → ((k : ℕ) (x : A) → slice_get xs k ≡ Some x → P x) → AllByRecursion P xs
each_indexed P [] h = tt
each_indexed P (z ∷ zs) h = (h 0 z refl, each_indexed P zs (λ k x e. h (suc k) x e))

-- ---- tests
pub any_at : {A : Type 0} (t : A → Bool) (xs : List A) (k : ℕ) (x : A) → slice_get xs k ≡ Some x → t x ≡ true → list_any t xs ≡ true
any_at t [] k x e h = absurd (none-some x e)
any_at t (z ∷ zs) zero x e h = or_left (t z) (list_any t zs) (ap t (same_Some z x e) ∙ h)
any_at t (z ∷ zs) (suc k) x e h = or_right (t z) (list_any t zs) (any_at t zs k x e h)

-- what passes still does, where another is written
pub any_kept : {A : Type 0} (t : A → Bool) (xs : List A) (k : ℕ) (x y : A) → slice_get xs k ≡ Some x → t x ≡ false → list_any t xs ≡ true → list_any t (slice_set xs k y) ≡ true
any_kept t [] k x y e f h = h
any_kept t (z ∷ zs) zero x y e f h = elim (or_cases (t z) (list_any t zs) h) [
  | inl a ↦ absurd (false≢true (sym f ∙ ap t (sym (same_Some z x e)) ∙ a))
  | inr b ↦ or_right (t y) (list_any t zs) b
]
any_kept t (z ∷ zs) (suc k) x y e f h = elim (or_cases (t z) (list_any t zs) h) [
  | inl a ↦ or_left (t z) (list_any t (slice_set zs k y)) a
  | inr b ↦ or_right (t z) (list_any t (slice_set zs k y)) (any_kept t zs k x y e f b)
]

-- ---- the node that a seat holds, and an open one
-- a node by its number, of which the mark passes the test
pub record Marked (test : CubeState → Bool) (nodes : List Node) (id : ℕ) : Type 0 where
  pub node : Node
  pub at : slice_get nodes id ≡ Some node
  pub passes : test node.mark ≡ true

pub further : (test : CubeState → Bool) (x : Node) (nodes : List Node) (id : ℕ) → Marked test nodes id → Marked test (x ∷ nodes) (suc id)
further test x nodes id m = record { node = m.node; at = m.at; passes = m.passes }

pub found_held : (seat k id : ℕ) (nodes : List Node) → held_from seat k nodes ≡ Some id → (j : ℕ) × ((k + j ≡ id) × Marked (is_held_by seat) nodes j)
found_held seat k id [] e = absurd (none-some id e)
found_held seat k id (x ∷ xs) e = elim (cases_Bool (is_held_by seat x.mark)) [
  | inl t ↦ (let same = same_Some k id (sym (cond-true (is_held_by seat x.mark) (Some k) (held_from seat (k + 1) xs) t) ∙ e) in
      (0, (omega (arith, same), record { node = x; at = refl; passes = t })))
  | inr f ↦ (let r = found_held seat (k + 1) id xs (sym (cond-false (is_held_by seat x.mark) (Some k) (held_from seat (k + 1) xs) f) ∙ e) in
      (suc r.0, (let n = r.1.0 in omega (arith, n), further (is_held_by seat) x xs r.0 r.1.1)))
]

pub else_cases : (a b : Option ℕ) (id : ℕ) → or_else a b ≡ Some id → (a ≡ Some id) ⊎ (b ≡ Some id)
else_cases None b id e = inr e
else_cases (Some k) b id e = inl e

cond_none : (b : Bool) (k id : ℕ) → ◌≡◌ {A = Option ℕ} (cond b (Some k) None) (Some id) → (b ≡ true) × (k ≡ id)
cond_none true k id e = (refl, same_Some k id e)
cond_none false k id e = absurd (none-some id e)

pub found_open : (k id : ℕ) (nodes : List Node) → last_open_from k nodes ≡ Some id → (j : ℕ) × ((k + j ≡ id) × Marked is_open nodes j)
found_open k id [] e = absurd (none-some id e)
found_open k id (x ∷ xs) e = elim (else_cases (last_open_from (k + 1) xs) (cond (is_open x.mark) (Some k) None) id e) [
  | inl a ↦ (let r = found_open (k + 1) id xs a in
      (suc r.0, (let n = r.1.0 in omega (arith, n), further is_open x xs r.0 r.1.1)))
  | inr b ↦ (let c = cond_none (is_open x.mark) k id b in
      (0, (let same = c.1 in omega (arith, same), record { node = x; at = refl; passes = c.0 })))
]

-- the numbers begin at 0
pub found_first : (test : CubeState → Bool) (nodes : List Node) (id : ℕ) → ((j : ℕ) × ((0 + j ≡ id) × Marked test nodes j)) → Marked test nodes id
found_first test nodes id r =
    let z : r.0 ≡ id = (let n = r.1.0 in omega (arith, n)) in
    subst (Marked test nodes) z r.1.1

pub tested_open : (nodes : List Node) (id : ℕ) (o : Option Node) → slice_get nodes id ≡ o → option_map_or (λ x. is_open x.mark) o false ≡ true → Marked is_open nodes id
tested_open nodes id None e t = absurd (false≢true t)
tested_open nodes id (Some x) e t = record { node = x; at = e; passes = t }
