-- Tests of lists and their places, and what operations write.
use Rattle.census_laws.proofs.Prelude.{◌≡◌, ◌⊎◌, ℕ, ◌+◌, zero, suc, Bool, true, false, cond, ◌&&◌, ◌||◌, eqb, List, [], ◌∷◌, Option, None, Some, refl, sym, ap, subst, ◌∙◌, inl, inr, arith, slice_get, nat_lt, count_by, filter, flat_map}
use Rattle.census_laws.proofs.Prelude.{list_any, bytes_eq, cases_Bool, false≢true, and_parts, eqb-true, Transaction, Op, Read, Write, later, Has, Has-append_front, Has-append_back, written, written-append, last_write, writes_as}
use Rattle.std.proofs.lemmas.List.Sums.{sum_by-cons}

-- ---- elements at places
pub record Found {X : Type 0} (p : X → Bool) (xs : List X) : Type 0 where
  pub place : ℕ
  pub item : X
  pub stands : slice_get xs place ≡ Some item
  pub passes : p item ≡ true

abbrev pub further : {X : Type 0} (p : X → Bool) (x : X) (xs : List X) → Found p xs → Found p (x ∷ xs)
further p x xs f = record { place = suc f.place; item = f.item; stands = f.stands; passes = f.passes }

pub any_found : {X : Type 0} (p : X → Bool) (xs : List X) → list_any p xs ≡ true → Found p xs
any_found p [] e = absurd (false≢true e)
any_found p (x ∷ xs) e = elim (cases_Bool (p x)) [
  | inl is ↦ record { place = 0; item = x; stands = refl; passes = is }
  | inr not ↦ further p x xs (any_found p xs (ap (λ b. b || list_any p xs) (sym not) ∙ e))
]

pub none_found : {X : Type 0} (p : X → Bool) (xs : List X) → (Found p xs → ⊥) → list_any p xs ≡ false
none_found p xs f = elim (cases_Bool (list_any p xs)) [ inl e ↦ absurd (f (any_found p xs e)) | inr e ↦ e ]

pub any_at : {X : Type 0} (p : X → Bool) (xs : List X) (i : ℕ) (x : X) → slice_get xs i ≡ Some x → p x ≡ true → list_any p xs ≡ true
any_at p [] i x e h = cc
any_at p (y ∷ xs) zero x e h = let same : y ≡ x = cc in ap (λ b. b || list_any p xs) (ap p same ∙ h)
any_at p (y ∷ xs) (suc i) x e h = ap (λ b. p y || b) (any_at p xs i x e h) ∙ or_true (p y)
  where
    or_true : (b : Bool) → (b || true) ≡ true
    or_true true = refl
    or_true false = refl

pub filtered_at : {X : Type 0} (p : X → Bool) (xs : List X) (i : ℕ) (x : X) → slice_get (filter p xs) i ≡ Some x → (j : ℕ) × (slice_get xs j ≡ Some x) × (p x ≡ true)
filtered_at {X = X} p [] i x e = cc
filtered_at {X = X} p (y ∷ xs) i x e = elim (cases_Bool (p y)) [
  | inl is ↦ first i (subst (λ b. slice_get (cond b (y ∷ filter p xs) (filter p xs)) i ≡ Some x) is e) is (filtered_at p xs)
  | inr not ↦ let rest = filtered_at p xs i x (subst (λ b. slice_get (cond b (y ∷ filter p xs) (filter p xs)) i ≡ Some x) not e) in (suc rest.0, rest.1, rest.2)
]
  where
    first : (n : ℕ) → slice_get (y ∷ filter p xs) n ≡ Some x → p y ≡ true → ((m : ℕ) (z : X) → slice_get (filter p xs) m ≡ Some z → (j : ℕ) × (slice_get xs j ≡ Some z) × (p z ≡ true)) → (j : ℕ) × (slice_get (y ∷ xs) j ≡ Some x) × (p x ≡ true)
    first zero h is rest = let same : y ≡ x = cc in (0, h, ap p (sym same) ∙ is)
    first (suc n) h is rest = let r = rest n x h in (suc r.0, r.1, r.2)

pub same_at : {X : Type 0} (xs : List X) (i j : ℕ) (x y : X) → slice_get xs i ≡ Some x → slice_get xs j ≡ Some y → i ≡ j → x ≡ y
same_at xs i j x y e f same = some (sym e ∙ ap (slice_get xs) same ∙ f)
  where
    some : Some x ≡ Some y → x ≡ y
    some h = cc

-- ---- counts
pub fails_or : (b : Bool) → (b ≡ true → ⊥) → b ≡ false
fails_or true h = absurd (h refl)
fails_or false h = refl

pub none_counted : {X : Type 0} (p : X → Bool) (xs : List X) → ((i : ℕ) (x : X) → slice_get xs i ≡ Some x → p x ≡ false) → count_by p xs ≡ 0
none_counted p [] f = refl
none_counted p (x ∷ xs) f = sum_by-cons (λ y. cond (p y) 1 0) x xs ∙ ap (λ b. cond b 1 0 + count_by p xs) (f 0 x refl) ∙ ap (λ n. 0 + n) (none_counted p xs (λ i y e. f (suc i) y e))

pub one_counted : {X : Type 0} (p : X → Bool) (xs : List X) → nat_lt 0 (count_by p xs) ≡ true → Found p xs
one_counted p [] e = absurd (false≢true e)
one_counted p (x ∷ xs) e = elim (cases_Bool (p x)) [
  | inl is ↦ record { place = 0; item = x; stands = refl; passes = is }
  | inr not ↦ further p x xs (one_counted p xs (less (count_by p xs) (count_by p (x ∷ xs)) (sum_by-cons (λ y. cond (p y) 1 0) x xs ∙ ap (λ b. cond b 1 0 + count_by p xs) not) e))
]
  where
    less : (m n : ℕ) → n ≡ 0 + m → nat_lt 0 n ≡ true → nat_lt 0 m ≡ true
    less m n is h = grind arith

pub record TwoFound {X : Type 0} (p : X → Bool) (xs : List X) : Type 0 where
  pub first : Found p xs
  pub second : Found p xs
  pub apart : first.place ≡ second.place → ⊥

pub two_counted : {X : Type 0} (p : X → Bool) (xs : List X) → nat_lt 1 (count_by p xs) ≡ true → TwoFound p xs
two_counted p [] e = absurd (false≢true e)
two_counted p (x ∷ xs) e = elim (cases_Bool (p x)) [
  | inl is ↦
      let rest = one_counted p xs (fewer (count_by p xs) (count_by p (x ∷ xs)) (sum_by-cons (λ y. cond (p y) 1 0) x xs ∙ ap (λ b. cond b 1 0 + count_by p xs) is) e) in
      record {
        first = record { place = 0; item = x; stands = refl; passes = is };
        second = further p x xs rest;
        apart = λ h. zero_suc rest.place h;
      }
  | inr not ↦
      let rest = two_counted p xs (as_many (count_by p xs) (count_by p (x ∷ xs)) (sum_by-cons (λ y. cond (p y) 1 0) x xs ∙ ap (λ b. cond b 1 0 + count_by p xs) not) e) in
      record { first = further p x xs rest.first; second = further p x xs rest.second; apart = λ h. rest.apart (omega (arith, h)) }
]
  where
    fewer : (m n : ℕ) → n ≡ 1 + m → nat_lt 1 n ≡ true → nat_lt 0 m ≡ true
    fewer m n is h = grind arith

    as_many : (m n : ℕ) → n ≡ 0 + m → nat_lt 1 n ≡ true → nat_lt 1 m ≡ true
    as_many m n is h = grind arith

    zero_suc : (n : ℕ) → 0 ≡ suc n → ⊥
    zero_suc n h = omega (arith, h)

-- ---- what operations write
later_first : (a b : Option ℕ) (w : ℕ) → later a b ≡ Some w → (b ≡ Some w) ⊎ ((b ≡ None) × (a ≡ Some w))
later_first a None w e = inr (refl, e)
later_first a (Some x) w e = inl e

pub last_writes : (k : List ℕ) (w : ℕ) (ops : List Op) → last_write k ops ≡ Some w → writes_as k w ops ≡ true
last_writes k w [] e = cc
last_writes k w (Read key v ∷ ops) e = last_writes k w ops e
last_writes k w (Write key v ∷ ops) e = elim (later_first (cond (bytes_eq k key) (Some v) None) (last_write k ops) w e) [
  | inl behind ↦ ap (λ b. (bytes_eq k key && eqb w v) || b) (last_writes k w ops behind) ∙ or_true (bytes_eq k key && eqb w v)
  | inr here ↦ ap (λ b. b || writes_as k w ops) (this (bytes_eq k key) here.1)
]
  where
    or_true : (b : Bool) → (b || true) ≡ true
    or_true true = refl
    or_true false = refl

    this : (b : Bool) → cond b (Some v) None ≡ Some w → (b && eqb w v) ≡ true
    this true h = let is : v ≡ w = cc in rw is (grind arith)
    this false h = cc

pub has_written : (k : List ℕ) (w : ℕ) (ops : List Op) → writes_as k w ops ≡ true → Has w (written ops)
has_written k w [] e = absurd (false≢true e)
has_written k w (Read key v ∷ ops) e = has_written k w ops e
has_written k w (Write key v ∷ ops) e = elim (cases_Bool (bytes_eq k key && eqb w v)) [
  | inl is ↦ inl (sym (eqb-true w v (and_parts (bytes_eq k key) (eqb w v) is).1))
  | inr not ↦ inr (has_written k w ops (ap (λ b. b || writes_as k w ops) (sym not) ∙ e))
]

abbrev pub txn_ops : Transaction → List Op
txn_ops t = t.ops

pub has_in_all : (ts : List Transaction) (i : ℕ) (t : Transaction) (w : ℕ) → slice_get ts i ≡ Some t → Has w (written t.ops) → Has w (written (flat_map txn_ops ts))
has_in_all [] i t w e h = cc
has_in_all (u ∷ ts) zero t w e h =
    let same : u ≡ t = cc in
    subst (Has w) (sym (written-append u.ops (flat_map txn_ops ts))) (Has-append_front w (written u.ops) (written (flat_map txn_ops ts)) (subst (λ (x : Transaction). Has w (written x.ops)) (sym same) h))
has_in_all (u ∷ ts) (suc i) t w e h =
    subst (Has w) (sym (written-append u.ops (flat_map txn_ops ts))) (Has-append_back w (written u.ops) (written (flat_map txn_ops ts)) (has_in_all ts i t w e h))
