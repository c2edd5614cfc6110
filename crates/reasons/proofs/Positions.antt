-- The first item of a list that passes.
use Rattle.reasons.proofs.Prelude.{◌≡◌, ℕ, zero, suc, ◌≤◌, Bool, true, not, List, [], ◌∷◌, Option, None, Some, refl, sym, ap, ◌∙◌, inl, inr, arith, get_or, take, slice_get, position, is_some, AllByRecursion, false≢true, cases_lt}
use Rattle.reasons.proofs.Prelude.{true_from_ne_false, prefix_len_passes, slice_get_within, slice_get-get_or, get_or_from_slice_get, none_of, Event}
use Rattle.std.proofs.lemmas.List.Quantifiers.{position-Some}
use Rattle.session_log.proofs.Lines.{position_none}
use Rattle.serializability.specs.declared.event.Event.TheVariants as event

-- what stands at the place of the first that passes
pub record FirstAt (p : Event → Bool) (xs : List Event) (i : ℕ) : Type 0 where
  pub item : Event
  pub stands : slice_get xs i ≡ Some item
  pub passes : p item ≡ true
  pub first : (k : ℕ) (y : Event) → slice_get xs k ≡ Some y → p y ≡ true → i ≤ k

pub first_at : (p : Event → Bool) (xs : List Event) (i : ℕ) → Some i ≡ position p xs → FirstAt p xs i
first_at p xs i e =
    let d = event.Read 0 0 in
    let f = position-Some p xs i d (sym e) in
    record {
      item = get_or xs i d;
      stands = slice_get-get_or xs i d f.0;
      passes = f.1;
      first = λ k y at t. elim (cases_lt k i) [
        | inl lt ↦ absurd (false≢true (sym (f.2 k lt) ∙ ap p (get_or_from_slice_get xs k y d at) ∙ t))
        | inr le ↦ le
      ];
    }

pub none_passes : {X : Type 0} (p : X → Bool) (xs : List X) → None ≡ position p xs → (k : ℕ) (y : X) → slice_get xs k ≡ Some y → p y ≡ true → ⊥
none_passes p xs e k y at t =
    let fails : not (p (get_or xs k y)) ≡ true = prefix_len_passes (λ x. not (p x)) xs k y (omega (arith, position_none p xs e, slice_get_within xs k y at)) in
    false≢true (sym (ap (λ x. not (p x)) (get_or_from_slice_get xs k y y at) ∙ ap not t) ∙ fails)

pub some_passes : {X : Type 0} (p : X → Bool) (xs : List X) (k : ℕ) (y : X) → slice_get xs k ≡ Some y → p y ≡ true → is_some (position p xs) ≡ true
some_passes p xs k y at t = true_from_ne_false (is_some (position p xs)) (λ none. none_passes p xs (sym (none_of (position p xs) none)) k y at t)

pub never_passes : (p : Event → Bool) (xs : List Event) → ((k : ℕ) (y : Event) → slice_get xs k ≡ Some y → p y ≡ true → ⊥) → position p xs ≡ None
never_passes p xs none = go (position p xs) refl
  where
    go : (o : Option ℕ) → position p xs ≡ o → o ≡ None
    go None e = refl
    go (Some i) e = let f = first_at p xs i (sym e) in absurd (none i f.item f.stands f.passes)

-- ---- fewer of the first ones
pub take_fewer : {X : Type 0} (P : X → Type 0) (i k : ℕ) (xs : List X) → i ≤ k → AllByRecursion P (take k xs) → AllByRecursion P (take i xs)
take_fewer P zero k xs le h = tt
take_fewer P (suc i) zero xs le h = absurd (omega (arith, le))
take_fewer P (suc i) (suc k) [] le h = tt
take_fewer P (suc i) (suc k) (x ∷ xs) le h = (h.0, take_fewer P i k xs (omega (arith, le)) h.1)
