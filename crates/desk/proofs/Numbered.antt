-- Numbers of seats.
use Rattle.desk.proofs.Prelude.{◌≡◌, ◌<◌, ◌≤◌, ⊎_elim, ℕ, zero, suc, ◌+◌, ◌-◌, ◌==◌, Bool, true, false, ◌||◌, List, [], ◌∷◌, ◌++◌, Option, Some, None, Result, Ok, Err, length, refl, sym, ap, ◌∙◌, arith, slice_get, slice_index_or, IfErr}
use Rattle.desk.proofs.Prelude.{eq-eqb, or_right, slice_get_within, get_or_from_slice_get, has_seat, AreFresh, AreNumbered, HasSeatsTo, IsLeastMissing, IsSeat, SeatView}
use Rattle.std.specs.Result.{IsOk}
use Rattle.desk.proofs.Seating.{snoc_get}

module _ {X : Type 0} (number : X → ℕ) where
  pub numbered_push : (xs now : List X) (x : X) → now ≡ xs ++ x ∷ [] → AreNumbered number xs → number x ≡ length xs + 1 → AreNumbered number now
  numbered_push xs now x is h n = λ k y e. ⊎_elim
      (λ (p : (k ≡ length xs) × (y ≡ x)). ap number p.1 ∙ n ∙ ap (λ m. m + 1) (sym p.0))
      (λ (p : slice_get xs k ≡ Some y). h k y p)
      (snoc_get xs k x y (ap (λ l. slice_get l k) (sym is) ∙ e))

get_none : {X : Type 0} (xs : List X) (k : ℕ) → slice_get xs k ≡ None → k < length xs → ⊥
get_none [] k e less = omega arith
get_none (y ∷ ys) zero e less = let is : Some y ≡ None = e in cc
get_none (y ∷ ys) (suc k) e less = get_none ys k e (omega arith)

module _ {X Y : Type 0} (f : X → ℕ) (g : Y → ℕ) where
  -- others that have the same numbers, place by place
  pub numbered_as : (xs : List X) (ys : List Y) → AreNumbered f xs → length ys ≡ length xs → ((k : ℕ) (y : Y) (x : X) → k < length xs → g (slice_index_or ys k y) ≡ f (slice_index_or xs k x)) → AreNumbered g ys
  numbered_as xs ys h len same = λ k y at. by k y at (slice_get xs k) refl
    where
      by : (k : ℕ) (y : Y) → slice_get ys k ≡ Some y → (o : Option X) → slice_get xs k ≡ o → g y ≡ k + 1
      by k y at None e = let less = slice_get_within ys k y at in absurd (get_none xs k e (omega arith))
      by k y at (Some x) e =
          ap g (sym (get_or_from_slice_get ys k y y at)) ∙ same k y x (slice_get_within xs k x e) ∙ ap f (get_or_from_slice_get xs k x x e) ∙ h k x e

module _ {E R : Type 0} where
  pub fresh_number : (seats : List (SeatView E R)) (k : ℕ) (x : SeatView E R) → AreFresh seats → slice_get seats k ≡ Some x → x.number ≡ k + 1
  fresh_number seats k x h e = (h k x e).0

  some_is : (y x : SeatView E R) → Some y ≡ Some x → y ≡ x
  some_is y x e = cc

  any_at : (seats : List (SeatView E R)) (k n : ℕ) (x : SeatView E R) → slice_get seats k ≡ Some x → x.number ≡ n → has_seat n seats ≡ true
  any_at [] k n x e t = absurd (cc)
  any_at (y ∷ ys) zero n x e t =
      let same : (y.number == n) ≡ true = eq-eqb y.number n (ap (λ (p : SeatView E R). p.number) (some_is y x e) ∙ t) in
      ap (λ b. b || has_seat n ys) same
  any_at (y ∷ ys) (suc k) n x e t = or_right (y.number == n) (has_seat n ys) (any_at ys k n x e t)

  seat_at : (seats : List (SeatView E R)) (n : ℕ) → AreNumbered (λ x. x.number) seats → (o : Option (SeatView E R)) → slice_get seats (n - 1) ≡ o → 0 < n → n ≤ length seats → has_seat n seats ≡ true
  seat_at seats n h None e low high = absurd (get_none seats (n - 1) e (omega arith))
  seat_at seats n h (Some x) e low high = any_at seats (n - 1) n x e (let is = h (n - 1) x e in omega arith)

  pub has_all : (seats : List (SeatView E R)) (n : ℕ) → AreNumbered (λ x. x.number) seats → n ≤ length seats → HasSeatsTo n seats
  has_all seats n h all = λ k low high. seat_at seats k h (slice_get seats (k - 1)) refl low (omega arith)

-- a desk whose seats have all left is closed
pub closes : {X Y E R : Type 0} (names : List ℕ) (seats : List (SeatView E R)) (missing : Y → ℕ) (r : Result X Y) → AreNumbered (λ x. x.number) seats → length names ≤ length seats → IfErr r (λ e. IsSeat names (missing e)) → IfErr r (λ e. IsLeastMissing seats (missing e)) → IsOk r
closes names seats missing (Ok x) h all a b = refl
closes names seats missing (Err e) h all a b = absurd (two (has_seat (missing e) seats) b.0 (has_all seats (length names) h all (missing e) a.0 a.1))
  where
    two : (t : Bool) → t ≡ false → t ≡ true → ⊥
    two t p q = cc
