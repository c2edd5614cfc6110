-- Seats that are added one by one.
use Rattle.desk.proofs.Prelude.{◌≡◌, ◌⊎◌, ℕ, zero, suc, ◌+◌, List, [], ◌∷◌, ◌++◌, length, false, Some, refl, sym, ap, ◌∙◌, subst, inl, inr, ⊎_elim, arith, length-append, slice_get, SeatRow, AreSeated, names_of, AreFresh, SeatView}
use Rattle.desk.specs.declared.row.UnnamedSeat.{UnnamedSeat}

module _ {A : Type 0} where
  pub snoc_get : (xs : List A) (k : ℕ) (y x : A) → slice_get (xs ++ y ∷ []) k ≡ Some x → ((k ≡ length xs) × (x ≡ y)) ⊎ (slice_get xs k ≡ Some x)
  snoc_get [] zero y x e = let is : Some y ≡ Some x = e in inl (refl, cc)
  snoc_get [] (suc k) y x e = absurd (cc)
  snoc_get (z ∷ zs) zero y x e = inr e
  snoc_get (z ∷ zs) (suc k) y x e = ⊎_elim (λ (p : (k ≡ length zs) × (x ≡ y)). inl (ap suc p.0, p.1)) (λ (p : slice_get zs k ≡ Some x). inr p) (snoc_get zs k y x e)

  pub get_front : (xs ys : List A) (k : ℕ) (x : A) → slice_get xs k ≡ Some x → slice_get (xs ++ ys) k ≡ Some x
  get_front [] ys k x e = absurd (cc)
  get_front (z ∷ zs) ys zero x e = e
  get_front (z ∷ zs) ys (suc k) x e = get_front zs ys k x e

  pub get_last : (xs : List A) (y : A) → slice_get (xs ++ y ∷ []) (length xs) ≡ Some y
  get_last [] y = refl
  get_last (z ∷ zs) y = get_last zs y

  pub get_middle : (xs : List A) (y : A) (ys : List A) → slice_get (xs ++ y ∷ ys) (length xs) ≡ Some y
  get_middle [] y ys = refl
  get_middle (z ∷ zs) y ys = get_middle zs y ys

module _ {E R : Type 0} where
  pub names_of-push : (xs : List (SeatRow E R)) (y : SeatRow E R) → names_of (xs ++ y ∷ []) ≡ names_of xs ++ y.account.name ∷ []
  names_of-push [] y = refl
  names_of-push (x ∷ xs) y = ap (λ l. x.account.name ∷ l) (names_of-push xs y)

  pub length-names_of : (xs : List (SeatRow E R)) → length (names_of xs) ≡ length xs
  length-names_of [] = refl
  length-names_of (x ∷ xs) = ap suc (length-names_of xs)

  pub name_at : (xs : List (SeatRow E R)) (k : ℕ) (x : SeatRow E R) → slice_get xs k ≡ Some x → slice_get (names_of xs) k ≡ Some x.account.name
  name_at [] k x e = absurd (cc)
  name_at (z ∷ zs) zero x e = let is : Some z ≡ Some x = e in let at : z ≡ x = cc in ap (λ (w : SeatRow E R). Some w.account.name) at
  name_at (z ∷ zs) (suc k) x e = name_at zs k x e

  pub seated_push : (rows more : List (SeatRow E R)) (chairs places : List (UnnamedSeat E R)) (y : SeatRow E R) (z : UnnamedSeat E R)
      → AreSeated rows chairs → more ≡ rows ++ y ∷ [] → places ≡ chairs ++ z ∷ [] → y.account.calls ≡ [] → z.number ≡ length rows + 1 → y.account.name ≡ z.receipt.name → z.receipt.left ≡ false → z.receipt.calls ≡ []
      → AreSeated more places
  seated_push rows more chairs places y z seated is are empty number name left none =
      subst (λ (p : List (SeatRow E R) × List (UnnamedSeat E R)). AreSeated p.0 p.1) (λ i. (sym is i, sym are i)) (omega (arith, seated.0, length-append rows (y ∷ []), length-append chairs (z ∷ [])), calls, named)
    where
      calls : (k : ℕ) (x : SeatRow E R) → slice_get (rows ++ y ∷ []) k ≡ Some x → x.account.calls ≡ []
      calls k x e = ⊎_elim (λ (p : (k ≡ length rows) × (x ≡ y)). ap (λ (w : SeatRow E R). w.account.calls) p.1 ∙ empty) (λ (p : slice_get rows k ≡ Some x). seated.1 k x p) (snoc_get rows k y x e)

      named : (k : ℕ) (x : UnnamedSeat E R) → slice_get (chairs ++ z ∷ []) k ≡ Some x → (x.number ≡ k + 1) × (slice_get (names_of (rows ++ y ∷ [])) k ≡ Some x.receipt.name) × (x.receipt.left ≡ false) × (x.receipt.calls ≡ [])
      named k x e = ⊎_elim
          (λ (p : (k ≡ length chairs) × (x ≡ z)).
          let at : k ≡ length rows = p.0 ∙ seated.0 in
          let last : slice_get (names_of (rows ++ y ∷ [])) k ≡ Some y.account.name = name_at (rows ++ y ∷ []) k y (ap (slice_get (rows ++ y ∷ [])) at ∙ get_last rows y) in (
            ap (λ (w : UnnamedSeat E R). w.number) p.1 ∙ number ∙ ap (λ n. n + 1) (sym at),
            last ∙ ap Some (name ∙ ap (λ (w : UnnamedSeat E R). w.receipt.name) (sym p.1)),
            ap (λ (w : UnnamedSeat E R). w.receipt.left) p.1 ∙ left,
            ap (λ (w : UnnamedSeat E R). w.receipt.calls) p.1 ∙ none,
          ))
          (λ (p : slice_get chairs k ≡ Some x).
          let old = seated.2 k x p in
          (old.0, ap (λ l. slice_get l k) (names_of-push rows y) ∙ get_front (names_of rows) (y.account.name ∷ []) k x.receipt.name old.1, old.2, old.3))
          (snoc_get chairs k z x e)

  pub fresh_push : (seats more : List (SeatView E R)) (y : SeatView E R) → AreFresh seats → more ≡ seats ++ y ∷ [] → y.number ≡ length seats + 1 → y.calls ≡ [] → AreFresh more
  fresh_push seats more y fresh is number none k x e =
      ⊎_elim
      (λ (p : (k ≡ length seats) × (x ≡ y)). (ap (λ (s : SeatView E R). s.number) p.1 ∙ number ∙ ap (λ n. n + 1) (sym p.0), ap (λ (s : SeatView E R). s.calls) p.1 ∙ none))
      (λ (p : slice_get seats k ≡ Some x). fresh k x p)
      (snoc_get seats k y x (ap (λ l. slice_get l k) (sym is) ∙ e))
