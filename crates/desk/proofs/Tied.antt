-- One call of one seat, in the rows under the lock.
use Rattle.desk.proofs.Prelude.{◌≡◌, ◌≢◌, ◌⊎◌, ℕ, zero, suc, ◌+◌, ◌<◌, ◌≤◌, List, [], ◌∷◌, ◌++◌, length, Bool, true, false, Some, get_or, refl, sym, ap, ◌∙◌, subst, inl, inr, ⊎_elim, arith, slice_get, slice_set, All, OnFalse, length-set}
use Rattle.desk.proofs.Prelude.{set-get_or, All-push, slice_get_read, slice_get_within, same_Some, Entry, SeatRow, entry, part_of, AreTied, place_of, staying, IsSeat}
use Rattle.desk.proofs.Legal.{part_of-mine, part_of-other}

-- what stands in a list after a write
pub get_set : {A : Type 0} (xs : List A) (k j : ℕ) (y x : A) → slice_get (slice_set xs k y) j ≡ Some x → ((j ≡ k) × (x ≡ y)) ⊎ ((j ≢ k) × (slice_get xs j ≡ Some x))
get_set [] k j y x e = absurd (cc)
get_set (z ∷ zs) zero zero y x e = inl (refl, sym (same_Some y x e))
get_set (z ∷ zs) zero (suc j) y x e = inr ((λ p. absurd (omega arith)), e)
get_set (z ∷ zs) (suc k) zero y x e = inr ((λ p. absurd (omega arith)), e)
get_set (z ∷ zs) (suc k) (suc j) y x e =
    ⊎_elim (λ (p : (j ≡ k) × (x ≡ y)). inl (ap suc p.0, p.1)) (λ (p : (j ≢ k) × (slice_get zs j ≡ Some x)). inr ((λ q. p.0 (omega arith)), p.1)) (get_set zs k j y x e)

module _ {E R : Type 0} where
  -- the row of a seat
  pub row_at : (names : List ℕ) (rows : List (SeatRow E R)) (history : List (Entry E R)) (k n : ℕ) (d : SeatRow E R) → AreTied names rows history → slice_get names k ≡ Some n → d ≡ get_or rows k d → slice_get rows k ≡ Some d
  row_at names rows history k n d tied named e = slice_get_read rows (length rows) k d refl (let p = slice_get_within names k n named in let q = tied.0 in omega arith) e

  -- each row has its seat's part of the longer history
  pub tied_write : (names : List ℕ) (rows : List (SeatRow E R)) (history now : List (Entry E R)) (k seat : ℕ) (x y : SeatRow E R) (event : E) (reply : R)
      → AreTied names rows history → slice_get rows k ≡ Some x → seat ≡ k + 1 → now ≡ history ++ entry seat event reply ∷ []
      → y.account.name ≡ x.account.name → y.account.calls ≡ x.account.calls ++ (event, reply) ∷ []
      → AreTied names (slice_set rows k y) now
  tied_write names rows history now k seat x y event reply tied at here is name calls = (length-set rows k y ∙ tied.0, each, subst (All (λ (z : Entry E R). IsSeat names z.seat)) (sym is) (All-push (λ (z : Entry E R). IsSeat names z.seat) history (entry seat event reply) tied.2 (omega arith, let p = slice_get_within rows k x at in let q = tied.0 in omega arith)))
    where
      each : (j : ℕ) (z : SeatRow E R) → slice_get (slice_set rows k y) j ≡ Some z → (slice_get names j ≡ Some z.account.name) × (z.account.calls ≡ part_of (j + 1) now)
      each j z e = ⊎_elim
          (λ (p : (j ≡ k) × (z ≡ y)). (
            ap (slice_get names) p.0 ∙ (tied.1 k x at).0 ∙ ap Some (sym name ∙ ap (λ (w : SeatRow E R). w.account.name) (sym p.1)),
            ap (λ (w : SeatRow E R). w.account.calls) p.1 ∙ calls ∙ ap (λ l. l ++ (event, reply) ∷ []) ((tied.1 k x at).1 ∙ ap (λ n. part_of n history) (sym here))
                ∙ sym (part_of-mine seat history event reply) ∙ (λ i. part_of ((here ∙ ap (λ n. n + 1) (sym p.0)) i) (sym is i)),
          ))
          (λ (p : (j ≢ k) × (slice_get rows j ≡ Some z)). (
            (tied.1 j z p.1).0,
            (tied.1 j z p.1).1 ∙ sym (part_of-other (j + 1) seat history event reply (λ q. p.0 (omega arith))) ∙ ap (part_of (j + 1)) (sym is),
          ))
          (get_set rows k j y z e)

  -- how many seats stay, after a write
  pub staying_set : (rows : List (SeatRow E R)) (k : ℕ) (x y : SeatRow E R) → slice_get rows k ≡ Some x → staying (slice_set rows k y) + place_of x.left ≡ staying rows + place_of y.left
  staying_set [] k x y e = absurd (cc)
  staying_set (z ∷ zs) zero x y e = let p : place_of z.left ≡ place_of x.left = ap (λ (w : SeatRow E R). place_of w.left) (same_Some z x e) in omega arith
  staying_set (z ∷ zs) (suc k) x y e = let p = staying_set zs k x y e in omega arith

  -- there is room for the call of a seat that stays
  pub room_for : (rows : List (SeatRow E R)) (k : ℕ) (x y : SeatRow E R) (len cap : ℕ) (last : Bool) → slice_get rows k ≡ Some x → x.left ≡ false → y.left ≡ last → len + staying rows ≤ cap → OnFalse last (len + staying rows < cap)
      → (len < cap) × (len + 1 + staying (slice_set rows k y) ≤ cap)
  room_for rows k x y len cap last at here left room more = by last left more
    where
      by : (b : Bool) → y.left ≡ b → OnFalse b (len + staying rows < cap) → (len < cap) × (len + 1 + staying (slice_set rows k y) ≤ cap)
      by true l m = let p = staying_set rows k x y at in let h : place_of x.left ≡ 1 = ap place_of here in let q : place_of y.left ≡ 0 = ap place_of l in (omega arith, omega arith)
      by false l m = let p = staying_set rows k x y at in let h : place_of x.left ≡ 1 = ap place_of here in let q : place_of y.left ≡ 1 = ap place_of l in let n : len + staying rows < cap = m in (omega arith, omega arith)

  pub staying_le : (rows : List (SeatRow E R)) → staying rows ≤ length rows
  staying_le [] = omega arith
  staying_le (x ∷ xs) = let p = staying_le xs in let q = one x.left in omega arith
    where
      one : (b : Bool) → place_of b ≤ 1
      one true = omega arith
      one false = omega arith

  -- a row written back as it was
  pub same_again : (rows : List (SeatRow E R)) (k : ℕ) (d y : SeatRow E R) → d ≡ get_or rows k d → y ≡ d → slice_set rows k y ≡ rows
  same_again rows k d y e is = ap (slice_set rows k) (is ∙ e) ∙ set-get_or rows k d
