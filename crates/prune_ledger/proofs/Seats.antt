-- The numbers of seats that have left.
use Rattle.prune_ledger.proofs.Prelude.{◌≡◌, ℕ, suc, ◌+◌, ◌<◌, ◌≤◌, true, List, [], ◌∷◌, ◌++◌, length, get_or, sym, ap, ◌∙◌, subst, inl, inr, arith, eq-eqb, append_assoc, append-nil, ◌==◌, map, cases_eq, or_left, or_right}
use Rattle.desk.specs.Seats.{has_seat}
use Rattle.desk.specs.Views.{SeatView}

abbrev pub firsts : {A B : Type 0} → List (A × B) → List A
firsts xs = map (λ d. d.0) xs

pub moved_on : {A B : Type 0} (old new : List A) (x : A × B) (rest later : List (A × B)) (whole : List A) → new ≡ old ++ x.0 ∷ [] → rest ≡ x ∷ later → old ++ firsts rest ≡ whole → new ++ firsts later ≡ whole
moved_on old new x rest later whole n r i =
    ap (λ l. l ++ firsts later) n ∙ append_assoc old (x.0 ∷ []) (firsts later) ∙ ap (λ l. old ++ firsts l) (sym r) ∙ i

pub at_end : {A B : Type 0} (old : List A) (rest : List (A × B)) (whole : List A) → length rest ≡ 0 → old ++ firsts rest ≡ whole → old ≡ whole
at_end old [] whole e i = sym (append-nil old) ∙ i
at_end old (x ∷ rest) whole e i = absurd (omega (arith, e))

pub has_from : {E R D : Type 0} (done : List (SeatView E R × D)) (k m : ℕ) → ((i : ℕ) (d : SeatView E R × D) → i < length done → (get_or done i d).0.number ≡ k + i + 1) → k < m → m ≤ k + length done → has_seat m (firsts done) ≡ true
has_from [] k m f lo hi = absurd (omega (arith, lo, hi))
has_from (x ∷ xs) k m f lo hi = elim (cases_eq (k + 1) m) [
  | inl e ↦ (let n = f 0 x (omega arith) in let is : x.0.number ≡ m = omega (arith, n, e) in or_left (x.0.number == m) (has_seat m (firsts xs)) (eq-eqb x.0.number m is))
  | inr ne ↦ or_right (x.0.number == m) (has_seat m (firsts xs)) (has_from xs (k + 1) m (λ i d lt. (let n = f (suc i) d (omega (arith, lt)) in omega (arith, n))) (omega (arith, lo, ne)) (omega (arith, hi)))
]

pub has_all : {E R D : Type 0} (done : List (SeatView E R × D)) (lefts : List (SeatView E R)) (n m : ℕ) → lefts ≡ firsts done → length done ≡ n → ((i : ℕ) (d : SeatView E R × D) → i < n → (get_or done i d).0.number ≡ i + 1) → 0 < m → m ≤ n → has_seat m lefts ≡ true
has_all done lefts n m e len f lo hi =
    subst (λ l. has_seat m l ≡ true) (sym e)
    (has_from done 0 m (λ i d lt. (let p = f i d (omega (arith, len, lt)) in omega (arith, p))) lo (omega (arith, len, hi)))
