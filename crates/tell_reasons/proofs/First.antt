-- The first operation that passes.
use Rattle.tell_reasons.proofs.Prelude.{◌≡◌, ℕ, zero, suc, ◌+◌, ◌<◌, Bool, true, false, List, [], ◌∷◌, ◌++◌, length, map, take, get_or, slice_get, Option, None, Some, MatchOption, refl, sym, ap, ◌∙◌, subst, arith, inl, inr, position}
use Rattle.tell_reasons.proofs.Prelude.{flat_map, zip, AllByRecursion, option_map, option_or, cases_Bool, take_all, position-Some, slice_get-get_or, ClientSession, Transaction, Op, Read, TxnRow, Table, Fits, OpOf, first_given, first_of}
use Rattle.tell_reasons.proofs.Prelude.{first_in, first_op, IsFirst}
use Rattle.std.proofs.lemmas.List.Concat.{flat_map-append}
use Rattle.serializability.proofs.Places.{each_from_append}
use Rattle.log_definitions.specs.Unknown.{txns_in, ops_in}
use Rattle.reasons.proofs.Positions.{none_passes}

-- ---- of pairs, the first that gives something; P holds of the operations of those before it
record At {X Y Z : Type 0} (P : Op → Type 0) (ops : X → List Op) (Gives : X → Y → Z → Type 0) (xs : List X) (ys : List Y) (z : Z) : Type 0 where
  pub i : ℕ
  pub x : X
  pub y : Y
  pub left : slice_get xs i ≡ Some x
  pub right : slice_get ys i ≡ Some y
  pub gives : Gives x y z
  pub before : AllByRecursion P (flat_map ops (take i xs))

module _ {X Y Z K : Type 0} (P : Op → Type 0) (ops : X → List Op) (g : Y → K) (h : X → K) (f : X × Y → Option Z) (Gives : X → Y → Z → Type 0)
    (each : (x : X) (y : Y) → g y ≡ h x → MatchOption (f (x, y)) (AllByRecursion P (ops x)) (Gives x y)) where
  sought : (xs : List X) (ys : List Y) → map g ys ≡ map h xs → MatchOption (first_given f (zip xs ys)) (AllByRecursion P (flat_map ops xs)) (At P ops Gives xs ys)
  sought [] ys fits = tt
  sought (x ∷ xs) [] fits = cc
  sought (x ∷ xs) (y ∷ ys) fits = go (f (x, y)) (each x y (cc)) (first_given f (zip xs ys)) (sought xs ys (cc))
    where
      go : (o : Option Z) → MatchOption o (AllByRecursion P (ops x)) (Gives x y) → (q : Option Z) → MatchOption q (AllByRecursion P (flat_map ops xs)) (At P ops Gives xs ys)
          → MatchOption (option_or o q) (AllByRecursion P (flat_map ops (x ∷ xs))) (At P ops Gives (x ∷ xs) (y ∷ ys))
      go None here None later = each_from_append P (ops x) (flat_map ops xs) here later
      go None here (Some z) r = record { i = suc r.i; x = r.x; y = r.y; left = r.left; right = r.right; gives = r.gives; before = each_from_append P (ops x) (flat_map ops (take r.i xs)) here r.before }
      go (Some z) here q later = record { i = zero; x = x; y = y; left = refl; right = refl; gives = here; before = tt }

-- ---- operations, transactions, sessions
record InTxn (passes : Op → Bool) (session : ℕ) (t : Transaction) (row : TxnRow) (o : OpOf) : Type 0 where
  pub is : record { session = session; txn = t; row = row; i = o.i } ≡ o
  pub lines : length row.ops ≡ length t.ops
  pub op : Op
  pub at : slice_get t.ops o.i ≡ Some op
  pub holds : passes op ≡ true
  pub before : AllByRecursion (λ op. passes op ≡ false) (take o.i t.ops)

by_session : (ss : List ClientSession) → flat_map (λ s. flat_map (λ t. t.ops) s.txns) ss ≡ ops_in ss
by_session [] = refl
by_session (s ∷ ss) = ap (λ ops. flat_map (λ t. t.ops) s.txns ++ ops) (by_session ss) ∙ sym (flat_map-append (λ t. t.ops) s.txns (txns_in ss))

module _ (passes : Op → Bool) where
  abbrev Fails : Op → Type 0
  Fails op = passes op ≡ false

  in_front : (ops : List Op) (i : ℕ) (d : Op) → ((k : ℕ) → k < i → passes (get_or ops k d) ≡ false) → AllByRecursion Fails (take i ops)
  in_front ops zero d h = tt
  in_front [] (suc i) d h = tt
  in_front (op ∷ ops) (suc i) d h = (h zero (omega arith), in_front ops i d (λ k lt. h (suc k) (omega arith)))

  in_txn : (session : ℕ) (t : Transaction) (row : TxnRow) → length row.ops ≡ length t.ops → MatchOption (first_of passes session (t, row)) (AllByRecursion Fails t.ops) (InTxn passes session t row)
  in_txn session t row fits = go (position passes t.ops) refl
    where
      d : Op
      d = Read [] 0

      go : (q : Option ℕ) → q ≡ position passes t.ops → MatchOption (option_map (λ i. record { session = session; txn = t; row = row; i = i }) q) (AllByRecursion Fails t.ops) (InTxn passes session t row)
      go None e = subst (AllByRecursion Fails) (take_all (length t.ops) t.ops (omega arith)) (in_front t.ops (length t.ops) d (λ k lt. elim (cases_Bool (passes (get_or t.ops k d))) [
        | inl does ↦ absurd (none_passes passes t.ops e k (get_or t.ops k d) (slice_get-get_or t.ops k d lt) does)
        | inr fails ↦ fails
      ]))
      go (Some i) e =
          let f = position-Some passes t.ops i d (sym e) in
          record { is = refl; lines = fits; op = get_or t.ops i d; at = slice_get-get_or t.ops i d f.0; holds = f.1; before = in_front t.ops i d f.2 }

  abbrev Inner : ClientSession → List TxnRow → OpOf → Type 0
  Inner s rows o = At Fails (λ t. t.ops) (InTxn passes s.number) s.txns rows o

  in_session : (s : ClientSession) (rows : List TxnRow) → map (λ row. length row.ops) rows ≡ map (λ t. length t.ops) s.txns
      → MatchOption (first_in passes s rows) (AllByRecursion Fails (flat_map (λ t. t.ops) s.txns)) (Inner s rows)
  in_session s rows = sought Fails (λ t. t.ops) (λ row. length row.ops) (λ t. length t.ops) (first_of passes s.number) (InTxn passes s.number) (in_txn s.number) s.txns rows

  pub first_found : (ss : List ClientSession) (table : Table) → Fits ss table → MatchOption (first_op passes ss table) (AllByRecursion Fails (ops_in ss)) (IsFirst passes ss table)
  first_found ss table fits =
      go (first_op passes ss table)
      (sought Fails (λ s. flat_map (λ t. t.ops) s.txns) (λ rows. map (λ row. length row.ops) rows) (λ s. map (λ t. length t.ops) s.txns) (λ p. first_in passes p.0 p.1) Inner in_session ss table fits)
    where
      go : (o : Option OpOf) → MatchOption o (AllByRecursion Fails (flat_map (λ s. flat_map (λ t. t.ops) s.txns) ss)) (At Fails (λ s. flat_map (λ t. t.ops) s.txns) Inner ss table)
          → MatchOption o (AllByRecursion Fails (ops_in ss)) (IsFirst passes ss table)
      go None none = subst (AllByRecursion Fails) (by_session ss) none
      go (Some o) s =
          let t = s.gives in
          let w = t.gives in
          subst (IsFirst passes ss table) w.is (record {
            place = t.i + 1;
            stands = record { at = s.i; index = t.i; of = s.x; rows = s.y; sessions = s.left; tables = s.right; number = refl; stands = refl; txn = t.left; has = t.right; lines = w.lines };
            op = w.op;
            is = w.at;
            holds = w.holds;
            sessions = subst (AllByRecursion Fails) (by_session (take s.i ss)) s.before;
            txns = t.before;
            ops = w.before;
          })
