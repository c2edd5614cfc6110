-- The two parts of a transaction without some of its operations.
use Rattle.point_laws.proofs.Prelude.{◌≡◌, ℕ, Bool, true, false, List, [], ◌∷◌, refl, sym, ap, ◌∙◌, subst, inl, inr, arith, Contains, bytes_eq, cases_Bool, false≢true, bytes_eq-Decides, behind, Op, Read, Write, Apart, written, Map, set}
use Rattle.point_laws.proofs.Prelude.{Replays, Has-written, first_or_behind, done, left, kept, IsSublist, was_in, KeepsSources, is_in, snapshot_reads_behind, snapshot_reads, rest_behind, rest}
use Rattle.point_laws.proofs.Parts.{turned}

-- ---- one operation further
sources_kept : (o : Op) (ops less : List Op) → Apart (written (o ∷ ops)) → KeepsSources (o ∷ ops) (o ∷ less) → KeepsSources ops less
sources_kept o ops less apart h key wid c d = elim (first_or_behind o less (Write key wid) (h key wid (behind o less (Read key wid) c) (behind o ops (Write key wid) d))) [
  | inl same ↦ absurd ((subst (λ p. Apart (written (p ∷ ops))) same apart).0 (Has-written ops key wid d))
  | inr b ↦ b
]

sources_left : (o : Op) (ops less : List Op) → KeepsSources (o ∷ ops) less → KeepsSources ops less
sources_left o ops less h key wid c d = h key wid c (behind o ops (Write key wid) d)

-- ---- keys written before, by the whole and by what is left
-- A key that what is left wrote, the whole wrote. And one that the whole wrote, what is left wrote, where it reads what the map has.
record Tied (whole fewer : List (List ℕ)) (less : List Op) (m : Map) : Type 0 where
  pub had : (key : List ℕ) → is_in fewer key ≡ true → is_in whole key ≡ true
  pub own : (key : List ℕ) → is_in whole key ≡ true → Contains less (Read key (m key)) → is_in fewer key ≡ true

tied_behind : (whole fewer : List (List ℕ)) (o : Op) (less : List Op) (m : Map) → Tied whole fewer (o ∷ less) m → Tied whole fewer less m
tied_behind whole fewer o less m t = record { had = t.had; own = λ key e c. t.own key e (behind o less (Read key (m key)) c) }

not_turned : (a b : List ℕ) → bytes_eq a b ≡ false → bytes_eq b a ≡ false
not_turned a b e = elim (cases_Bool (bytes_eq b a)) [
  | inl t ↦ absurd (false≢true (sym e ∙ turned b a t))
  | inr f ↦ f
]

-- behind a write that stays
tied_kept : (whole fewer : List (List ℕ)) (k : List ℕ) (w : ℕ) (less : List Op) (m : Map) → Tied whole fewer less m → Tied (k ∷ whole) (k ∷ fewer) less (set m k w)
tied_kept whole fewer k w less m t = record { had = had; own = own }
  where
    had : (key : List ℕ) → is_in (k ∷ fewer) key ≡ true → is_in (k ∷ whole) key ≡ true
    had key e = elim (cases_Bool (bytes_eq key k)) [
      | inl same ↦ rw same refl
      | inr other ↦ let f : is_in fewer key ≡ true = rw other at e in rw other (t.had key f)
    ]

    own : (key : List ℕ) → is_in (k ∷ whole) key ≡ true → Contains less (Read key (set m k w key)) → is_in (k ∷ fewer) key ≡ true
    own key e c = elim (cases_Bool (bytes_eq key k)) [
      | inl same ↦ rw same refl
      | inr other ↦
          let f : is_in whole key ≡ true = rw other at e in
          let back = not_turned key k other in
          let d : Contains less (Read key (m key)) = rw back at c in
          rw other (t.own key f d)
    ]

-- behind one that is left out: nothing that is left reads it
tied_left : (whole fewer : List (List ℕ)) (k : List ℕ) (w : ℕ) (less : List Op) (m : Map) → (Contains less (Read k w) → ⊥) → Tied whole fewer less m → Tied (k ∷ whole) fewer less (set m k w)
tied_left whole fewer k w less m none t = record { had = had; own = own }
  where
    had : (key : List ℕ) → is_in fewer key ≡ true → is_in (k ∷ whole) key ≡ true
    had key e = elim (cases_Bool (bytes_eq key k)) [
      | inl same ↦ rw same refl
      | inr other ↦ rw other (t.had key e)
    ]

    own : (key : List ℕ) → is_in (k ∷ whole) key ≡ true → Contains less (Read key (set m k w key)) → is_in fewer key ≡ true
    own key e c = elim (cases_Bool (bytes_eq k key)) [
      | inl same ↦
          let d : Contains less (Read key w) = rw same at c in
          absurd (none (subst (λ l. Contains less (Read l w)) (sym ((bytes_eq-Decides k key).0 same)) d))
      | inr other ↦
          let back = not_turned k key other in
          let f : is_in whole key ≡ true = rw back at e in
          let d : Contains less (Read key (m key)) = rw other at c in
          t.own key f d
    ]

-- ---- where the rest is replayed, the parts of what is left are the parts without what is left out
abbrev Halves : List Op → List Op → Type 0
Halves ops less = (whole fewer : List (List ℕ)) (m : Map) → Apart (written ops) → KeepsSources ops less → Tied whole fewer less m → Replays m (rest_behind whole ops)
    → IsSublist (snapshot_reads_behind whole ops) (snapshot_reads_behind fewer less) × IsSublist (rest_behind whole ops) (rest_behind fewer less)

halves_kept : (o : Op) (ops less : List Op) → Halves ops less → Halves (o ∷ ops) (o ∷ less)
halves_kept (Read key wid) ops less ih whole fewer m apart sources t r = elim (cases_Bool (is_in whole key)) [
  | inl e ↦
      let met : (m key ≡ wid) × Replays m (rest_behind whole ops) = rw e at r in
      let own = t.own key e (0, omega arith, ap (Read key) (sym met.0)) in
      let later = ih whole fewer m apart (sources_kept (Read key wid) ops less apart sources) (tied_behind whole fewer (Read key wid) less m t) met.1 in
      rw (e, own) (later.0, kept (Read key wid) (Read key wid) (rest_behind whole ops) (rest_behind fewer less) refl later.1)
  | inr e ↦
      let met : Replays m (rest_behind whole ops) = rw e at r in
      let new = none (is_in fewer key) (t.had key) e in
      let later = ih whole fewer m apart (sources_kept (Read key wid) ops less apart sources) (tied_behind whole fewer (Read key wid) less m t) met in
      rw (e, new) (kept (Read key wid) (Read key wid) (snapshot_reads_behind whole ops) (snapshot_reads_behind fewer less) refl later.0, later.1)
]
  where
    none : (b : Bool) → (b ≡ true → is_in whole key ≡ true) → is_in whole key ≡ false → b ≡ false
    none true f e = absurd (false≢true (sym e ∙ f refl))
    none false f e = refl
halves_kept (Write key wid) ops less ih whole fewer m apart sources t r =
    let later = ih (key ∷ whole) (key ∷ fewer) (set m key wid) apart.1 (sources_kept (Write key wid) ops less apart sources) (tied_kept whole fewer key wid less m (tied_behind whole fewer (Write key wid) less m t)) r in
    (later.0, kept (Write key wid) (Write key wid) (rest_behind (key ∷ whole) ops) (rest_behind (key ∷ fewer) less) refl later.1)

halves_left : (o : Op) (ops less : List Op) → IsSublist ops less → Halves ops less → Halves (o ∷ ops) less
halves_left (Read key wid) ops less p ih whole fewer m apart sources t r = elim (cases_Bool (is_in whole key)) [
  | inl e ↦
      let met : (m key ≡ wid) × Replays m (rest_behind whole ops) = rw e at r in
      let later = ih whole fewer m apart (sources_left (Read key wid) ops less sources) t met.1 in
      rw e (later.0, left (Read key wid) (rest_behind whole ops) (rest_behind fewer less) later.1)
  | inr e ↦
      let met : Replays m (rest_behind whole ops) = rw e at r in
      let later = ih whole fewer m apart (sources_left (Read key wid) ops less sources) t met in
      rw e (left (Read key wid) (snapshot_reads_behind whole ops) (snapshot_reads_behind fewer less) later.0, later.1)
]
halves_left (Write key wid) ops less p ih whole fewer m apart sources t r =
    let later = ih (key ∷ whole) fewer (set m key wid) apart.1 (sources_left (Write key wid) ops less sources) (tied_left whole fewer key wid less m none t) r in
    (later.0, left (Write key wid) (rest_behind (key ∷ whole) ops) (rest_behind fewer less) later.1)
  where
    none : Contains less (Read key wid) → ⊥
    none c = apart.0 (Has-written ops key wid (was_in p (Write key wid) (sources key wid c (0, omega arith, refl))))

halves : {ops less : List Op} → IsSublist ops less → Halves ops less
halves done = λ whole fewer m apart sources t r. (done, done)
halves (left o ops less p) = halves_left o ops less p (halves p)
halves (kept o q ops less e p) = subst (λ u. Halves (o ∷ ops) (u ∷ less)) e (halves_kept o ops less (halves p))

pub fewer_in_halves : {ops less : List Op} → IsSublist ops less → Apart (written ops) → KeepsSources ops less → (m : Map) → Replays m (rest ops) → IsSublist (snapshot_reads ops) (snapshot_reads less) × IsSublist (rest ops) (rest less)
fewer_in_halves {ops} {less} p apart sources m r = halves p [] [] m apart sources (record { had = λ key e. e; own = λ key e c. e }) r
