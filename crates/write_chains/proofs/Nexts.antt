-- The writer behind each node, writer by writer.
use Rattle.write_chains.proofs.Prelude.{◌≡◌, ◌≢◌, ◌⊎◌, ℕ, ◌+◌, ◌<◌, ◌≤◌, true, List, [], ◌∷◌, ◌++◌, length, get_or, set, Option, None, Some, sym, ap, subst, ◌∙◌, inl, inr, arith, Contains, AllByRecursion, cases_eq, cases_lt, length-set}
use Rattle.write_chains.proofs.Prelude.{get_or-set_same, get_or-set_other, get_or_past, Log, IsClean, source, committed, Has, Has-from_Contains, Has-append_cases, each_of_filter, each_from_filter, each_of_range, each_from_range}
use Rattle.write_chains.proofs.Prelude.{each_from_contained, each_contained, writers_in, writes, next, IsNext, next_is, next_from, some_one, IsTable, AreLinks, FitTogether}
use Rattle.serializability.proofs.Serial.{some_cases}
use Rattle.write_chains.specs.declared.links.Links.{Links}

-- ---- writers
pub record IsOneWriter (log : Log) (x v : ℕ) : Type 0 where
  pub low : 0 < v
  pub high : v ≤ log.nodes
  pub writer : writes log x v ≡ true

pub each_writer : (log : Log) (x : ℕ) → AllByRecursion (IsOneWriter log x) (writers_in log x)
each_writer log x =
    each_from_filter (IsOneWriter log x) (writes log x) (committed log)
    (each_from_range (λ v. writes log x v ≡ true → IsOneWriter log x v) 1 log.nodes (λ v lo hi t. record { low = omega arith; high = omega arith; writer = t }))

pub writer_among : (log : Log) (x v : ℕ) → IsOneWriter log x v → Contains (writers_in log x) v
writer_among log x v k =
    let In : ℕ → Type 0 = Contains (writers_in log x) in
    each_of_range (λ u. writes log x u ≡ true → In u) 1 log.nodes
    (each_of_filter In (writes log x) (committed log) (each_from_contained In (writers_in log x) (λ u c. c))) v (omega (arith, k.low)) (omega (arith, k.high)) k.writer

pub writer_at : (log : Log) (x : ℕ) (writers : List ℕ) (i v : ℕ) → writers ≡ writers_in log x → i < length writers → v ≡ get_or writers i v → IsOneWriter log x v
writer_at log x writers i v e lt is =
    each_contained (IsOneWriter log x) writers v (subst (AllByRecursion (IsOneWriter log x)) (sym e) (each_writer log x)) (i, lt, sym is)

-- ---- the table
-- the table has the next writer of a node exactly where that is one of these
pub record NextAmong (log : Log) (x : ℕ) (writers : List ℕ) (table : List (Option ℕ)) : Type 0 where
  pub count : length table ≡ log.nodes + 1
  pub sound : (w v : ℕ) → get_or table w None ≡ Some v → next log x w ≡ Some v
  pub each : (v w : ℕ) → Has v writers → IsNext log x w v → get_or table w None ≡ Some v

pub next_added : (log : Log) → IsClean log → (x : ℕ) (writers : List ℕ) (table : List (Option ℕ)) (v w : ℕ) → NextAmong log x writers table → IsOneWriter log x v → source log v x ≡ Some w → w < length table → NextAmong log x (writers ++ v ∷ []) (set table w (Some v))
next_added log clean x writers table v w h k from within =
    let is : IsNext log x w v = record { low = k.low; high = k.high; writer = k.writer; from = from } in
    let here = next_from log clean x w v is in
    record {
      count = length-set table w (Some v) ∙ h.count;
      sound = λ u y e. sound u y e (cases_eq u w) here;
      each = λ y u has n. each y u has n (cases_eq u w) here;
    }
  where
    some_same : (a b : ℕ) → Some a ≡ Some b → a ≡ b
    some_same a b e = cc

    sound : (u y : ℕ) → get_or (set table w (Some v)) u None ≡ Some y → (u ≡ w) ⊎ (u ≢ w) → next log x w ≡ Some v → next log x u ≡ Some y
    sound u y e (inl same) here =
        let at : get_or (set table w (Some v)) u None ≡ Some v = ap (λ i. get_or (set table w (Some v)) i None) same ∙ get_or-set_same table w (Some v) None within in
        ap (next log x) same ∙ here ∙ (sym at ∙ e)
    sound u y e (inr apart) here = h.sound u y (sym (get_or-set_other table w u (Some v) None apart) ∙ e)

    each : (y u : ℕ) → Has y (writers ++ v ∷ []) → IsNext log x u y → (u ≡ w) ⊎ (u ≢ w) → next log x w ≡ Some v → get_or (set table w (Some v)) u None ≡ Some y
    each y u has n (inl same) here =
        let one : v ≡ y = some_one (next log x w) v y here (ap (next log x) (sym same) ∙ next_from log clean x u y n) in
        ap (λ i. get_or (set table w (Some v)) i None) same ∙ get_or-set_same table w (Some v) None within ∙ ap (λ i. Some i) one
    each y u has n (inr apart) here = get_or-set_other table w u (Some v) None apart ∙ elim (Has-append_cases y writers (v ∷ []) has) [
      | inl before ↦ h.each y u before n
      | inr last ↦ elim last [
        | inl e ↦ absurd (apart (some_same u w (sym n.from ∙ ap (λ i. source log i x) (sym e) ∙ from)))
        | inr none ↦ absurd none
      ]
    ]

pub next_passed : (log : Log) (x : ℕ) (writers : List ℕ) (table : List (Option ℕ)) (v : ℕ) → NextAmong log x writers table → source log v x ≡ None → NextAmong log x (writers ++ v ∷ []) table
next_passed log x writers table v h none = record { count = h.count; sound = h.sound; each = each }
  where
    each : (y u : ℕ) → Has y (writers ++ v ∷ []) → IsNext log x u y → get_or table u None ≡ Some y
    each y u has n = elim (Has-append_cases y writers (v ∷ []) has) [
      | inl before ↦ h.each y u before n
      | inr last ↦ elim last [
        | inl e ↦ let bad : None ≡ Some u = sym none ∙ ap (λ i. source log i x) e ∙ n.from in cc
        | inr none ↦ absurd none
      ]
    ]

pub next_all : (log : Log) (x : ℕ) (writers : List ℕ) (table : List (Option ℕ)) → writers ≡ writers_in log x → NextAmong log x writers table → IsTable log.nodes (next log x) table
next_all log x writers table e h = record { count = h.count; each = λ w hi. each w (some_cases (next log x w)) (some_cases (get_or table w None)) }
  where
    each : (w : ℕ) → (next log x w ≡ None) ⊎ ((v : ℕ) × (next log x w ≡ Some v)) → (get_or table w None ≡ None) ⊎ ((v : ℕ) × (get_or table w None ≡ Some v)) → get_or table w None ≡ next log x w
    each w (inl none) (inl empty) = empty ∙ sym none
    each w (inl none) (inr v) = v.1 ∙ sym (h.sound w v.0 v.1)
    each w (inr v) o =
        let k = next_is log x w v.0 v.1 in
        let c = writer_among log x v.0 (record { low = k.low; high = k.high; writer = k.writer }) in
        h.each v.0 w (subst (Has v.0) (sym e) (Has-from_Contains (writers_in log x) v.0 c)) k ∙ sym v.1

-- the nodes that a table of next writers leads to are those of the log
next_stays : (log : Log) (x : ℕ) (table : List (Option ℕ)) → IsTable log.nodes (next log x) table → (v u : ℕ) → get_or table v None ≡ Some u → u < length table
next_stays log x table h v u e = elim (cases_lt v (length table)) [
  | inl within ↦ let k = next_is log x v u (sym (h.each v (omega (arith, within, h.count))) ∙ e) in omega (arith, k.high, h.count)
  | inr past ↦ let bad : None ≡ Some u = sym (get_or_past table v None past) ∙ e in cc
]

pub fit : (log : Log) (x : ℕ) (links : Links) → AreLinks log x links → FitTogether links
fit log x links h = record {
  same = h.readers.count ∙ sym h.next.count;
  stays = next_stays log x links.next.items h.next;
}
