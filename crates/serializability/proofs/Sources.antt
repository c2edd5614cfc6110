-- The node from which a node reads a key.
use Rattle.serializability.proofs.Prelude.{◌≡◌, ◌≢◌, ◌⊎◌, ℕ, zero, suc, ◌+◌, ◌<◌, ◌≤◌, Bool, true, false, eqb, cond, List, [], ◌∷◌, ◌++◌, Option, None, Some, refl, sym, ap, ◌∙◌, subst, inl, inr, arith, unwrap_or, eqb-true, eq-eqb, find}
use Rattle.serializability.proofs.Prelude.{list_any, range_with_len, cases_eq, cases_Bool, cond-true, cond-false, false≢true, or_cases, and_parts, and_from, Event, Read, Write, Log, later, last_write, external_read, IsFinal, ReadsAfter}
use Rattle.serializability.proofs.Prelude.{IsClean, committed, all_keys, wrote, writer_of, source, reads_from}
use Rattle.std.specs.Option.{option_map, option_map_or}
use Rattle.serializability.specs.Anomalies.{is_write_of}
use Rattle.serializability.proofs.Places.{Has}

pub Has-from_range : (v a n : ℕ) → a ≤ v → v < a + n → Has v (range_with_len a n)
Has-from_range v a zero lo hi = absurd (omega arith)
Has-from_range v a (suc n) lo hi = elim (cases_eq a v) [
  | inl e ↦ inl e
  | inr ne ↦ inr (Has-from_range v (a + 1) n (omega (arith, ne)) (omega arith))
]

pub range-from_Has : (v a n : ℕ) → Has v (range_with_len a n) → (a ≤ v) × (v < a + n)
range-from_Has v a zero h = absurd h
range-from_Has v a (suc n) (inl e) = (omega (arith, e), omega (arith, e))
range-from_Has v a (suc n) (inr h) = let r = range-from_Has v (a + 1) n h in (omega (arith, r.0, r.1), omega (arith, r.0, r.1))

-- ---- `find` and `list_any` over numbers
found : (p : ℕ → Bool) (x v : ℕ) (rest : Option ℕ) (b : Bool) → p x ≡ b → cond b (Some x) rest ≡ Some v → ((p x ≡ true) × (x ≡ v)) ⊎ (rest ≡ Some v)
found p x v rest true e h = inl (e, cc)
found p x v rest false e h = inr h

pub find_some : (p : ℕ → Bool) (xs : List ℕ) (v : ℕ) → find p xs ≡ Some v → (p v ≡ true) × Has v xs
find_some p [] v e = cc
find_some p (x ∷ xs) v e = elim (found p x v (find p xs) (p x) refl e) [
  | inl h ↦ (subst (λ n. p n ≡ true) h.1 h.0, inl h.1)
  | inr h ↦ let r = find_some p xs v h in (r.0, inr r.1)
]

not_found : (p : ℕ → Bool) (x : ℕ) (rest : Option ℕ) (b : Bool) → p x ≡ b → cond b (Some x) rest ≡ None → (p x ≡ false) × (rest ≡ None)
not_found p x rest true e h = cc
not_found p x rest false e h = (e, h)

pub find_none : (p : ℕ → Bool) (xs : List ℕ) (v : ℕ) → find p xs ≡ None → Has v xs → p v ≡ false
find_none p [] v e h = absurd h
find_none p (x ∷ xs) v e (inl here) = subst (λ n. p n ≡ false) here (not_found p x (find p xs) (p x) refl e).0
find_none p (x ∷ xs) v e (inr h) = find_none p xs v (not_found p x (find p xs) (p x) refl e).1 h

pub any_found : (p : ℕ → Bool) (xs : List ℕ) → list_any p xs ≡ true → (v : ℕ) × ((p v ≡ true) × Has v xs)
any_found p [] e = absurd (false≢true e)
any_found p (x ∷ xs) e = elim (or_cases (p x) (list_any p xs) e) [
  | inl h ↦ (x, (h, inl refl))
  | inr h ↦ let r = any_found p xs h in (r.0, (r.1.0, inr r.1.1))
]

pub any_from : (p : ℕ → Bool) (xs : List ℕ) (v : ℕ) → p v ≡ true → Has v xs → list_any p xs ≡ true
any_from p [] v e h = absurd h
any_from p (x ∷ xs) v e (inl here) = let t : p x ≡ true = subst (λ n. p n ≡ true) (sym here) e in rw t refl
any_from p (x ∷ xs) v e (inr h) = elim (cases_Bool (p x)) [
  | inl t ↦ rw t refl
  | inr f ↦ rw f (any_from p xs v e h)
]

-- ---- external reads
pub record Split (x w : ℕ) (ops : List Event) : Type 0 where
  pub before : List Event
  pub behind : List Event
  pub stands : ops ≡ before ++ Read x w ∷ behind
  pub external : last_write x before ≡ None

read_here : (k x v w : ℕ) (rest : Option ℕ) (b : Bool) → eqb k x ≡ b → cond b (Some v) rest ≡ Some w → ((k ≡ x) × (v ≡ w)) ⊎ ((eqb k x ≡ false) × (rest ≡ Some w))
read_here k x v w rest true e h = inl (eqb-true k x e, cc)
read_here k x v w rest false e h = inr (e, h)

write_here : (k x w : ℕ) (rest : Option ℕ) (b : Bool) → eqb k x ≡ b → cond b None rest ≡ Some w → (eqb k x ≡ false) × (rest ≡ Some w)
write_here k x w rest true e h = cc
write_here k x w rest false e h = (e, h)

pub later_none_from : (b : Bool) (v : ℕ) (o : Option ℕ) → b ≡ false → o ≡ None → later (cond b (Some v) None) o ≡ None
later_none_from true v o e h = absurd (false≢true (sym e))
later_none_from false v None e h = refl
later_none_from false v (Some w) e h = cc

pub external_read_split : (x w : ℕ) (ops : List Event) → external_read x ops ≡ Some w → Split x w ops
external_read_split x w [] e = cc
external_read_split x w (Read k v ∷ ops) e = elim (read_here k x v w (external_read x ops) (eqb k x) refl e) [
  | inl h ↦ record { before = []; behind = ops; stands = ap (λ n. Read n v ∷ ops) h.0 ∙ ap (λ n. Read x n ∷ ops) h.1; external = refl }
  | inr h ↦ let s = external_read_split x w ops h.1 in
      record { before = Read k v ∷ s.before; behind = s.behind; stands = ap (λ l. Read k v ∷ l) s.stands; external = s.external }
]
external_read_split x w (Write k v ∷ ops) e =
    let h = write_here k x w (external_read x ops) (eqb k x) refl e in
    let s = external_read_split x w ops h.1 in
    record { before = Write k v ∷ s.before; behind = s.behind; stands = ap (λ l. Write k v ∷ l) s.stands; external = later_none_from (eqb k x) v (last_write x s.before) h.0 s.external }

pub later_none_parts : (b : Bool) (v : ℕ) (o : Option ℕ) → later (cond b (Some v) None) o ≡ None → (b ≡ false) × (o ≡ None)
later_none_parts true v None e = cc
later_none_parts true v (Some w) e = cc
later_none_parts false v None e = (refl, refl)
later_none_parts false v (Some w) e = cc

pub external_read_some : (x w : ℕ) (before behind : List Event) → last_write x before ≡ None → (y : ℕ) × (external_read x (before ++ Read x w ∷ behind) ≡ Some y)
external_read_some x w [] behind e = (w, cond-true (eqb x x) (Some w) (external_read x behind) (eq-eqb x x refl))
external_read_some x w (Read k v ∷ before) behind e = elim (cases_Bool (eqb k x)) [
  | inl t ↦ (v, cond-true (eqb k x) (Some v) (external_read x (before ++ Read x w ∷ behind)) t)
  | inr f ↦ let r = external_read_some x w before behind e in
      (r.0, cond-false (eqb k x) (Some v) (external_read x (before ++ Read x w ∷ behind)) f ∙ r.1)
]
external_read_some x w (Write k v ∷ before) behind e =
    let p = later_none_parts (eqb k x) v (last_write x before) e in
    let r = external_read_some x w before behind p.1 in
    (r.0, cond-false (eqb k x) None (external_read x (before ++ Read x w ∷ behind)) p.0 ∙ r.1)

-- ---- writers
pub wrote_is : (o : Option ℕ) (w : ℕ) → option_map_or (λ y. eqb y w) o false ≡ true → o ≡ Some w
wrote_is None w e = absurd (false≢true e)
wrote_is (Some y) w e = ap Some (eqb-true y w e)

pub wrote_from : (o : Option ℕ) (w : ℕ) → o ≡ Some w → option_map_or (λ y. eqb y w) o false ≡ true
wrote_from o w e = ap (λ p. option_map_or (λ y. eqb y w) p false) e ∙ eq-eqb w w refl

writer_of_found : (log : Log) → IsClean log → (u x w : ℕ) → IsFinal log u x w → (o : Option ℕ) → find (wrote log x w) (committed log) ≡ o → unwrap_or o 0 ≡ u
writer_of_found log clean u x w final (Some v) e =
    let r = find_some (wrote log x w) (committed log) v e in
    let range = range-from_Has v 1 log.nodes r.1 in
    let lo : 0 < v = omega (arith, range.0) in
    let hi : v ≤ log.nodes = omega (arith, range.1) in
    clean.apart v u x w (inr (lo, hi, wrote_is (last_write x (log.ops v)) w r.0)) final
writer_of_found log clean u x w (inl z) None e = sym z.0
writer_of_found log clean u x w (inr wr) None e =
    let absent = find_none (wrote log x w) (committed log) u e (Has-from_range u 1 log.nodes (omega (arith, wr.0)) (omega (arith, wr.1))) in
    absurd (false≢true (sym absent ∙ wrote_from (last_write x (log.ops u)) w wr.2))

pub writer_of_is : (log : Log) → IsClean log → (u x w : ℕ) → IsFinal log u x w → writer_of log x w ≡ u
writer_of_is log clean u x w final = writer_of_found log clean u x w final (find (wrote log x w) (committed log)) refl

-- ---- sources
pub record SourceOf (log : Log) (r x u : ℕ) : Type 0 where
  pub w : ℕ
  pub before : List Event
  pub reads : ReadsAfter log r before x w
  pub external : last_write x before ≡ None
  pub final : IsFinal log u x w
  pub other : u ≢ r

source_read : (log : Log) → IsClean log → (r x u w : ℕ) → 0 < r → r ≤ log.nodes → external_read x (log.ops r) ≡ Some w → writer_of log x w ≡ u → SourceOf log r x u
source_read log clean r x u w lo hi e is =
    let s = external_read_split x w (log.ops r) e in
    let reads : ReadsAfter log r s.before x w = (lo, hi, (s.behind, s.stands)) in
    let f = clean.external r x w s.before reads s.external in
    let same : f.0 ≡ u = sym (writer_of_is log clean f.0 x w f.2) ∙ is in
    record {
      w = w;
      before = s.before;
      reads = reads;
      external = s.external;
      final = subst (λ n. IsFinal log n x w) same f.2;
      other = λ bad. f.1 (same ∙ bad);
    }

source_cases : (f : ℕ → ℕ) (o : Option ℕ) (u : ℕ) → option_map f o ≡ Some u → (w : ℕ) × ((o ≡ Some w) × (f w ≡ u))
source_cases f None u e = cc
source_cases f (Some w) u e = (w, (refl, cc))

pub source_is : (log : Log) → IsClean log → (r x u : ℕ) → 0 < r → r ≤ log.nodes → source log r x ≡ Some u → SourceOf log r x u
source_is log clean r x u lo hi e =
    let s = source_cases (writer_of log x) (external_read x (log.ops r)) u e in
    source_read log clean r x u s.0 lo hi s.1.0 s.1.1

pub source_from : (log : Log) → IsClean log → (r x u w : ℕ) (before : List Event) → ReadsAfter log r before x w → last_write x before ≡ None → IsFinal log u x w → source log r x ≡ Some u
source_from log clean r x u w before reads external final =
    let some = external_read_some x w before reads.2.0 external in
    let e : external_read x (log.ops r) ≡ Some some.0 = ap (external_read x) reads.2.1 ∙ some.1 in
    let s = external_read_split x some.0 (log.ops r) e in
    let same : some.0 ≡ w = clean.same r x some.0 w s.before before (reads.0, reads.1, (s.behind, s.stands)) s.external reads external in
    ap (option_map (writer_of log x)) (e ∙ ap Some same) ∙ ap Some (writer_of_is log clean u x w final)

pub reads_from_is : (log : Log) (r u : ℕ) → reads_from log r u ≡ true → (x : ℕ) × (source log r x ≡ Some u)
reads_from_is log r u e =
    let a = any_found (λ x. option_map_or (λ y. eqb y u) (source log r x) false) (all_keys log) e in
    (a.0, wrote_is (source log r a.0) u a.1.0)

pub reads_from_source : (log : Log) (r x u : ℕ) → x < log.keys → source log r x ≡ Some u → reads_from log r u ≡ true
reads_from_source log r x u k e =
    any_from (λ y. option_map_or (λ v. eqb v u) (source log r y) false) (all_keys log) x (wrote_from (source log r x) u e) (Has-from_range x 0 log.keys (omega arith) (omega arith))

-- ---- the nodes read from are nodes of the log
pub writer_within : (log : Log) (x w : ℕ) (o : Option ℕ) → find (wrote log x w) (committed log) ≡ o → unwrap_or o 0 ≤ log.nodes
writer_within log x w None e = omega arith
writer_within log x w (Some v) e =
    let r = range-from_Has v 1 log.nodes (find_some (wrote log x w) (committed log) v e).1 in omega (arith, r.1)

mapped_some : (f : ℕ → ℕ) (o : Option ℕ) (u : ℕ) → option_map f o ≡ Some u → (w : ℕ) × (f w ≡ u)
mapped_some f None u e = cc
mapped_some f (Some w) u e = (w, cc)

pub source_within : (log : Log) (v x u : ℕ) → source log v x ≡ Some u → u ≤ log.nodes
source_within log v x u e =
    let s = mapped_some (writer_of log x) (external_read x (log.ops v)) u e in
    omega (arith, writer_within log x s.0 (find (wrote log x s.0) (committed log)) refl, s.1)

pub is_write : (x w : ℕ) (e : Event) → is_write_of x w e ≡ true → e ≡ Write x w
is_write x w (Read k v) h = absurd (false≢true h)
is_write x w (Write k v) h =
    let p = and_parts (eqb k x) (eqb v w) h in
    ap (λ n. Write n v) (eqb-true k x p.0) ∙ ap (λ n. Write x n) (eqb-true v w p.1)

pub is_write-self : (x w : ℕ) → is_write_of x w (Write x w) ≡ true
is_write-self x w = and_from (eqb x x) (eqb w w) (eq-eqb x x refl) (eq-eqb w w refl)

pub one_final : (log : Log) (u x w y : ℕ) → IsFinal log u x w → IsFinal log u x y → w ≡ y
one_final log u x w y (inl a) (inl b) = a.1 ∙ sym b.1
one_final log u x w y (inl a) (inr b) = absurd (omega (arith, a.0, b.0))
one_final log u x w y (inr a) (inl b) = absurd (omega (arith, b.0, a.0))
one_final log u x w y (inr a) (inr b) = cc
