-- Writes and reads among the operations of a transaction.
use Rattle.anomaly_laws.proofs.Prelude.{◌≡◌, ◌≢◌, ◌⊎◌, ℕ, ◌<◌, ◌≤◌, Bool, true, false, eqb, cond, not, List, [], ◌∷◌, ◌++◌, Option, None, Some, refl, sym, ap, ◌∙◌, inl, inr, arith, eqb-true, eq-eqb, ne_eqb, list_any, false≢true, and_parts}
use Rattle.anomaly_laws.proofs.Prelude.{and_from, and_left, or_from, or_left, or_right, or_cases, not-true, not_from_false, eqb-false, list_any-append, Event, Read, Write, Log, later, last_write, IsFinal, WritesAfter, IsNumbered}
use Rattle.anomaly_laws.proofs.Prelude.{is_write_of, writes_as, is_other_read, last_write-append, some_cases, later_none_parts, is_write, is_write-self}
use Rattle.anomaly_laws.proofs.Lists.{any_split, any_at}
use Rattle.serializability.proofs.Replays.{later_none}

-- ---- the later of two
written_here : (b : Bool) (v w : ℕ) (o : Option ℕ) → later (cond b (Some v) None) o ≡ Some w → (o ≡ Some w) ⊎ ((b ≡ true) × (v ≡ w))
written_here true v w None e = inr (refl, cc)
written_here false v w None e = cc
written_here b v w (Some y) e = inl e

-- ---- a write of x as w
pub record WriteIn (x w : ℕ) (ops : List Event) : Type 0 where
  pub before : List Event
  pub behind : List Event
  pub stands : ops ≡ before ++ Write x w ∷ behind

pub writes_split : (x w : ℕ) (ops : List Event) → writes_as x w ops ≡ true → WriteIn x w ops
writes_split x w ops h =
    let f = any_split (is_write_of x w) ops h in
    record { before = f.front; behind = f.back; stands = f.stands ∙ ap (λ e. f.front ++ e ∷ f.back) (is_write x w f.item f.passes) }

pub writes_at : (x w : ℕ) (ops before behind : List Event) → ops ≡ before ++ Write x w ∷ behind → writes_as x w ops ≡ true
writes_at x w ops before behind e =
    ap (writes_as x w) e ∙ any_at (is_write_of x w) before (Write x w) behind (is_write-self x w)

last_write_writes : (x w : ℕ) (ops : List Event) → last_write x ops ≡ Some w → writes_as x w ops ≡ true
last_write_writes x w [] e = cc
last_write_writes x w (Read k v ∷ ops) e = last_write_writes x w ops e
last_write_writes x w (Write k v ∷ ops) e = elim (written_here (eqb k x) v w (last_write x ops) e) [
  | inl h ↦ or_right ((is_write_of x w) (Write k v)) (writes_as x w ops) (last_write_writes x w ops h)
  | inr h ↦ or_left ((is_write_of x w) (Write k v)) (writes_as x w ops) (and_from (eqb k x) (eqb v w) h.0 (eq-eqb v w h.1))
]

no_write : (x w : ℕ) (ops : List Event) → last_write x ops ≡ None → writes_as x w ops ≡ false
no_write x w [] e = refl
no_write x w (Read k v ∷ ops) e = no_write x w ops e
no_write x w (Write k v ∷ ops) e =
    let p = later_none_parts (eqb k x) v (last_write x ops) e in
    or_from ((is_write_of x w) (Write k v)) (writes_as x w ops) (and_left (eqb k x) (eqb v w) p.0) (no_write x w ops p.1)

pub some_last_write : (x w : ℕ) (ops : List Event) → writes_as x w ops ≡ true → (y : ℕ) × (last_write x ops ≡ Some y)
some_last_write x w ops h = elim (some_cases (last_write x ops)) [
  | inl e ↦ absurd (false≢true (sym (no_write x w ops e) ∙ h))
  | inr s ↦ s
]

-- what stands before an operation on a key that is not written before it has no write of it either
pub none_earlier : (x : ℕ) (before a b : List Event) → last_write x before ≡ None → before ≡ a ++ b → last_write x a ≡ None
none_earlier x before a b e s =
    (later_none (last_write x a) (last_write x b) (sym (last_write-append x a b) ∙ sym (ap (last_write x) s) ∙ e)).0

-- a write of x as w beside a read of x is behind it, where none is before it
pub writes_behind : (x w y : ℕ) (ops before behind : List Event) → ops ≡ before ++ Read x y ∷ behind → last_write x before ≡ None → writes_as x w ops ≡ true → writes_as x w behind ≡ true
writes_behind x w y ops before behind e none h =
    let whole = sym (list_any-append (is_write_of x w) before (Read x y ∷ behind)) ∙ sym (ap (writes_as x w) e) ∙ h in
    elim (or_cases (writes_as x w before) (writes_as x w behind) whole) [
      | inl bad ↦ absurd (false≢true (sym (no_write x w before none) ∙ bad))
      | inr there ↦ there
    ]

-- ---- a read of x as another identity than w
pub record OtherRead (x w : ℕ) (ops : List Event) : Type 0 where
  pub before : List Event
  pub other : ℕ
  pub behind : List Event
  pub stands : ops ≡ before ++ Read x other ∷ behind
  pub differs : other ≢ w

other_event : (x w : ℕ) (e : Event) → is_other_read x w e ≡ true → (y : ℕ) × ((e ≡ Read x y) × (y ≢ w))
other_event x w (Read k v) h =
    let p = and_parts (eqb k x) (not (eqb v w)) h in
    (v, (ap (λ n. Read n v) (eqb-true k x p.0), eqb-false v w (not-true (eqb v w) p.1)))
other_event x w (Write k v) h = absurd (false≢true h)

pub other_split : (x w : ℕ) (ops : List Event) → list_any (is_other_read x w) ops ≡ true → OtherRead x w ops
other_split x w ops h =
    let f = any_split (is_other_read x w) ops h in
    let o = other_event x w f.item f.passes in
    record { before = f.front; other = o.0; behind = f.back; stands = f.stands ∙ ap (λ e. f.front ++ e ∷ f.back) o.1.0; differs = o.1.1 }

pub other_at : (x w y : ℕ) (ops before behind : List Event) → ops ≡ before ++ Read x y ∷ behind → y ≢ w → list_any (is_other_read x w) ops ≡ true
other_at x w y ops before behind e ne =
    ap (list_any (is_other_read x w)) e
    ∙ any_at (is_other_read x w) before (Read x y) behind (and_from (eqb x x) (not (eqb y w)) (eq-eqb x x refl) (not_from_false (eqb y w) (ne_eqb y w ne)))

-- ---- identities name one write
pub final_writes : (log : Log) (u x w : ℕ) → 0 < u → u ≤ log.nodes → last_write x (log.ops u) ≡ Some w → (before : List Event) × WritesAfter log u before x w
final_writes log u x w lo hi e =
    let s = writes_split x w (log.ops u) (last_write_writes x w (log.ops u) e) in
    (s.before, (lo, hi, (s.behind, s.stands)))

pub final_apart : (log : Log) → IsNumbered log → (u v x w : ℕ) → IsFinal log u x w → IsFinal log v x w → u ≡ v
final_apart log numbered u v x w (inl a) (inl b) = a.0 ∙ sym b.0
final_apart log numbered u v x w (inl a) (inr b) =
    let f = final_writes log v x w b.0 b.1 b.2 in
    absurd (omega (arith, numbered.nonzero v x w f.0 f.1, a.1))
final_apart log numbered u v x w (inr a) (inl b) =
    let f = final_writes log u x w a.0 a.1 a.2 in
    absurd (omega (arith, numbered.nonzero u x w f.0 f.1, b.1))
final_apart log numbered u v x w (inr a) (inr b) =
    let f = final_writes log u x w a.0 a.1 a.2 in
    let g = final_writes log v x w b.0 b.1 b.2 in
    (numbered.distinct u v x x w f.0 g.0 f.1 g.1).0
