-- Walks along the chains of a key, in an order that keeps the arcs.
use Rattle.chain_laws.proofs.Prelude.{◌≡◌, ◌⊎◌, ℕ, zero, suc, ◌+◌, ◌<◌, ◌≤◌, true, ◌&&◌, List, Option, None, Some, refl, sym, ap, ◌∙◌, subst, inl, inr, arith, is_some, option_map_or, cases_eq, cases_lt, false≢true, and_parts, and_from}
use Rattle.chain_laws.proofs.Prelude.{not_from_false, some_of, Log, ListsOnce, last_write, ReadsAfter, IsClean, committed, source, source_is, reads_from_source, find_some, find_none, wrote_is, wrote_from, Has-from_range, range-from_Has}
use Rattle.chain_laws.proofs.Prelude.{one_final, KeepsArcs, arc_from_read, source_within, some_cases, writes, reads_key, next, tail_from, tail, is_head, at, place_within}

-- ---- the next of a chain
pub record IsNext (log : Log) (x w v : ℕ) : Type 0 where
  pub low : 0 < v
  pub high : v ≤ log.nodes
  pub writer : writes log x v ≡ true
  pub from : source log v x ≡ Some w

pub next_is : (log : Log) (x w v : ℕ) → next log x w ≡ Some v → IsNext log x w v
next_is log x w v e =
    let r = find_some (λ u. writes log x u && reads_key log x w u) (committed log) v e in
    let b = range-from_Has v 1 log.nodes r.1 in
    let p = and_parts (writes log x v) (reads_key log x w v) r.0 in
    record { low = omega (arith, b.0); high = omega (arith, b.1); writer = p.0; from = wrote_is (source log v x) w p.1 }

pub no_next : (log : Log) (x w v : ℕ) → next log x w ≡ None → 0 < v → v ≤ log.nodes → writes log x v ≡ true → source log v x ≡ Some w → ⊥
no_next log x w v e lo hi t from =
    let f = find_none (λ u. writes log x u && reads_key log x w u) (committed log) v e (Has-from_range v 1 log.nodes (omega arith) (omega arith)) in
    false≢true (sym f ∙ and_from (writes log x v) (reads_key log x w v) t (wrote_from (source log v x) w from))

pub some_one : (o : Option ℕ) (v w : ℕ) → o ≡ Some v → o ≡ Some w → v ≡ w
some_one o v w a b = let e : Some v ≡ Some w = sym a ∙ b in cc

-- no lost update
pub one_next : (log : Log) → IsClean log → (x w u v : ℕ) → IsNext log x w u → IsNext log x w v → u ≡ v
one_next log clean x w u v a b =
    let s = source_is log clean u x w a.low a.high a.from in
    let t = source_is log clean v x w b.low b.high b.from in
    let same : t.w ≡ s.w = one_final log w x t.w s.w t.final s.final in
    let p = some_of (last_write x (log.ops u)) a.writer in
    let q = some_of (last_write x (log.ops v)) b.writer in
    clean.unlost u v x s.w p.0 q.0 s.before t.before s.reads s.external
    (subst (λ y. ReadsAfter log v t.before x y) same t.reads) t.external p.1 q.1

pub next_from : (log : Log) → IsClean log → (x w v : ℕ) → IsNext log x w v → next log x w ≡ Some v
next_from log clean x w v k = elim (some_cases (next log x w)) [
  | inl e ↦ absurd (no_next log x w v e k.low k.high k.writer k.from)
  | inr s ↦ s.1 ∙ ap Some (one_next log clean x w s.0 v (next_is log x w s.0 s.1) k)
]

-- ---- what an order that keeps the arcs knows
pub record Setting (log : Log) (order : List ℕ) : Type 0 where
  pub clean : IsClean log
  pub once : ListsOnce log.nodes order
  pub keeps : KeepsArcs log order

pub reader_behind : (log : Log) (order : List ℕ) → Setting log order → (x r w : ℕ) → x < log.keys → 0 < r → r ≤ log.nodes → source log r x ≡ Some w → at order w < at order r
reader_behind log order s x r w key lo hi e =
    s.keeps w r (source_within log s.clean r x w lo hi e) hi (arc_from_read log r w lo (reads_from_source log r x w key e))

pub next_behind : (log : Log) (order : List ℕ) → Setting log order → (x w v : ℕ) → x < log.keys → next log x w ≡ Some v → at order w < at order v
next_behind log order s x w v key e =
    let k = next_is log x w v e in reader_behind log order s x v w key k.low k.high k.from

-- ---- tails
pub step_some : (log : Log) (x f w v : ℕ) → next log x w ≡ Some v → tail_from log x (suc f) w ≡ tail_from log x f v
step_some log x f w v e = ap (λ o. option_map_or (tail_from log x f) o w) e

pub step_none : (log : Log) (x f w : ℕ) → next log x w ≡ None → tail_from log x (suc f) w ≡ w
step_none log x f w e = ap (λ o. option_map_or (tail_from log x f) o w) e

-- further steps change nothing
enough : (log : Log) (order : List ℕ) → Setting log order → (x : ℕ) → x < log.keys → (f w : ℕ) → w ≤ log.nodes → log.nodes ≤ f + at order w → tail_from log x f w ≡ tail_from log x (suc f) w
enough log order s x key zero w hw h = elim (some_cases (next log x w)) [
  | inl e ↦ sym (step_none log x zero w e)
  | inr v ↦
      let k = next_is log x w v.0 v.1 in
      absurd (omega (arith, next_behind log order s x w v.0 key v.1, place_within log.nodes order s.once v.0 k.high, h))
]
enough log order s x key (suc f) w hw h = elim (some_cases (next log x w)) [
  | inl e ↦ step_none log x f w e ∙ sym (step_none log x (suc f) w e)
  | inr v ↦
      let k = next_is log x w v.0 v.1 in
      step_some log x f w v.0 v.1
      ∙ enough log order s x key f v.0 k.high (omega (arith, next_behind log order s x w v.0 key v.1, h))
      ∙ sym (step_some log x (suc f) w v.0 v.1)
]

pub tail_next : (log : Log) (order : List ℕ) → Setting log order → (x w v : ℕ) → x < log.keys → w ≤ log.nodes → next log x w ≡ Some v → tail log x w ≡ tail log x v
tail_next log order s x w v key hw e = enough log order s x key log.nodes w hw (omega arith) ∙ step_some log x log.nodes w v e

pub tail_none : (log : Log) (order : List ℕ) → Setting log order → (x w : ℕ) → x < log.keys → w ≤ log.nodes → next log x w ≡ None → tail log x w ≡ w
tail_none log order s x w key hw e = enough log order s x key log.nodes w hw (omega arith) ∙ step_none log x log.nodes w e

pub tail_behind : (log : Log) (order : List ℕ) → Setting log order → (x : ℕ) → x < log.keys → (f w : ℕ) → at order w ≤ at order (tail_from log x f w)
tail_behind log order s x key zero w = omega arith
tail_behind log order s x key (suc f) w = elim (some_cases (next log x w)) [
  | inl e ↦ let same = ap (at order) (step_none log x f w e) in omega (arith, same)
  | inr v ↦
      let same = ap (at order) (step_some log x f w v.0 v.1) in
      omega (arith, same, next_behind log order s x w v.0 key v.1, tail_behind log order s x key f v.0)
]

-- ---- v stands m steps behind h
abbrev pub Steps : Log → ℕ → ℕ → ℕ → ℕ → Type 0
Steps log x zero h v = h ≡ v
Steps log x (suc m) h v = (u : ℕ) × (Steps log x m h u × (next log x u ≡ Some v))

pub one_step : (log : Log) (x m h u v : ℕ) → Steps log x m h u → Steps log x m h v → u ≡ v
one_step log x zero h u v a b = sym a ∙ b
one_step log x (suc m) h u v a b =
    let same : b.0 ≡ a.0 = one_step log x m h b.0 a.0 b.1.0 a.1.0 in
    some_one (next log x a.0) u v a.1.1 (subst (λ q. next log x q ≡ Some v) same b.1.1)

pub record Followed (log : Log) (order : List ℕ) (x w k : ℕ) : Type 0 where
  pub v : ℕ
  pub is : next log x w ≡ Some v
  pub upto : at order v ≤ at order k

pub followed : (log : Log) (order : List ℕ) → Setting log order → (x : ℕ) → x < log.keys → (p m h w k : ℕ) → m < p → Steps log x m h w → Steps log x p h k → Followed log order x w k
followed log order s x key zero m h w k lt a b = absurd (omega arith)
followed log order s x key (suc p) m h w k lt a b = elim (cases_eq m p) [
  | inl e ↦
      let same : b.0 ≡ w = one_step log x p h b.0 w b.1.0 (subst (λ q. Steps log x q h w) e a) in
      record { v = k; is = subst (λ q. next log x q ≡ Some k) same b.1.1; upto = omega arith }
  | inr ne ↦
      let r = followed log order s x key p m h w b.0 (omega (arith, ne)) a b.1.0 in
      record { v = r.v; is = r.is; upto = omega (arith, r.upto, next_behind log order s x b.0 k key b.1.1) }
]

-- ---- heads
pub record Head (log : Log) (x h : ℕ) : Type 0 where
  pub low : 0 < h
  pub high : h ≤ log.nodes
  pub test : is_head log x h ≡ true

pub record HeadOf (log : Log) (order : List ℕ) (x v : ℕ) : Type 0 where
  pub head : ℕ
  pub steps : ℕ
  pub kind : (head ≡ 0) ⊎ Head log x head
  pub far : Steps log x steps head v
  pub tails : tail log x head ≡ tail log x v
  pub upto : at order head ≤ at order v

here : (log : Log) (order : List ℕ) (x v : ℕ) → (v ≡ 0) ⊎ Head log x v → HeadOf log order x v
here log order x v k = record { head = v; steps = 0; kind = k; far = refl; tails = refl; upto = omega arith }

pub head_of : (log : Log) (order : List ℕ) → Setting log order → (x : ℕ) → x < log.keys → (p v : ℕ) → at order v < p → v ≤ log.nodes → (v ≡ 0) ⊎ (writes log x v ≡ true) → HeadOf log order x v
head_of log order s x key zero v h hv k = absurd (omega arith)
head_of log order s x key (suc p) v h hv (inl z) = here log order x v (inl z)
head_of log order s x key (suc p) v h hv (inr t) = elim (cases_lt 0 v) [
  | inr z ↦ here log order x v (inl (omega arith))
  | inl lo ↦ elim (some_cases (source log v x)) [
    | inl e ↦ here log order x v (inr (record {
      low = lo;
      high = hv;
      test = and_from (writes log x v) _ t (not_from_false (is_some (source log v x)) (ap is_some e));
    }))
    | inr u ↦
        let behind = reader_behind log order s x v u.0 key lo hv u.1 in
        let final = (source_is log s.clean v x u.0 lo hv u.1).final in
        let kind : (u.0 ≡ 0) ⊎ (writes log x u.0 ≡ true) = elim final [ inl z ↦ inl z.0 | inr w ↦ inr (ap is_some w.2) ] in
        let within = source_within log s.clean v x u.0 lo hv u.1 in
        let r = head_of log order s x key p u.0 (omega (arith, behind, h)) within kind in
        let e = next_from log s.clean x u.0 v (record { low = lo; high = hv; writer = t; from = u.1 }) in
        record {
          head = r.head;
          steps = suc r.steps;
          kind = r.kind;
          far = (u.0, (r.far, e));
          tails = r.tails ∙ tail_next log order s x u.0 v key within e;
          upto = omega (arith, r.upto, behind);
        }
  ]
]
