-- Heads and tails are those of maximal lists of writers.
use Rattle.chain_laws.proofs.Prelude.{◌≡◌, ◌⊎◌, ℕ, zero, suc, ◌+◌, ◌<◌, ◌≤◌, true, false, eqb, List, [], ◌∷◌, length, None, Some, refl, sym, ap, ◌∙◌, subst, inl, inr, arith, eqb-true, ne_eqb, nat_eq, is_some, list_any, Contains}
use Rattle.chain_laws.proofs.Prelude.{AllByRecursion, IsDistinct, false≢true, or_cases, and_from, not_from_false, length-le_from_distinct_below, Log, IsClean, committed, source, each_of_filter, each_from_filter, each_of_range}
use Rattle.chain_laws.proofs.Prelude.{each_from_range, some_cases, each_contained, each_from_contained, writes, next, tail_from, tail, is_head, heads, IsWriter, IsLinked, last, IsChain, NoneCloses}
use Rattle.chain_laws.proofs.Closed.{Leads, leads_once, leads_on, closed_from}
use Rattle.chain_laws.proofs.Walks.{IsNext, next_is, next_from, no_next, step_some, step_none, Head}
use Rattle.chain_laws.proofs.Coalesced.{head_parts}

-- ---- a chain ends
-- distinct nodes that lead to w, and w
record Seen (log : Log) (x w : ℕ) (seen : List ℕ) : Type 0 where
  pub leads : AllByRecursion (λ u. Leads log x u w) seen
  pub apart : IsDistinct nat_eq (w ∷ seen)
  pub within : AllByRecursion (λ u. u ≤ log.nodes) (w ∷ seen)

pub cons_apart : (v : ℕ) (us : List ℕ) → AllByRecursion (λ u. nat_eq v u ≡ false) us → IsDistinct nat_eq us → IsDistinct nat_eq (v ∷ us)
unfolding IsDistinct
cons_apart v us a d = (a, d)

pub alone : (w : ℕ) → IsDistinct nat_eq (w ∷ [])
unfolding IsDistinct
alone w = (tt, tt)

further : (log : Log) (x w v : ℕ) → IsNext log x w v → (seen : List ℕ) → AllByRecursion (λ u. Leads log x u w) seen → AllByRecursion (λ u. Leads log x u v) seen
further log x w v k [] h = tt
further log x w v k (u ∷ seen) h = (leads_on log x u w v h.0 k, further log x w v k seen h.1)

others : (log : Log) (x : ℕ) → NoneCloses log x → (v : ℕ) (seen : List ℕ) → AllByRecursion (λ u. Leads log x u v) seen → AllByRecursion (λ u. nat_eq v u ≡ false) seen
others log x none v [] h = tt
others log x none v (u ∷ seen) h =
    (ne_eqb v u (λ e. let c = closed_from log x v (subst (λ q. Leads log x q v) (sym e) h.0) in none.none c.0 c.1), others log x none v seen h.1)

onward : (log : Log) (x : ℕ) → NoneCloses log x → (w v : ℕ) (seen : List ℕ) → next log x w ≡ Some v → Seen log x w seen → Seen log x v (w ∷ seen)
onward log x none w v seen e s =
    let k = next_is log x w v e in
    let leads : AllByRecursion (λ u. Leads log x u v) (w ∷ seen) = (leads_once log x w v k, further log x w v k seen s.leads) in
    record { leads = leads; apart = cons_apart v (w ∷ seen) (others log x none v (w ∷ seen) leads) s.apart; within = (k.high, s.within) }

pub below_all : (n : ℕ) (us : List ℕ) → AllByRecursion (λ u. u ≤ n) us → (q : ℕ) → list_any (eqb q) us ≡ true → q < n + 1
below_all n [] h q t = absurd (false≢true t)
below_all n (u ∷ us) h q t = elim (or_cases (eqb q u) (list_any (eqb q) us) t) [
  | inl e ↦ omega (arith, eqb-true q u e, h.0)
  | inr r ↦ below_all n us h.1 q r
]

ended : (log : Log) (x : ℕ) → NoneCloses log x → (f w : ℕ) (seen : List ℕ) → Seen log x w seen → log.nodes ≤ f + length seen → next log x (tail_from log x f w) ≡ None
ended log x none zero w seen s h = elim (some_cases (next log x w)) [
  | inl e ↦ e
  | inr v ↦
      let t = onward log x none w v.0 seen v.1 s in
      let many = length-le_from_distinct_below (v.0 ∷ w ∷ seen) (log.nodes + 1) t.apart (below_all log.nodes (v.0 ∷ w ∷ seen) t.within) in
      absurd (omega (arith, many, h))
]
ended log x none (suc f) w seen s h = elim (some_cases (next log x w)) [
  | inl e ↦ subst (λ q. next log x q ≡ None) (sym (step_none log x f w e)) e
  | inr v ↦ subst (λ q. next log x q ≡ None) (sym (step_some log x f w v.0 v.1))
      (ended log x none f v.0 (w ∷ seen) (onward log x none w v.0 seen v.1 s) (omega arith))
]

pub tail_ends : (log : Log) (x : ℕ) → NoneCloses log x → (w : ℕ) → w ≤ log.nodes → next log x (tail log x w) ≡ None
tail_ends log x none w hw =
    ended log x none log.nodes w [] (record { leads = tt; apart = alone w; within = (hw, tt) }) (omega arith)

-- ---- lists of writers
record Linked (log : Log) (x w t : ℕ) : Type 0 where
  pub rest : List ℕ
  pub linked : IsLinked log x w rest
  pub last : last w rest ≡ t

links : (log : Log) (x f w : ℕ) → Linked log x w (tail_from log x f w)
links log x zero w = record { rest = []; linked = tt; last = refl }
links log x (suc f) w = elim (some_cases (next log x w)) [
  | inl e ↦ record { rest = []; linked = tt; last = sym (step_none log x f w e) }
  | inr v ↦
      let k = next_is log x w v.0 v.1 in
      let r = links log x f v.0 in
      record { rest = v.0 ∷ r.rest; linked = (k.low, k.high, k.writer, k.from, r.linked); last = r.last ∙ sym (step_some log x f w v.0 v.1) }
]

one_last : (log : Log) → IsClean log → (x f w : ℕ) (rest : List ℕ) → IsLinked log x w rest → next log x (last w rest) ≡ None → next log x (tail_from log x f w) ≡ None → last w rest ≡ tail_from log x f w
one_last log clean x zero w [] l a b = refl
one_last log clean x (suc f) w [] l a b = sym (step_none log x f w a)
one_last log clean x zero w (v ∷ rest) l a b =
    let e = next_from log clean x w v (record { low = l.0; high = l.1; writer = l.2; from = l.3 }) in
    let bad : None ≡ Some v = sym b ∙ e in cc
one_last log clean x (suc f) w (v ∷ rest) l a b =
    let e = next_from log clean x w v (record { low = l.0; high = l.1; writer = l.2; from = l.3 }) in
    let same = step_some log x f w v e in
    one_last log clean x f v rest l.4 a (subst (λ q. next log x q ≡ None) same b) ∙ sym same

-- ---- heads
head_in : (log : Log) (x w : ℕ) → Head log x w → Contains (heads log x) w
head_in log x w h =
    let In = Contains (heads log x) in
    each_of_range (λ v. is_head log x v ≡ true → In v) 1 log.nodes
    (each_of_filter In (is_head log x) (committed log) (each_from_contained In (heads log x) (λ v c. c))) w (omega (arith, h.low)) (omega (arith, h.high)) h.test

in_head : (log : Log) (x w : ℕ) → Contains (heads log x) w → Head log x w
in_head log x w c = each_contained (Head log x) (heads log x) w
    (each_from_filter (Head log x) (is_head log x) (committed log)
    (each_from_range (λ v. is_head log x v ≡ true → Head log x v) 1 log.nodes (λ v lo hi t. record { low = omega arith; high = omega arith; test = t }))) c

next_none : (log : Log) → IsClean log → (x t : ℕ) → ((v : ℕ) → 0 < v → v ≤ log.nodes → writes log x v ≡ true → source log v x ≡ Some t → ⊥) → next log x t ≡ None
next_none log clean x t h = elim (some_cases (next log x t)) [
  | inl e ↦ e
  | inr v ↦ let k = next_is log x t v.0 v.1 in absurd (h v.0 k.low k.high k.writer k.from)
]

pub made : (log : Log) (x : ℕ) → NoneCloses log x → (w : ℕ) → w ≤ log.nodes → IsWriter log x w → (w ≡ 0) ⊎ (source log w x ≡ None) → (rest : List ℕ) × IsChain log x w rest
made log x none w hw writer begins =
    let l = links log x log.nodes w in
    let end = tail_ends log x none w hw in (
      l.rest,
      record {
        writer = writer;
        linked = l.linked;
        begins = begins;
        ends = λ v lo hi t from. no_next log x (tail log x w) v end lo hi t (from ∙ ap Some l.last);
      },
    )

pub each_chain : (log : Log) (x : ℕ) → NoneCloses log x → (w : ℕ) → (w ≡ 0) ⊎ Contains (heads log x) w → (rest : List ℕ) × IsChain log x w rest
each_chain log x none w (inl z) = made log x none w (omega (arith, z)) (inl z) (inl z)
each_chain log x none w (inr c) =
    let h = in_head log x w c in
    let p = head_parts log x w h.test in
    made log x none w h.high (inr (h.low, h.high, p.writer)) (inr p.none)

head_kind : (log : Log) (x w : ℕ) → IsWriter log x w → (w ≡ 0) ⊎ (source log w x ≡ None) → (w ≡ 0) ⊎ Contains (heads log x) w
head_kind log x w (inl z) b = inl z
head_kind log x w (inr k) (inl z) = inl z
head_kind log x w (inr k) (inr none) = inr (head_in log x w (record {
  low = k.0;
  high = k.1;
  test = and_from (writes log x w) _ k.2 (not_from_false (is_some (source log w x)) (ap is_some none));
}))

pub writer_within : (log : Log) (x w : ℕ) → IsWriter log x w → w ≤ log.nodes
writer_within log x w (inl z) = omega (arith, z)
writer_within log x w (inr k) = k.1

pub only_chain : (log : Log) → IsClean log → (x : ℕ) → NoneCloses log x → (w : ℕ) (rest : List ℕ) → IsChain log x w rest → ((w ≡ 0) ⊎ Contains (heads log x) w) × (last w rest ≡ tail log x w)
only_chain log clean x none w rest c = (
  head_kind log x w c.writer c.begins,
  one_last log clean x log.nodes w rest c.linked (next_none log clean x (last w rest) c.ends)
      (tail_ends log x none w (writer_within log x w c.writer)),
)
