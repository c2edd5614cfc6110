-- Each writer of a key is in exactly one of its chains.
use Rattle.chain_laws.proofs.Prelude.{◌≡◌, ◌⊎◌, ℕ, zero, suc, ◌+◌, ◌<◌, ◌≤◌, true, false, List, [], ◌∷◌, ◌++◌, length, None, Some, refl, sym, ap, ◌∙◌, subst, inl, inr, arith, ne_eqb, nat_eq, is_some, Contains, AllByRecursion, IsDistinct}
use Rattle.chain_laws.proofs.Prelude.{length-le_from_distinct_below, Log, IsClean, source, Has, Has-from_Contains, Contains-from_Has, source_is, some_cases, source_within, writes, IsWriter, IsLinked, last, IsChain, NoneCloses}
use Rattle.chain_laws.proofs.Walks.{IsNext, one_next, some_one}
use Rattle.chain_laws.proofs.Closed.{Leads, leads_once, leads_from, last_push, linked_push, closed_from}
use Rattle.chain_laws.proofs.Maximal.{alone, cons_apart, below_all, made, writer_within}

-- nobody who writes the key reads it from t
abbrev IsLast : Log → ℕ → ℕ → Type 0
IsLast log x t = (v : ℕ) → 0 < v → v ≤ log.nodes → writes log x v ≡ true → source log v x ≡ Some t → ⊥

abbrev IsFirst : Log → ℕ → ℕ → Type 0
IsFirst log x w = (w ≡ 0) ⊎ (source log w x ≡ None)

linked_next : (log : Log) (x w v : ℕ) (rest : List ℕ) → IsLinked log x w (v ∷ rest) → IsNext log x w v
linked_next log x w v rest l = record { low = l.0; high = l.1; writer = l.2; from = l.3 }

-- ---- the beginning of a writer's chain
record Begun (log : Log) (x v : ℕ) : Type 0 where
  pub head : ℕ
  pub front : List ℕ
  pub writer : IsWriter log x head
  pub begins : IsFirst log x head
  pub linked : IsLinked log x head front
  pub last : last head front ≡ v

-- distinct nodes that v leads to, and v
record SeenBehind (log : Log) (x v : ℕ) (seen : List ℕ) : Type 0 where
  pub leads : AllByRecursion (λ u. Leads log x v u) seen
  pub apart : IsDistinct nat_eq (v ∷ seen)
  pub within : AllByRecursion (λ u. u ≤ log.nodes) (v ∷ seen)

all_from : (log : Log) (x u v : ℕ) → IsNext log x u v → (seen : List ℕ) → AllByRecursion (λ s. Leads log x v s) seen → AllByRecursion (λ s. Leads log x u s) seen
all_from log x u v k [] h = tt
all_from log x u v k (s ∷ seen) h = (leads_from log x u v s k h.0, all_from log x u v k seen h.1)

none_seen : (log : Log) (x : ℕ) → NoneCloses log x → (u : ℕ) (seen : List ℕ) → AllByRecursion (λ s. Leads log x u s) seen → AllByRecursion (λ s. nat_eq u s ≡ false) seen
none_seen log x none u [] h = tt
none_seen log x none u (s ∷ seen) h =
    (ne_eqb u s (λ e. let c = closed_from log x u (subst (Leads log x u) (sym e) h.0) in none.none c.0 c.1), none_seen log x none u seen h.1)

one_back : (log : Log) → IsClean log → (x : ℕ) → NoneCloses log x → (u v : ℕ) (seen : List ℕ) → IsNext log x u v → SeenBehind log x v seen → SeenBehind log x u (v ∷ seen)
one_back log clean x none u v seen k s =
    let leads : AllByRecursion (λ q. Leads log x u q) (v ∷ seen) = (leads_once log x u v k, all_from log x u v k seen s.leads) in
    record {
      leads = leads;
      apart = cons_apart u (v ∷ seen) (none_seen log x none u (v ∷ seen) leads) s.apart;
      within = (source_within log clean v x u k.low k.high k.from, s.within);
    }

source_writer : (log : Log) → IsClean log → (x u v : ℕ) → IsNext log x u v → IsWriter log x u
source_writer log clean x u v k = elim (source_is log clean v x u k.low k.high k.from).final [
  | inl z ↦ inl z.0
  | inr w ↦ inr (w.0, w.1, ap is_some w.2)
]

begun_further : (log : Log) (x u v : ℕ) → IsNext log x u v → Begun log x u → Begun log x v
begun_further log x u v k b = record {
  head = b.head;
  front = b.front ++ v ∷ [];
  writer = b.writer;
  begins = b.begins;
  linked = linked_push log x b.head v b.front b.linked (subst (λ q. IsNext log x q v) (sym b.last) k);
  last = last_push b.head v b.front;
}

begun_here : (log : Log) (x v : ℕ) → IsWriter log x v → IsFirst log x v → Begun log x v
begun_here log x v k f = record { head = v; front = []; writer = k; begins = f; linked = tt; last = refl }

begun : (log : Log) → IsClean log → (x : ℕ) → NoneCloses log x → (f v : ℕ) (seen : List ℕ) → IsWriter log x v → SeenBehind log x v seen → log.nodes ≤ f + length seen → Begun log x v
begun log clean x none f v seen (inl z) s h = begun_here log x v (inl z) (inl z)
begun log clean x none zero v seen (inr k) s h = elim (some_cases (source log v x)) [
  | inl e ↦ begun_here log x v (inr k) (inr e)
  | inr u ↦
      let n : IsNext log x u.0 v = record { low = k.0; high = k.1; writer = k.2; from = u.1 } in
      let t = one_back log clean x none u.0 v seen n s in
      let many = length-le_from_distinct_below (u.0 ∷ v ∷ seen) (log.nodes + 1) t.apart (below_all log.nodes (u.0 ∷ v ∷ seen) t.within) in
      absurd (omega (arith, many, h))
]
begun log clean x none (suc f) v seen (inr k) s h = elim (some_cases (source log v x)) [
  | inl e ↦ begun_here log x v (inr k) (inr e)
  | inr u ↦
      let n : IsNext log x u.0 v = record { low = k.0; high = k.1; writer = k.2; from = u.1 } in
      begun_further log x u.0 v n
      (begun log clean x none f u.0 (v ∷ seen) (source_writer log clean x u.0 v n) (one_back log clean x none u.0 v seen n s) (omega arith))
]

-- a list of writers that begins a chain is a part of it
among : (log : Log) → IsClean log → (x w : ℕ) (front rest : List ℕ) → IsLinked log x w front → IsLinked log x w rest → IsLast log x (last w rest) → Has (last w front) (w ∷ rest)
among log clean x w [] rest a b end = inl refl
among log clean x w (u ∷ front) [] a b end = absurd (end u a.0 a.1 a.2 a.3)
among log clean x w (u ∷ front) (v ∷ rest) a b end =
    let same = one_next log clean x w v u (linked_next log x w v rest b) (linked_next log x w u front a) in
    inr (subst (λ q. Has q (v ∷ rest)) (ap (λ q. last q front) same)
    (among log clean x v front rest (subst (λ q. IsLinked log x q front) (sym same) a.4) b.4 end))

pub in_some_chain : (log : Log) → IsClean log → (x : ℕ) → NoneCloses log x → (v : ℕ) → IsWriter log x v → (w : ℕ) × ((rest : List ℕ) × (IsChain log x w rest × Contains (w ∷ rest) v))
in_some_chain log clean x none v k =
    let hv = writer_within log x v k in
    let b = begun log clean x none log.nodes v [] k (record { leads = tt; apart = alone v; within = (hv, tt) }) (omega arith) in
    let c = made log x none b.head (writer_within log x b.head b.writer) b.writer b.begins in
    let has = among log clean x b.head b.front c.0 b.linked c.1.linked c.1.ends in
    (b.head, (c.0, (c.1, Contains-from_Has (b.head ∷ c.0) v (subst (λ q. Has q (b.head ∷ c.0)) b.last has))))

-- ---- no writer is in two
-- so many steps back along the sources lead from v to w
abbrev IsFrom : Log → ℕ → ℕ → ℕ → ℕ → Type 0
IsFrom log x zero v w = v ≡ w
IsFrom log x (suc k) v w = (u : ℕ) × ((0 < v) × (source log v x ≡ Some u) × IsFrom log x k u w)

from_more : (log : Log) (x k v u w : ℕ) → IsFrom log x k v u → 0 < u → source log u x ≡ Some w → IsFrom log x (suc k) v w
from_more log x zero v u w f lo e = (w, (subst (λ q. 0 < q) (sym f) lo, ap (λ q. source log q x) f ∙ e, refl))
from_more log x (suc k) v u w f lo e = (f.0, (f.1.0, f.1.1, from_more log x k f.0 u w f.1.2 lo e))

from_among : (log : Log) (x w v : ℕ) (rest : List ℕ) → IsLinked log x w rest → Has v (w ∷ rest) → (k : ℕ) × IsFrom log x k v w
from_among log x w v rest l (inl e) = (0, sym e)
from_among log x w v [] l (inr h) = absurd h
from_among log x w v (u ∷ rest) l (inr h) =
    let r = from_among log x u v rest l.4 h in (suc r.0, from_more log x r.0 v u w r.1 l.0 l.3)

not_further : (log : Log) (x w u : ℕ) → IsFirst log x w → 0 < w → source log w x ≡ Some u → ⊥
not_further log x w u (inl z) lo e = omega (arith, z, lo)
not_further log x w u (inr none) lo e = let bad : None ≡ Some u = sym none ∙ e in cc

one_first : (log : Log) (x k m v w u : ℕ) → IsFrom log x k v w → IsFrom log x m v u → IsFirst log x w → IsFirst log x u → w ≡ u
one_first log x zero zero v w u a b fw fu = sym a ∙ b
one_first log x zero (suc m) v w u a b fw fu = absurd (not_further log x v b.0 (subst (IsFirst log x) (sym a) fw) b.1.0 b.1.1)
one_first log x (suc k) zero v w u a b fw fu = absurd (not_further log x v a.0 (subst (IsFirst log x) (sym b) fu) a.1.0 a.1.1)
one_first log x (suc k) (suc m) v w u a b fw fu =
    let same : a.0 ≡ b.0 = some_one (source log v x) a.0 b.0 a.1.1 b.1.1 in
    one_first log x k m a.0 w u a.1.2 (subst (λ q. IsFrom log x m q u) (sym same) b.1.2) fw fu

one_rest : (log : Log) → IsClean log → (x w : ℕ) (rest more : List ℕ) → IsLinked log x w rest → IsLinked log x w more → IsLast log x (last w rest) → IsLast log x (last w more) → rest ≡ more
one_rest log clean x w [] [] a b e f = refl
one_rest log clean x w [] (v ∷ more) a b e f = absurd (e v b.0 b.1 b.2 b.3)
one_rest log clean x w (v ∷ rest) [] a b e f = absurd (f v a.0 a.1 a.2 a.3)
one_rest log clean x w (v ∷ rest) (u ∷ more) a b e f =
    let same = one_next log clean x w u v (linked_next log x w u more b) (linked_next log x w v rest a) in
    ap (λ l. v ∷ l) (one_rest log clean x v rest more a.4 (subst (λ q. IsLinked log x q more) same b.4) e (subst (λ q. IsLast log x (last q more)) same f))
    ∙ ap (λ q. q ∷ more) (sym same)

pub in_one_chain : (log : Log) → IsClean log → (x v w u : ℕ) (rest more : List ℕ) → IsChain log x w rest → Contains (w ∷ rest) v → IsChain log x u more → Contains (u ∷ more) v → (w ≡ u) × (rest ≡ more)
in_one_chain log clean x v w u rest more a v_in b v_also =
    let f = from_among log x w v rest a.linked (Has-from_Contains (w ∷ rest) v v_in) in
    let g = from_among log x u v more b.linked (Has-from_Contains (u ∷ more) v v_also) in
    let same = one_first log x f.0 g.0 v w u f.1 g.1 a.begins b.begins in
    (same, one_rest log clean x w rest more a.linked (subst (λ q. IsLinked log x q more) (sym same) b.linked) a.ends (subst (λ q. IsLast log x (last q more)) (sym same) b.ends))
