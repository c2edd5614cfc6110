-- Chains that close on themselves.
use Rattle.chain_laws.proofs.Prelude.{◌≡◌, ℕ, ◌<◌, ◌≤◌, List, [], ◌∷◌, ◌++◌, length, Some, refl, sym, ap, ◌∙◌, subst, arith, length-append, Contains, Log, IsClean, arcs, source, source_is, reads_from_source, each_of_arcs, arc_from_read}
use Rattle.chain_laws.proofs.Prelude.{source_within, each_from_contained, IsLinked, last, IsClosedChain}
use Rattle.reach_laws.specs.Reach.{Walk, IsCyclic, IsCycle}
use Rattle.chain_laws.proofs.Walks.{IsNext}

-- one writer or more behind u, of which the last is w
pub record Leads (log : Log) (x u w : ℕ) : Type 0 where
  pub rest : List ℕ
  pub more : 0 < length rest
  pub linked : IsLinked log x u rest
  pub last : last u rest ≡ w

pub last_push : (u v : ℕ) (rest : List ℕ) → last u (rest ++ v ∷ []) ≡ v
last_push u v [] = refl
last_push u v (r ∷ rest) = last_push r v rest

pub linked_push : (log : Log) (x u v : ℕ) (rest : List ℕ) → IsLinked log x u rest → IsNext log x (last u rest) v → IsLinked log x u (rest ++ v ∷ [])
linked_push log x u v [] l k = (k.low, k.high, k.writer, k.from, tt)
linked_push log x u v (r ∷ rest) l k = (l.0, l.1, l.2, l.3, linked_push log x r v rest l.4 k)

pub leads_once : (log : Log) (x w v : ℕ) → IsNext log x w v → Leads log x w v
leads_once log x w v k = record { rest = v ∷ []; more = omega arith; linked = (k.low, k.high, k.writer, k.from, tt); last = refl }

pub leads_on : (log : Log) (x u w v : ℕ) → Leads log x u w → IsNext log x w v → Leads log x u v
leads_on log x u w v l k = record {
  rest = l.rest ++ v ∷ [];
  more = omega (arith, length-append l.rest (v ∷ []));
  linked = linked_push log x u v l.rest l.linked (subst (λ q. IsNext log x q v) (sym l.last) k);
  last = last_push u v l.rest;
}

-- the other way round: a node in front
pub leads_from : (log : Log) (x u w v : ℕ) → IsNext log x u w → Leads log x w v → Leads log x u v
leads_from log x u w v k l = record { rest = w ∷ l.rest; more = omega arith; linked = (k.low, k.high, k.writer, k.from, l.linked); last = l.last }

pub closed_from : (log : Log) (x v : ℕ) → Leads log x v v → (line : List ℕ) × IsClosedChain log x line
closed_from log x v l = (v ∷ l.rest, record { start = v; rest = l.rest; shape = refl; more = l.more; linked = l.linked; closes = l.last })

-- ---- a cycle of the arcs
pub key_within : (log : Log) → IsClean log → (x u v : ℕ) → 0 < v → v ≤ log.nodes → source log v x ≡ Some u → x < log.keys
key_within log clean x u v lo hi from = let s = source_is log clean v x u lo hi from in clean.keys v x s.w s.before s.reads

arc_between : (log : Log) → IsClean log → (x u v : ℕ) → 0 < v → v ≤ log.nodes → source log v x ≡ Some u → Contains (arcs log) (u, v)
arc_between log clean x u v lo hi from =
    let In = Contains (arcs log) in
    each_of_arcs log In (each_from_contained In (arcs log) (λ d c. c)) u v (source_within log clean v x u lo hi from) hi
    (arc_from_read log v u lo (reads_from_source log v x u (key_within log clean x u v lo hi from) from))

record Walked (log : Log) (u v : ℕ) (rest : List ℕ) : Type 0 where
  pub inner : List ℕ
  pub shape : v ∷ rest ≡ inner ++ last v rest ∷ []
  pub steps : Walk (arcs log) u inner (last v rest)

walked : (log : Log) → IsClean log → (x u v : ℕ) (rest : List ℕ) → IsLinked log x u (v ∷ rest) → Walked log u v rest
walked log clean x u v [] l = record { inner = []; shape = refl; steps = arc_between log clean x u v l.0 l.1 l.3 }
walked log clean x u v (r ∷ rest) l =
    let w = walked log clean x v r rest l.4 in
    record { inner = v ∷ w.inner; shape = ap (λ l. v ∷ l) w.shape; steps = (arc_between log clean x u v l.0 l.1 l.3, w.steps) }

cycle_of : (log : Log) → IsClean log → (x start : ℕ) (rest : List ℕ) → 0 < length rest → IsLinked log x start rest → last start rest ≡ start → IsCycle (arcs log) (start ∷ rest)
cycle_of log clean x start [] more l e = absurd (omega (arith, more))
cycle_of log clean x start (v ∷ rest) more l e =
    let w = walked log clean x start v rest l in (
      start,
      record {
        inner = w.inner;
        shape = ap (λ l. start ∷ l) (w.shape ∙ ap (λ q. w.inner ++ q ∷ []) e);
        steps = subst (Walk (arcs log) start w.inner) e w.steps;
      },
    )

pub closed_is_cycle : (log : Log) → IsClean log → (x : ℕ) (line : List ℕ) → IsClosedChain log x line → IsCycle (arcs log) line
closed_is_cycle log clean x line c =
    subst (IsCycle (arcs log)) (sym c.shape) (cycle_of log clean x c.start c.rest c.more c.linked c.closes)

pub none_where_acyclic : (log : Log) → IsClean log → (IsCyclic (arcs log) → ⊥) → (x : ℕ) (line : List ℕ) → IsClosedChain log x line → ⊥
none_where_acyclic log clean acyclic x line c =
    let k = closed_is_cycle log clean x line c in acyclic (k.0, (k.1.inner, k.1.steps))

-- a closed chain begins somewhere in the log
pub closed_key : (log : Log) → IsClean log → (x : ℕ) (line : List ℕ) → IsClosedChain log x line → x < log.keys
closed_key log clean x line c = first c.rest c.more c.linked
  where
    first : (rest : List ℕ) → 0 < length rest → IsLinked log x c.start rest → x < log.keys
    first [] more l = absurd (omega (arith, more))
    first (v ∷ rest) more l = key_within log clean x c.start v l.0 l.1 l.3
