-- A level of which a read sees no more is implied.
use Rattle.level_laws.proofs.Prelude.{ℕ, List, ◌∷◌, sym, subst, inl, inr, Contains, Contains-append_left, ClientSession, Op, Read, Level, ReadCommitted, MonotonicAtomicView, ReadAtomic, Causal, ReadsBehind, step, Sees, FindsLast}
use Rattle.level_laws.proofs.Prelude.{IsLevelOrder, AtomicWhereCausal, ViewWhereAtomic, CommittedWhereView}

-- each read sees no more at the second level
abbrev SeesNoMore : List ClientSession → Level → Level → Type 0
SeesNoMore ss high low = (u v : ℕ) (before : List Op) (key : List ℕ) (wid : ℕ) → ReadsBehind ss v before key wid → Sees low ss u v before → Sees high ss u v before

level_below : (ss : List ClientSession) (high low : Level) → SeesNoMore ss high low → (order : List ℕ) → IsLevelOrder high ss order → IsLevelOrder low ss order
level_below ss high low less order h = record {
  once = h.once;
  sessions = h.sessions;
  reads_from = h.reads_from;
  own = h.own;
  found = λ v before key wid r e. finds v before key wid r (h.found v before key wid r e);
}
  where
    finds : (v : ℕ) (before : List Op) (key : List ℕ) (wid : ℕ) → ReadsBehind ss v before key wid → FindsLast high ss order v before key wid → FindsLast low ss order v before key wid
    finds v before key wid r (inl zero) = inl (zero.0, (λ u s w. zero.1 u (less u v before key wid r s) w))
    finds v before key wid r (inr t) = inr (t.0, record { other = t.1.other; final = t.1.final; last = λ u ne s w. t.1.last u ne (less u v before key wid r s) w })

pub atomic_where_causal : AtomicWhereCausal
atomic_where_causal ss order h = level_below ss Causal ReadAtomic (λ u v before key wid r d. step u v d) order h

pub view_where_atomic : ViewWhereAtomic
view_where_atomic ss order h = level_below ss ReadAtomic MonotonicAtomicView less order h
  where
    less : SeesNoMore ss ReadAtomic MonotonicAtomicView
    less u v before key wid (behind, is) d = inr (record {
      key = d.key;
      wid = d.wid;
      other = d.other;
      writes = d.writes;
      reads = subst (λ l. Contains l (Read d.key d.wid)) (sym is) (Contains-append_left before (Read key wid ∷ behind) (Read d.key d.wid) d.reads);
    })

pub committed_where_view : CommittedWhereView
committed_where_view ss order h = level_below ss MonotonicAtomicView ReadCommitted (λ u v before key wid r s. absurd s) order h
