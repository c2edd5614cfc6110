-- A long fork is causal, and has no prefix order.
use Rattle.level_laws.proofs.Prelude.{◌≡◌, ◌⊎◌, ℕ, zero, suc, ◌<◌, List, [], ◌∷◌, Some, refl, sym, ap, subst, inl, inr, arith, Contains, cases_lt, Read, Write, ops_of, nodes_of, snapshot, commit, HasPrefixOrder, x, y, ops_at, place, Causal}
use Rattle.level_laws.proofs.Prelude.{last_write, WritesKey, ReadsFrom, Past, step, path, HasLevelOrder, long_fork, SplitsPrefix}
use Rattle.level_laws.proofs.LastWrites.{some_written}
use Rattle.level_laws.proofs.Snapshots.{IsMet, met}
use Rattle.level_laws.proofs.Examples.{Facts, facts, never, Among, among, EachRead, IsExternal, Alone, never_earlier, by_number, Is, keys_differ}

fork_facts : Facts long_fork (nodes_of long_fork)
fork_facts = facts long_fork (never, (never, (never, (never, tt))))

fork_alone : Alone (nodes_of long_fork)
fork_alone zero lo hi = absurd (omega (arith, lo))
fork_alone (suc zero) lo hi = refl
fork_alone (suc (suc zero)) lo hi = refl
fork_alone (suc (suc (suc zero))) lo hi = refl
fork_alone (suc (suc (suc (suc zero)))) lo hi = refl
fork_alone (suc (suc (suc (suc (suc v))))) lo hi = absurd (omega (arith, hi))

-- ---- what it reads and writes
abbrev IsReadAt : ℕ → List ℕ → ℕ → Type 0
IsReadAt v key wid = (Is 3 x 1 v key wid ⊎ Is 3 y 0 v key wid) ⊎ (Is 4 y 2 v key wid ⊎ Is 4 x 0 v key wid)

fork_reads : (v : ℕ) (key : List ℕ) (wid : ℕ) → Contains (ops_of long_fork v) (Read key wid) → IsReadAt v key wid
fork_reads v key wid c = go v (among (Read key wid) (ops_at (nodes_of long_fork) v) (subst (λ l. Contains l (Read key wid)) (fork_facts.ops v) c))
  where
    go : (v : ℕ) → Among (Read key wid) (ops_at (nodes_of long_fork) v) → IsReadAt v key wid
    go zero a = absurd a
    go (suc zero) a = elim a [ inl e ↦ cc | inr n ↦ absurd n ]
    go (suc (suc zero)) a = elim a [ inl e ↦ cc | inr n ↦ absurd n ]
    go (suc (suc (suc zero))) a = elim a [ inl e ↦ inl (inl (refl, cc, cc)) | inr b ↦ elim b [ inl e ↦ inl (inr (refl, cc, cc)) | inr n ↦ absurd n ] ]
    go (suc (suc (suc (suc zero)))) a = elim a [ inl e ↦ inr (inl (refl, cc, cc)) | inr b ↦ elim b [ inl e ↦ inr (inr (refl, cc, cc)) | inr n ↦ absurd n ] ]
    go (suc (suc (suc (suc (suc v))))) a = absurd a

fork_writes : (v : ℕ) (key : List ℕ) (wid : ℕ) → Contains (ops_of long_fork v) (Write key wid) → Is 1 x 1 v key wid ⊎ Is 2 y 2 v key wid
fork_writes v key wid c = go v (among (Write key wid) (ops_at (nodes_of long_fork) v) (subst (λ l. Contains l (Write key wid)) (fork_facts.ops v) c))
  where
    go : (v : ℕ) → Among (Write key wid) (ops_at (nodes_of long_fork) v) → Is 1 x 1 v key wid ⊎ Is 2 y 2 v key wid
    go zero a = absurd a
    go (suc zero) a = elim a [ inl e ↦ inl (refl, cc, cc) | inr n ↦ absurd n ]
    go (suc (suc zero)) a = elim a [ inl e ↦ inr (refl, cc, cc) | inr n ↦ absurd n ]
    go (suc (suc (suc zero))) a = elim a [ inl e ↦ cc | inr b ↦ elim b [ inl e ↦ cc | inr n ↦ absurd n ] ]
    go (suc (suc (suc (suc zero)))) a = elim a [ inl e ↦ cc | inr b ↦ elim b [ inl e ↦ cc | inr n ↦ absurd n ] ]
    go (suc (suc (suc (suc (suc v))))) a = absurd a

writes_x : (u : ℕ) → WritesKey long_fork u x → u ≡ 1
writes_x u (wid, c) = elim (fork_writes u x wid c) [
  | inl a ↦ a.0
  | inr a ↦ absurd (keys_differ a.1)
]

writes_y : (u : ℕ) → WritesKey long_fork u y → u ≡ 2
writes_y u (wid, c) = elim (fork_writes u y wid c) [
  | inl a ↦ absurd (keys_differ (sym a.1))
  | inr a ↦ a.0
]

wrote_x : WritesKey long_fork 1 x
wrote_x = (1, subst (λ l. Contains l (Write x 1)) (sym (fork_facts.ops 1)) (0, omega arith, refl))

wrote_y : WritesKey long_fork 2 y
wrote_y = (2, subst (λ l. Contains l (Write y 2)) (sym (fork_facts.ops 2)) (0, omega arith, refl))

-- ---- who reads from whom
abbrev Pairs : ℕ → ℕ → Type 0
Pairs u v = ((u ≡ 1) × (v ≡ 3)) ⊎ ((u ≡ 2) × (v ≡ 4))

fork_from : (u v : ℕ) → ReadsFrom long_fork u v → Pairs u v
fork_from u v e = go (fork_writes u e.key e.wid e.writes) (fork_reads v e.key e.wid e.reads)
  where
    go : Is 1 x 1 u e.key e.wid ⊎ Is 2 y 2 u e.key e.wid → IsReadAt v e.key e.wid → Pairs u v
    go (inl a) (inl (inl b)) = inl (a.0, b.0)
    go (inl a) (inl (inr b)) = let p = a.2 in let q = b.2 in absurd (omega (arith, p, q))
    go (inl a) (inr (inl b)) = let p = a.2 in let q = b.2 in absurd (omega (arith, p, q))
    go (inl a) (inr (inr b)) = let p = a.2 in let q = b.2 in absurd (omega (arith, p, q))
    go (inr a) (inl (inl b)) = let p = a.2 in let q = b.2 in absurd (omega (arith, p, q))
    go (inr a) (inl (inr b)) = let p = a.2 in let q = b.2 in absurd (omega (arith, p, q))
    go (inr a) (inr (inl b)) = inr (a.0, b.0)
    go (inr a) (inr (inr b)) = let p = a.2 in let q = b.2 in absurd (omega (arith, p, q))

apart : (u v w : ℕ) → Pairs u v → Pairs v w → ⊥
apart u v w (inl a) (inl b) = let p = a.1 in let q = b.0 in omega (arith, p, q)
apart u v w (inl a) (inr b) = let p = a.1 in let q = b.0 in omega (arith, p, q)
apart u v w (inr a) (inl b) = let p = a.1 in let q = b.0 in omega (arith, p, q)
apart u v w (inr a) (inr b) = let p = a.1 in let q = b.0 in omega (arith, p, q)

fork_past : {u v : ℕ} → Past long_fork u v → Pairs u v
fork_past (step u v d) = elim d [ inl e ↦ absurd (never_earlier long_fork (nodes_of long_fork) fork_facts fork_alone u v e) | inr e ↦ fork_from u v e ]
fork_past (path u v w d p) = elim d [ inl e ↦ absurd (never_earlier long_fork (nodes_of long_fork) fork_facts fork_alone u v e) | inr e ↦ absurd (apart u v w (fork_from u v e) (fork_past p)) ]

fork_causal : HasLevelOrder Causal long_fork
fork_causal = by_number Causal long_fork (nodes_of long_fork) fork_facts fork_alone from each
  where
    from : (u v : ℕ) → ReadsFrom long_fork u v → u < v
    from u v e = elim (fork_from u v e) [
      | inl a ↦ let p = a.0 in let q = a.1 in omega (arith, p, q)
      | inr a ↦ let p = a.0 in let q = a.1 in omega (arith, p, q)
    ]

    y_unseen : (u : ℕ) → Past long_fork u 3 → WritesKey long_fork u y → ⊥
    y_unseen u p w = let two = writes_y u w in elim (fork_past p) [
      | inl a ↦ let one = a.0 in omega (arith, one, two)
      | inr a ↦ let four = a.1 in omega (arith, four)
    ]

    x_unseen : (u : ℕ) → Past long_fork u 4 → WritesKey long_fork u x → ⊥
    x_unseen u p w = let one = writes_x u w in elim (fork_past p) [
      | inl a ↦ let three = a.1 in omega (arith, three)
      | inr a ↦ let two = a.0 in omega (arith, one, two)
    ]

    each : (v : ℕ) → EachRead (IsExternal Causal long_fork v) (ops_at (nodes_of long_fork) v)
    each zero = tt
    each (suc zero) = tt
    each (suc (suc zero)) = tt
    each (suc (suc (suc zero))) = (
      (refl, inr (1, (λ e. omega (arith, e)), ap (last_write x) (fork_facts.ops 1), (λ u ne s w. ne (writes_x u w)))),
      ((refl, inl (refl, y_unseen)), tt),
    )
    each (suc (suc (suc (suc zero)))) = (
      (refl, inr (2, (λ e. omega (arith, e)), ap (last_write y) (fork_facts.ops 2), (λ u ne s w. ne (writes_y u w)))),
      ((refl, inl (refl, x_unseen)), tt),
    )
    each (suc (suc (suc (suc (suc v))))) = tt

-- ---- no prefix order
fork_not_prefix : HasPrefixOrder long_fork → ⊥
fork_not_prefix (points, h) =
    let a = first (met long_fork points h 3 [] x 1 (Read y 0 ∷ [], fork_facts.ops 3) refl) in
    let b = unseen_y (met long_fork points h 3 (Read x 1 ∷ []) y 0 ([], fork_facts.ops 3) refl) in
    let c = second (met long_fork points h 4 [] y 2 (Read x 0 ∷ [], fork_facts.ops 4) refl) in
    let d = unseen_x (met long_fork points h 4 (Read y 2 ∷ []) x 0 ([], fork_facts.ops 4) refl) in
    b (less (place points (commit 1)) (place points (snapshot 3)) (place points (commit 2)) (place points (snapshot 4)) a c d)
  where
    less : (p q r s : ℕ) → p < q → r < s → (p < s → ⊥) → r < q
    less p q r s a c d = elim (cases_lt p s) [ inl e ↦ absurd (d e) | inr e ↦ omega (arith, a, c, e) ]

    no_zero : (t : ℕ) (key : List ℕ) → last_write key (ops_of long_fork t) ≡ Some 0 → ⊥
    no_zero t key e = elim (fork_writes t key 0 (some_written key (ops_of long_fork t) 0 e)) [
      | inl a ↦ let z = a.2 in omega (arith, z)
      | inr a ↦ let z = a.2 in omega (arith, z)
    ]

    first : IsMet long_fork points 3 x 1 → place points (commit 1) < place points (snapshot 3)
    first (inl none) = let z = none.0 in absurd (omega (arith, z))
    first (inr t) =
        let same = writes_x t.0 (1, some_written x (ops_of long_fork t.0) 1 t.1.final) in
        subst (λ u. place points (commit u) < place points (snapshot 3)) same t.1.before

    second : IsMet long_fork points 4 y 2 → place points (commit 2) < place points (snapshot 4)
    second (inl none) = let z = none.0 in absurd (omega (arith, z))
    second (inr t) =
        let same = writes_y t.0 (2, some_written y (ops_of long_fork t.0) 2 t.1.final) in
        subst (λ u. place points (commit u) < place points (snapshot 4)) same t.1.before

    unseen_y : IsMet long_fork points 3 y 0 → place points (commit 2) < place points (snapshot 3) → ⊥
    unseen_y (inl none) lt = none.1 2 wrote_y lt
    unseen_y (inr t) lt = no_zero t.0 y t.1.final

    unseen_x : IsMet long_fork points 4 x 0 → place points (commit 1) < place points (snapshot 4) → ⊥
    unseen_x (inl none) lt = none.1 1 wrote_x lt
    unseen_x (inr t) lt = no_zero t.0 x t.1.final

pub splits_prefix : SplitsPrefix
splits_prefix = (fork_causal, fork_not_prefix)
