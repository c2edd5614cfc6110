-- What the writes of each key say of the operations.
use Rattle.level_checks.proofs.Prelude.{◌≡◌, ◌⊎◌, ℕ, ◌<◌, true, List, [], ◌∷◌, ◌++◌, Option, Some, None, refl, sym, ap, ◌∙◌, subst, inl, inr, arith, if◌then◌else◌, AllByRecursion, Contains, bytes_eq, cases_Bool, bytes_eq-Decides, same_Some}
use Rattle.level_checks.proofs.Prelude.{append_assoc, append_none, member, behind, Op, Read, Write, last_write, Look, Chains, pushed, IsOwn, FoundIn, IsFound, with_ops, NoneSeen, AreFound}
use Rattle.log_laws.proofs.Lists.{first_or_behind}
use Rattle.serializability.specs.Reads.{later}
use Rattle.serializability.proofs.Replays.{later_none}

-- ---- with operations
same_key : (key : List ℕ) → bytes_eq key key ≡ true
same_key key = (bytes_eq-Decides key key).1 refl

pub kept_with : (p : ℕ) (ops : List Op) (chains : Chains) (key : List ℕ) (x : ℕ × ℕ) → Contains (chains key) x → Contains (with_ops p ops chains key) x
kept_with p [] chains key x c = c
kept_with p (Read k w ∷ ops) chains key x c = kept_with p ops chains key x c
kept_with p (Write k w ∷ ops) chains key x c = kept_with p ops (pushed k p w chains) key x (elim (cases_Bool (bytes_eq k key)) [
  | inl t ↦ rw t (behind (p, w) (chains key) x c)
  | inr f ↦ rw f c
])

pub written_with : (p : ℕ) (ops : List Op) (chains : Chains) (key : List ℕ) (wid : ℕ) → Contains ops (Write key wid) → Contains (with_ops p ops chains key) (p, wid)
written_with p [] chains key wid c = absurd (omega (arith, c.1))
written_with p (Read k w ∷ ops) chains key wid c = elim (first_or_behind (Read k w) ops (Write key wid) c) [
  | inl e ↦ cc
  | inr d ↦ written_with p ops chains key wid d
]
written_with p (Write k w ∷ ops) chains key wid c = elim (first_or_behind (Write k w) ops (Write key wid) c) [
  | inl e ↦
      let same : k ≡ key = cc in
      let wids : w ≡ wid = cc in
      kept_with p ops (pushed k p w chains) key (p, wid) (subst (λ l. Contains (pushed l p w chains key) (p, wid)) (sym same) (rw (same_key key) (0, omega arith, ap (λ n. (p, n)) wids)))
  | inr d ↦ written_with p ops (pushed k p w chains) key wid d
]

-- what holds of each write of the key, so far and in the operations
pub each_with : (P : List ℕ → ℕ × ℕ → Type 0) (p : ℕ) (ops : List Op) (chains : Chains) → ((k : List ℕ) (w : ℕ) → Contains ops (Write k w) → P k (p, w)) → ((k : List ℕ) → AllByRecursion (P k) (chains k)) → (key : List ℕ) → AllByRecursion (P key) (with_ops p ops chains key)
each_with P p [] chains f h key = h key
each_with P p (Read k w ∷ ops) chains f h key = each_with P p ops chains (λ l v c. f l v (behind (Read k w) ops (Write l v) c)) h key
each_with P p (Write k w ∷ ops) chains f h key =
    each_with P p ops (pushed k p w chains) (λ l v c. f l v (behind (Write k w) ops (Write l v) c)) more key
  where
    more : (l : List ℕ) → AllByRecursion (P l) (pushed k p w chains l)
    more l = elim (cases_Bool (bytes_eq k l)) [
      | inl t ↦ rw t (f l w (0, omega arith, ap (λ m. Write m w) ((bytes_eq-Decides k l).0 t)), h l)
      | inr e ↦ rw e (h l)
    ]

-- ---- with the last write
some_later : (a b : Option ℕ) (w : ℕ) → later a b ≡ Some w → ((b ≡ None) × (a ≡ Some w)) ⊎ (b ≡ Some w)
some_later a None w e = inl (refl, e)
some_later a (Some v) w e = inr e

pub none_written : (p : ℕ) (ops : List Op) (chains : Chains) (key : List ℕ) → last_write key ops ≡ None → with_ops p ops chains key ≡ chains key
none_written p [] chains key e = refl
none_written p (Read k w ∷ ops) chains key e = none_written p ops chains key e
none_written p (Write k w ∷ ops) chains key e =
    let none = later_none (if bytes_eq k key then Some w else None) (last_write key ops) e in
    none_written p ops (pushed k p w chains) key none.1 ∙ (elim (cases_Bool (bytes_eq k key)) [
      | inl t ↦ absurd (let wrong = rw t at none.0 in cc)
      | inr f ↦ rw f refl
    ])

pub last_first : (p : ℕ) (ops : List Op) (chains : Chains) (key : List ℕ) (w : ℕ) → last_write key ops ≡ Some w → (more : List (ℕ × ℕ)) × (with_ops p ops chains key ≡ (p, w) ∷ more)
last_first p [] chains key w e = cc
last_first p (Read k v ∷ ops) chains key w e = last_first p ops chains key w e
last_first p (Write k v ∷ ops) chains key w e = elim (some_later (if bytes_eq k key then Some v else None) (last_write key ops) w e) [
  | inr more ↦ last_first p ops (pushed k p v chains) key w more
  | inl here ↦ elim (cases_Bool (bytes_eq k key)) [
    | inl t ↦
        let same : v ≡ w = same_Some v w (rw t at here.1) in
        (chains key, none_written p ops (pushed k p v chains) key here.0 ∙ rw t (ap (λ n. (p, n) ∷ chains key) same))
    | inr f ↦ absurd (let wrong = rw f at here.1 in cc)
  ]
]

-- ---- what is found in them
pub found_member : (xs : List (ℕ × ℕ)) (wid t : ℕ) → FoundIn xs wid t → ((t ≡ 0) × (wid ≡ 0)) ⊎ Contains xs (t, wid)
found_member [] wid t f = inl f
found_member ((q, w) ∷ xs) wid t (inl e) = inr (0, omega arith, ap (λ n. (n, w)) e.0 ∙ ap (λ n. (t, n)) e.1)
found_member (x ∷ xs) wid t (inr f) = elim (found_member xs wid t f.1) [
  | inl e ↦ inl e
  | inr c ↦ inr (behind x xs (t, wid) c)
]

pub found_before : (p : ℕ) (ops : List Op) (chains : Chains) (key : List ℕ) (wid t : ℕ) → t < p → FoundIn (with_ops p ops chains key) wid t → FoundIn (chains key) wid t
found_before p [] chains key wid t lt f = f
found_before p (Read k w ∷ ops) chains key wid t lt f = found_before p ops chains key wid t lt f
found_before p (Write k w ∷ ops) chains key wid t lt f = less (found_before p ops (pushed k p w chains) key wid t lt f)
  where
    less : FoundIn (pushed k p w chains key) wid t → FoundIn (chains key) wid t
    less g = elim (cases_Bool (bytes_eq k key)) [
      | inl e ↦ peel (rw e at g)
      | inr e ↦ rw e at g
    ]
      where
        peel : FoundIn ((p, w) ∷ chains key) wid t → FoundIn (chains key) wid t
        peel (inl same) = absurd (omega (arith, lt, same.0))
        peel (inr h) = h.1

-- ---- the reads of a transaction
pub record ReadFound (of : ℕ → ℕ) (p : ℕ) (seen : List Look → ℕ → ℕ → Type 0) (chains : Chains) (front : List Look) (key : List ℕ) (wid : ℕ) (look : Look) : Type 0 where
  pub found : IsFound p (chains key) wid look.source
  pub none : NoneSeen of (seen front) look.source (chains key)

-- the looks of the first operations, and what is found behind them
pub record Split (of : ℕ → ℕ) (p : ℕ) (seen : List Look → ℕ → ℕ → Type 0) (chains : Chains) (before rest : List Op) (front looks : List Look) : Type 0 where
  pub first : List Look
  pub more : List Look
  pub is : looks ≡ first ++ more
  pub here : AreFound of p seen chains before front first
  pub there : AreFound of p seen (with_ops p before chains) rest (front ++ first) more

pub found_split : (of : ℕ → ℕ) (p : ℕ) (seen : List Look → ℕ → ℕ → Type 0) (chains : Chains) (before rest : List Op) (front looks : List Look) → AreFound of p seen chains (before ++ rest) front looks → Split of p seen chains before rest front looks
found_split of p seen chains [] rest front looks f = record { first = []; more = looks; is = refl; here = tt; there = subst (λ l. AreFound of p seen chains rest l looks) (append_none front) f }
found_split of p seen chains (o ∷ before) rest front [] f = absurd (none_left o f)
  where
    none_left : (o : Op) → AreFound of p seen chains (o ∷ (before ++ rest)) front [] → ⊥
    none_left (Read k w) g = g
    none_left (Write k w) g = g
found_split of p seen chains (Read k w ∷ before) rest front (look ∷ looks) f =
    let r = found_split of p seen chains before rest (front ++ look ∷ []) looks f.1 in
    record { first = look ∷ r.first; more = r.more; is = ap (λ l. look ∷ l) r.is; here = (f.0, r.here); there = subst (λ l. AreFound of p seen (with_ops p before chains) rest l r.more) (append_assoc front (look ∷ []) r.first) r.there }
found_split of p seen chains (Write k w ∷ before) rest front (look ∷ looks) f =
    let r = found_split of p seen (pushed k p w chains) before rest (front ++ look ∷ []) looks f in
    record { first = look ∷ r.first; more = r.more; is = ap (λ l. look ∷ l) r.is; here = r.here; there = subst (λ l. AreFound of p seen (with_ops p before (pushed k p w chains)) rest l r.more) (append_assoc front (look ∷ []) r.first) r.there }

-- each read is an own one of a write among these operations or what was before, or has its look
pub record Source (P : List ℕ → ℕ × ℕ → Type 0) (p : ℕ) (looks : List Look) (key : List ℕ) (wid : ℕ) : Type 0 where
  pub look : Look
  pub among : Contains looks look
  pub below : look.source < p
  pub is : ((look.source ≡ 0) × (wid ≡ 0)) ⊎ P key (look.source, wid)

pub read_source : (of : ℕ → ℕ) (P : List ℕ → ℕ × ℕ → Type 0) (p : ℕ) (seen : List Look → ℕ → ℕ → Type 0) (chains : Chains) (ops : List Op) (front looks : List Look) → ((k : List ℕ) (w : ℕ) → Contains ops (Write k w) → P k (p, w)) → ((k : List ℕ) → AllByRecursion (P k) (chains k))
    → AreFound of p seen chains ops front looks → (key : List ℕ) (wid : ℕ) → Contains ops (Read key wid) → P key (p, wid) ⊎ Source P p looks key wid
read_source of P p seen chains [] front looks f h are key wid c = absurd (omega (arith, c.1))
read_source of P p seen chains (Read k w ∷ ops) front [] f h are key wid c = absurd are
read_source of P p seen chains (Write k w ∷ ops) front [] f h are key wid c = absurd are
read_source of P p seen chains (Read k w ∷ ops) front (look ∷ looks) f h are key wid c = elim (first_or_behind (Read k w) ops (Read key wid) c) [
  | inl e ↦ here (let keys : k ≡ key = cc in keys) (let wids : w ≡ wid = cc in wids) are.0
  | inr d ↦ elim (read_source of P p seen chains ops (front ++ look ∷ []) looks (λ l v x. f l v (behind (Read k w) ops (Write l v) x)) h are.1 key wid d) [
    | inl own ↦ inl own
    | inr s ↦ inr (record { look = s.look; among = behind look looks s.look s.among; below = s.below; is = s.is })
  ]
]
  where
    here : k ≡ key → w ≡ wid → (IsOwn (chains k) p w ⊎ (IsFound p (chains k) w look.source × NoneSeen of (seen front) look.source (chains k))) → P key (p, wid) ⊎ Source P p (look ∷ looks) key wid
    here keys wids (inl own) = inl (subst (λ l. P l (p, wid)) keys (subst (λ v. P k (p, v)) wids (member (P k) (chains k) (p, w) (h k) (subst (λ l. Contains l (p, w)) (sym own.1) (0, omega arith, refl)))))
    here keys wids (inr found) = inr (record {
      look = look;
      among = (0, omega arith, refl);
      below = found.0.below;
      is = subst (λ l. ((look.source ≡ 0) × (wid ≡ 0)) ⊎ P l (look.source, wid)) keys (subst (λ v. ((look.source ≡ 0) × (v ≡ 0)) ⊎ P k (look.source, v)) wids
          (elim (found_member (chains k) w look.source found.0.found) [
            | inl e ↦ inl e
            | inr d ↦ inr (member (P k) (chains k) (look.source, w) (h k) d)
          ]));
    })
read_source of P p seen chains (Write k w ∷ ops) front (look ∷ looks) f h are key wid c = elim (first_or_behind (Write k w) ops (Read key wid) c) [
  | inl e ↦ cc
  | inr d ↦ elim (read_source of P p seen (pushed k p w chains) ops (front ++ look ∷ []) looks (λ l v x. f l v (behind (Write k w) ops (Write l v) x)) more are key wid d) [
    | inl own ↦ inl own
    | inr s ↦ inr (record { look = s.look; among = behind look looks s.look s.among; below = s.below; is = s.is })
  ]
]
  where
    more : (l : List ℕ) → AllByRecursion (P l) (pushed k p w chains l)
    more l = each_with P p (Write k w ∷ []) chains (λ m v x. f m v (of_first m v x)) h l
      where
        of_first : (m : List ℕ) (v : ℕ) → Contains (Write k w ∷ []) (Write m v) → Contains (Write k w ∷ ops) (Write m v)
        of_first m v x = elim (first_or_behind (Write k w) [] (Write m v) x) [
          | inl e ↦ (0, omega arith, e)
          | inr y ↦ absurd (omega (arith, y.1))
        ]
