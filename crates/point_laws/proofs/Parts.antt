-- The two parts of a transaction.
use Rattle.point_laws.proofs.Prelude.{◌≡◌, ◌⊎◌, ◌≢◌, ℕ, true, false, List, [], ◌∷◌, refl, sym, ap, ◌∙◌, subst, inl, inr, arith, ◌↔◌, list_any, AllByRecursion, Contains, bytes_eq, cases_Bool, false≢true, or_parts, or_left, bytes_eq-Decides}
use Rattle.point_laws.proofs.Prelude.{behind, Op, Read, Write, written, Map, set, Replays, EachPair, after, first_or_behind, snapshot_reads_behind, snapshot_reads, rest_behind, rest, Locks, first_writes_behind, first_writes, locked_writes}

-- ---- keys written before
pub turned : (a b : List ℕ) → bytes_eq a b ≡ true → bytes_eq b a ≡ true
turned a b e = (bytes_eq-Decides b a).1 (sym ((bytes_eq-Decides a b).0 e))

-- what is not written before and with this key is neither
abbrev Lacks : List (List ℕ) → List ℕ → Type 0
Lacks before key = list_any (bytes_eq key) before ≡ false

lacks_other : (key k : List ℕ) (before : List (List ℕ)) → Lacks (key ∷ before) k → bytes_eq key k ≡ false
lacks_other key k before e = elim (cases_Bool (bytes_eq key k)) [
  | inl t ↦ absurd (false≢true (sym e ∙ or_left (bytes_eq k key) (list_any (bytes_eq k) before) (turned key k t)))
  | inr f ↦ f
]

lacks_rest : (key k : List ℕ) (before : List (List ℕ)) → Lacks (key ∷ before) k → Lacks before k
lacks_rest key k before e = (or_parts (bytes_eq k key) (list_any (bytes_eq k) before) e).1

-- ---- operations replay exactly where the two parts do, one behind the other
parts_replay : (before : List (List ℕ)) (m from : Map) (ops : List Op) → ((key : List ℕ) → Lacks before key → m key ≡ from key) → (Replays m ops ↔ (Replays from (snapshot_reads_behind before ops) × Replays m (rest_behind before ops)))
parts_replay before m from [] f = (λ r. (tt, tt), λ r. tt)
parts_replay before m from (Read key wid ∷ ops) f =
    let later = parts_replay before m from ops f in
    elim (cases_Bool (list_any (bytes_eq key) before)) [
      | inl e ↦ rw e ((λ r. ((later.0 r.1).0, (r.0, (later.0 r.1).1))), (λ r. (r.1.0, later.1 (r.0, r.1.1))))
      | inr e ↦ let same = f key e in rw e ((λ r. ((sym same ∙ r.0, (later.0 r.1).0), (later.0 r.1).1)), (λ r. (same ∙ r.0.0, later.1 (r.0.1, r.1))))
    ]
parts_replay before m from (Write key wid ∷ ops) f =
    parts_replay (key ∷ before) (set m key wid) from ops (λ k e. (let other = lacks_other key k before e in rw other (f k (lacks_rest key k before e))))

pub replays_in_parts : (m : Map) (ops : List Op) → (Replays m ops ↔ (Replays m (snapshot_reads ops) × Replays m (rest ops)))
replays_in_parts m ops = parts_replay [] m m ops (λ key e. refl)

-- ---- the map behind them
snapshot_leaves : (before : List (List ℕ)) (m : Map) (ops : List Op) → after m (snapshot_reads_behind before ops) ≡ m
snapshot_leaves before m [] = refl
snapshot_leaves before m (Read key wid ∷ ops) = elim (cases_Bool (list_any (bytes_eq key) before)) [
  | inl e ↦ rw e (snapshot_leaves before m ops)
  | inr e ↦ rw e (snapshot_leaves before m ops)
]
snapshot_leaves before m (Write key wid ∷ ops) = snapshot_leaves (key ∷ before) m ops

rest_leaves : (before : List (List ℕ)) (m : Map) (ops : List Op) → after m (rest_behind before ops) ≡ after m ops
rest_leaves before m [] = refl
rest_leaves before m (Read key wid ∷ ops) = elim (cases_Bool (list_any (bytes_eq key) before)) [
  | inl e ↦ rw e (rest_leaves before m ops)
  | inr e ↦ rw e (rest_leaves before m ops)
]
rest_leaves before m (Write key wid ∷ ops) = rest_leaves (key ∷ before) (set m key wid) ops

pub after_snapshot : (m : Map) (ops : List Op) → after m (snapshot_reads ops) ≡ m
after_snapshot m ops = snapshot_leaves [] m ops

pub after_rest : (m : Map) (ops : List Op) → after m (rest ops) ≡ after m ops
after_rest m ops = rest_leaves [] m ops

-- ---- what they write
snapshot_wrote : (before : List (List ℕ)) (ops : List Op) → written (snapshot_reads_behind before ops) ≡ []
snapshot_wrote before [] = refl
snapshot_wrote before (Read key wid ∷ ops) = elim (cases_Bool (list_any (bytes_eq key) before)) [
  | inl e ↦ rw e (snapshot_wrote before ops)
  | inr e ↦ rw e (snapshot_wrote before ops)
]
snapshot_wrote before (Write key wid ∷ ops) = snapshot_wrote (key ∷ before) ops

rest_wrote : (before : List (List ℕ)) (ops : List Op) → written (rest_behind before ops) ≡ written ops
rest_wrote before [] = refl
rest_wrote before (Read key wid ∷ ops) = elim (cases_Bool (list_any (bytes_eq key) before)) [
  | inl e ↦ rw e (rest_wrote before ops)
  | inr e ↦ rw e (rest_wrote before ops)
]
rest_wrote before (Write key wid ∷ ops) = ap (λ l. wid ∷ l) (rest_wrote (key ∷ before) ops)

pub written_snapshot : (ops : List Op) → written (snapshot_reads ops) ≡ []
written_snapshot ops = snapshot_wrote [] ops

pub written_rest : (ops : List Op) → written (rest ops) ≡ written ops
written_rest ops = rest_wrote [] ops

-- ---- what holds of each operation holds of each of theirs
snapshot_each : (P : Op → Type 0) (before : List (List ℕ)) (ops : List Op) → AllByRecursion P ops → AllByRecursion P (snapshot_reads_behind before ops)
snapshot_each P before [] h = tt
snapshot_each P before (Read key wid ∷ ops) h = elim (cases_Bool (list_any (bytes_eq key) before)) [
  | inl e ↦ rw e (snapshot_each P before ops h.1)
  | inr e ↦ rw e (h.0, snapshot_each P before ops h.1)
]
snapshot_each P before (Write key wid ∷ ops) h = snapshot_each P (key ∷ before) ops h.1

rest_each : (P : Op → Type 0) (before : List (List ℕ)) (ops : List Op) → AllByRecursion P ops → AllByRecursion P (rest_behind before ops)
rest_each P before [] h = tt
rest_each P before (Read key wid ∷ ops) h = elim (cases_Bool (list_any (bytes_eq key) before)) [
  | inl e ↦ rw e (h.0, rest_each P before ops h.1)
  | inr e ↦ rw e (rest_each P before ops h.1)
]
rest_each P before (Write key wid ∷ ops) h = (h.0, rest_each P (key ∷ before) ops h.1)

first_each : (P : Op → Type 0) (before : List (List ℕ)) (ops : List Op) → AllByRecursion P ops → AllByRecursion (λ q. P (Write q.0 q.1)) (first_writes_behind before ops)
first_each P before [] h = tt
first_each P before (Read key wid ∷ ops) h = first_each P before ops h.1
first_each P before (Write key wid ∷ ops) h = elim (cases_Bool (list_any (bytes_eq key) before)) [
  | inl e ↦ rw e (first_each P before ops h.1)
  | inr e ↦ rw e (h.0, first_each P (key ∷ before) ops h.1)
]

pub each_snapshot : (P : Op → Type 0) (ops : List Op) → AllByRecursion P ops → AllByRecursion P (snapshot_reads ops)
each_snapshot P ops h = snapshot_each P [] ops h

pub each_rest : (P : Op → Type 0) (ops : List Op) → AllByRecursion P ops → AllByRecursion P (rest ops)
each_rest P ops h = rest_each P [] ops h

pub each_first : (P : Op → Type 0) (ops : List Op) → AllByRecursion P ops → AllByRecursion (λ q. P (Write q.0 q.1)) (first_writes ops)
each_first P ops h = first_each P [] ops h

-- ---- each key that is written stands once
abbrev pub OtherKey : List ℕ × ℕ → List ℕ × ℕ → Type 0
OtherKey a b = a.0 ≢ b.0

first_lack : (before : List (List ℕ)) (ops : List Op) → AllByRecursion (λ (q : List ℕ × ℕ). Lacks before q.0) (first_writes_behind before ops)
first_lack before [] = tt
first_lack before (Read key wid ∷ ops) = first_lack before ops
first_lack before (Write key wid ∷ ops) = elim (cases_Bool (list_any (bytes_eq key) before)) [
  | inl e ↦ rw e (first_lack before ops)
  | inr e ↦ rw e (e, weaker (first_writes_behind (key ∷ before) ops) (first_lack (key ∷ before) ops))
]
  where
    weaker : (qs : List (List ℕ × ℕ)) → AllByRecursion (λ (q : List ℕ × ℕ). Lacks (key ∷ before) q.0) qs → AllByRecursion (λ (q : List ℕ × ℕ). Lacks before q.0) qs
    weaker [] h = tt
    weaker (q ∷ qs) h = (lacks_rest key q.0 before h.0, weaker qs h.1)

other_keys : (key : List ℕ) (wid : ℕ) (before : List (List ℕ)) (qs : List (List ℕ × ℕ)) → AllByRecursion (λ (q : List ℕ × ℕ). Lacks (key ∷ before) q.0) qs → AllByRecursion (OtherKey (key, wid)) qs
other_keys key wid before [] h = tt
other_keys key wid before (q ∷ qs) h =
    ((λ e. false≢true (sym (lacks_other key q.0 before h.0) ∙ (bytes_eq-Decides key q.0).1 e)), other_keys key wid before qs h.1)

first_once : (before : List (List ℕ)) (ops : List Op) → EachPair OtherKey (first_writes_behind before ops)
first_once before [] = tt
first_once before (Read key wid ∷ ops) = first_once before ops
first_once before (Write key wid ∷ ops) = elim (cases_Bool (list_any (bytes_eq key) before)) [
  | inl e ↦ rw e (first_once before ops)
  | inr e ↦ rw e (other_keys key wid before (first_writes_behind (key ∷ before) ops) (first_lack (key ∷ before) ops), first_once (key ∷ before) ops)
]

pub keys_once : (ops : List Op) → EachPair OtherKey (first_writes ops)
keys_once ops = first_once [] ops

-- ---- each key that is written stands there
pub record FirstWrite (ops : List Op) (key : List ℕ) : Type 0 where
  pub wid : ℕ
  pub has : Contains (first_writes ops) (key, wid)

record FirstBehind (before : List (List ℕ)) (ops : List Op) (key : List ℕ) : Type 0 where
  pub wid : ℕ
  pub has : Contains (first_writes_behind before ops) (key, wid)

first_has : (before : List (List ℕ)) (ops : List Op) (key : List ℕ) (wid : ℕ) → Lacks before key → Contains ops (Write key wid) → FirstBehind before ops key
first_has before [] key wid lacks c = absurd (omega (arith, c.1))
first_has before (Read k w ∷ ops) key wid lacks c = elim (first_or_behind (Read k w) ops (Write key wid) c) [
  | inl e ↦ cc
  | inr d ↦ let r = first_has before ops key wid lacks d in record { wid = r.wid; has = r.has }
]
first_has before (Write k w ∷ ops) key wid lacks c = elim (cases_Bool (bytes_eq key k)) [
  | inl same ↦
      let is : key ≡ k = (bytes_eq-Decides key k).0 same in
      let new : Lacks before k = subst (Lacks before) is lacks in
      record { wid = w; has = rw new (0, omega arith, ap (λ l. (l, w)) (sym is)) }
  | inr other ↦
      let d = later other in
      elim (cases_Bool (list_any (bytes_eq k) before)) [
        | inl e ↦ let r = first_has before ops key wid lacks d in record { wid = r.wid; has = rw e r.has }
        | inr e ↦
            let no_more : Lacks (k ∷ before) key = rw other lacks in
            let r = first_has (k ∷ before) ops key wid no_more d in
            record { wid = r.wid; has = rw e (behind (k, w) (first_writes_behind (k ∷ before) ops) (key, r.wid) r.has) }
      ]
]
  where
    key_of_write : Write k w ≡ Write key wid → k ≡ key
    key_of_write e = cc

    later : bytes_eq key k ≡ false → Contains ops (Write key wid)
    later other = elim (first_or_behind (Write k w) ops (Write key wid) c) [
      | inl e ↦ absurd (false≢true (sym other ∙ (bytes_eq-Decides key k).1 (sym (key_of_write e))))
      | inr d ↦ d
    ]

pub first_of_key : (ops : List Op) (key : List ℕ) (wid : ℕ) → Contains ops (Write key wid) → FirstWrite ops key
first_of_key ops key wid c = let r = first_has [] ops key wid refl c in record { wid = r.wid; has = r.has }

-- ---- the same of the writes that take locks
pub each_locked : (P : Op → Type 0) (locks : Locks) (ops : List Op) → AllByRecursion P ops → AllByRecursion (λ q. P (Write q.0 q.1)) (locked_writes locks ops)
each_locked P locks ops h = elim (cases_Bool locks.taken) [
  | inl e ↦ rw e (each_first P ops h)
  | inr e ↦ rw e tt
]

pub locked_once : (locks : Locks) (ops : List Op) → EachPair OtherKey (locked_writes locks ops)
locked_once locks ops = elim (cases_Bool locks.taken) [
  | inl e ↦ rw e (keys_once ops)
  | inr e ↦ rw e tt
]

pub record LockedWrite (locks : Locks) (ops : List Op) (key : List ℕ) : Type 0 where
  pub wid : ℕ
  pub has : Contains (locked_writes locks ops) (key, wid)

pub locked_of_key : (locks : Locks) (ops : List Op) (key : List ℕ) (wid : ℕ) → locks.taken ≡ true → Contains ops (Write key wid) → LockedWrite locks ops key
locked_of_key locks ops key wid e c = let r = first_of_key ops key wid c in record { wid = r.wid; has = rw e r.has }

pub taken_where_locked : (locks : Locks) (ops : List Op) (q : List ℕ × ℕ) → Contains (locked_writes locks ops) q → locks.taken ≡ true
taken_where_locked locks ops q c = elim (cases_Bool locks.taken) [
  | inl e ↦ e
  | inr e ↦ absurd (let none : Contains [] q = rw e at c in omega (arith, none.1))
]

pub none_locked : (locks : Locks) (ops : List Op) → first_writes_behind [] ops ≡ [] → locked_writes locks ops ≡ []
none_locked locks ops none = elim (cases_Bool locks.taken) [
  | inl e ↦ rw e none
  | inr e ↦ rw e refl
]

-- ---- each operation is in one of the parts
in_parts : (before : List (List ℕ)) (ops : List Op) (o : Op) → Contains ops o → Contains (snapshot_reads_behind before ops) o ⊎ Contains (rest_behind before ops) o
in_parts before [] o c = absurd (omega (arith, c.1))
in_parts before (Read key wid ∷ ops) o c = elim (cases_Bool (list_any (bytes_eq key) before)) [
  | inl e ↦ rw e (elim (first_or_behind (Read key wid) ops o c) [
    | inl same ↦ inr (0, omega arith, same)
    | inr d ↦ elim (in_parts before ops o d) [
      | inl a ↦ inl a
      | inr a ↦ inr (behind (Read key wid) (rest_behind before ops) o a)
    ]
  ])
  | inr e ↦ rw e (elim (first_or_behind (Read key wid) ops o c) [
    | inl same ↦ inl (0, omega arith, same)
    | inr d ↦ elim (in_parts before ops o d) [
      | inl a ↦ inl (behind (Read key wid) (snapshot_reads_behind before ops) o a)
      | inr a ↦ inr a
    ]
  ])
]
in_parts before (Write key wid ∷ ops) o c = elim (first_or_behind (Write key wid) ops o c) [
  | inl same ↦ inr (0, omega arith, same)
  | inr d ↦ elim (in_parts (key ∷ before) ops o d) [
    | inl a ↦ inl a
    | inr a ↦ inr (behind (Write key wid) (rest_behind (key ∷ before) ops) o a)
  ]
]

pub in_one : (ops : List Op) (o : Op) → Contains ops o → Contains (snapshot_reads ops) o ⊎ Contains (rest ops) o
in_one ops o c = in_parts [] ops o c
