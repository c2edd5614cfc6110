-- The locks of a log's nodes: what new names give, and the replay of the split log as that of the log and that of the locks.
use Rattle.point_laws.proofs.Prelude.{◌≡◌, ◌≢◌, ℕ, Bool, true, false, not, List, [], ◌∷◌, ◌++◌, map, refl, sym, ap, ◌∙◌, subst, inl, inr, arith, append-nil, ◌↔◌, filter, flat_map, list_any, AllByRecursion, Contains, bytes_eq, cases_Bool}
use Rattle.point_laws.proofs.Prelude.{or_from, filter-append, bytes_eq-Decides, behind, mapped, ClientSession, key_of, Op, Read, Write, Apart, Contains-from_Has, each_from_map, ops_in, written, ops_of, initial, Replays, member, each_member}
use Rattle.point_laws.proofs.Prelude.{each_weaker, any_member, themselves, Has-written, EachPair, of_mapped, none_pass, all_pass, Point, snapshot, commit, snapshot_reads, rest, ops_at, Locks, HasKey, HasWritten, AreFresh, locked_writes}
use Rattle.point_laws.proofs.Prelude.{take_lock, find_lock, start_ops, end_ops}
use Rattle.point_laws.proofs.Parts.{each_snapshot, each_rest, each_locked, taken_where_locked, locked_once, locked_of_key, OtherKey}
use Rattle.point_laws.proofs.Apart.{on, off, by_kind, kind_of_flat}
use Rattle.point_laws.proofs.Intervals.{Taken, takes, finds, lock_ops, AreOwn, Shares}
use Rattle.point_laws.proofs.Nodes.{op_in_log, one_node}

-- ---- keys and identities of the log
pub has_key : (ss : List ClientSession) (o : Op) → Contains (ops_in ss) o → HasKey ss (key_of o)
has_key ss o c = mapped key_of (ops_in ss) o c

pub has_written : (ss : List ClientSession) (key : List ℕ) (wid : ℕ) → Contains (ops_in ss) (Write key wid) → HasWritten ss wid
has_written ss key wid c = Contains-from_Has (written (ops_in ss)) wid (Has-written (ops_in ss) key wid c)

-- the key is one of the log's
abbrev pub own_key : List ClientSession → List ℕ → Bool
own_key ss key = list_any (bytes_eq key) (map key_of (ops_in ss))

own : (ss : List ClientSession) (o : Op) → Contains (ops_in ss) o → on (own_key ss) o ≡ true
own ss o c = any_member (bytes_eq (key_of o)) (map key_of (ops_in ss)) (key_of o) (has_key ss o c) ((bytes_eq-Decides (key_of o) (key_of o)).1 refl)

none_equal : (key : List ℕ) (keys : List (List ℕ)) → ((k : List ℕ) → Contains keys k → key ≢ k) → list_any (bytes_eq key) keys ≡ false
none_equal key [] h = refl
none_equal key (k ∷ keys) h =
    or_from (bytes_eq key k) (list_any (bytes_eq key) keys) other (none_equal key keys (λ l c. h l (behind k keys l c)))
  where
    other : bytes_eq key k ≡ false
    other = elim (cases_Bool (bytes_eq key k)) [
      | inl t ↦ absurd (h k (0, omega arith, refl) ((bytes_eq-Decides key k).0 t))
      | inr f ↦ f
    ]

lock_is_none : (ss : List ClientSession) (locks : Locks) → AreFresh locks ss → (key : List ℕ) → HasKey ss key → own_key ss (locks.key key) ≡ false
lock_is_none ss locks fresh key h = none_equal (locks.key key) (map key_of (ops_in ss)) (λ k c. fresh.new_key key k h c)

-- ---- the locks of each node
abbrev pub name : Locks → List ℕ × ℕ → List ℕ × ℕ
name locks q = (locks.key q.0, locks.identity q.1)

abbrev pub named : Locks → List ClientSession → ℕ → Taken
named locks ss v = map (name locks) (locked_writes locks (ops_of ss v))

takes_named : (locks : Locks) (qs : Taken) → map (take_lock locks) qs ≡ takes (map (name locks) qs)
takes_named locks [] = refl
takes_named locks (q ∷ qs) = ap (λ l. Write (locks.key q.0) (locks.identity q.1) ∷ l) (takes_named locks qs)

finds_named : (locks : Locks) (qs : Taken) → map (find_lock locks) qs ≡ finds (map (name locks) qs)
finds_named locks [] = refl
finds_named locks (q ∷ qs) = ap (λ l. Read (locks.key q.0) (locks.identity q.1) ∷ l) (finds_named locks qs)

-- each first write is a write of the node, and of the log
pub first_is : (ss : List ClientSession) (locks : Locks) (v : ℕ) (q : List ℕ × ℕ) → Contains (locked_writes locks (ops_of ss v)) q → Contains (ops_of ss v) (Write q.0 q.1)
first_is ss locks v q c =
    let P : Op → Type 0 = Contains (ops_of ss v) in
    member (λ (r : List ℕ × ℕ). P (Write r.0 r.1)) (locked_writes locks (ops_of ss v)) q (each_locked P locks (ops_of ss v) (themselves (ops_of ss v))) c

in_log : (ss : List ClientSession) (locks : Locks) (v : ℕ) (q : List ℕ × ℕ) → Contains (locked_writes locks (ops_of ss v)) q → Contains (ops_in ss) (Write q.0 q.1)
in_log ss locks v q c = member (Contains (ops_in ss)) (ops_of ss v) (Write q.0 q.1) (op_in_log ss v) (first_is ss locks v q c)

pub first_key : (ss : List ClientSession) (locks : Locks) (v : ℕ) (q : List ℕ × ℕ) → Contains (locked_writes locks (ops_of ss v)) q → HasKey ss q.0
first_key ss locks v q c = has_key ss (Write q.0 q.1) (in_log ss locks v q c)

first_wid : (ss : List ClientSession) (locks : Locks) (v : ℕ) (q : List ℕ × ℕ) → Contains (locked_writes locks (ops_of ss v)) q → HasWritten ss q.1
first_wid ss locks v q c = has_written ss q.0 q.1 (in_log ss locks v q c)

-- they are taken under identities of their own
pub are_own : (ss : List ClientSession) (locks : Locks) → Apart (written (ops_in ss)) → AreFresh locks ss → AreOwn (named locks ss)
are_own ss locks apart fresh u v key other wid c d =
    let q = of_mapped (name locks) (locked_writes locks (ops_of ss u)) (key, wid) c in
    let r = of_mapped (name locks) (locked_writes locks (ops_of ss v)) (other, wid) d in
    let same : locks.identity q.0.1 ≡ locks.identity r.0.1 = ap (λ p. p.1) q.2 ∙ sym (ap (λ p. p.1) r.2) in
    let one : q.0.1 ≡ r.0.1 = fresh.one_identity q.0.1 r.0.1 (first_wid ss locks u q.0 q.1) (first_wid ss locks v r.0 r.1) same in
    one_node ss apart u v q.0.1 (Has-written (ops_of ss u) q.0.0 q.0.1 (first_is ss locks u q.0 q.1)) (Has-written (ops_of ss v) r.0.0 q.0.1 (subst (λ w. Contains (ops_of ss v) (Write r.0.0 w)) (sym one) (first_is ss locks v r.0 r.1)))

-- each lock once
once_named : (ss : List ClientSession) (locks : Locks) → AreFresh locks ss → (qs : Taken) → AllByRecursion (λ (q : List ℕ × ℕ). HasKey ss q.0) qs → EachPair OtherKey qs → EachPair OtherKey (map (name locks) qs)
once_named ss locks fresh [] k h = tt
once_named ss locks fresh (q ∷ qs) k h = (each_from_map (OtherKey (name locks q)) (name locks) qs (each_member (λ (r : List ℕ × ℕ). OtherKey (name locks q) (name locks r)) qs others), once_named ss locks fresh qs k.1 h.1)
  where
    others : (r : List ℕ × ℕ) → Contains qs r → OtherKey (name locks q) (name locks r)
    others r c e = member (OtherKey q) qs r h.0 c (fresh.one_key q.0 r.0 k.0 (member (λ (p : List ℕ × ℕ). HasKey ss p.0) qs r k.1 c) e)

pub each_once : (ss : List ClientSession) (locks : Locks) → AreFresh locks ss → (v : ℕ) → EachPair OtherKey (named locks ss v)
each_once ss locks fresh v =
    once_named ss locks fresh (locked_writes locks (ops_of ss v)) (each_member (λ (q : List ℕ × ℕ). HasKey ss q.0) (locked_writes locks (ops_of ss v)) (first_key ss locks v)) (locked_once locks (ops_of ss v))

-- ---- two nodes share a lock exactly where they write one key
pub record WriteOne (ss : List ClientSession) (locks : Locks) (u v : ℕ) : Type 0 where
  pub taken : locks.taken ≡ true
  pub key : List ℕ
  pub one : ℕ
  pub other : ℕ
  pub has : Contains (ops_of ss u) (Write key one)
  pub shares : Contains (ops_of ss v) (Write key other)

pub write_where_shares : (ss : List ClientSession) (locks : Locks) → AreFresh locks ss → (u v : ℕ) → Shares (named locks ss) u v → WriteOne ss locks u v
write_where_shares ss locks fresh u v s =
    let q = of_mapped (name locks) (locked_writes locks (ops_of ss u)) (s.key, s.one) s.has in
    let r = of_mapped (name locks) (locked_writes locks (ops_of ss v)) (s.key, s.other) s.shares in
    let same : locks.key q.0.0 ≡ locks.key r.0.0 = ap (λ p. p.0) q.2 ∙ sym (ap (λ p. p.0) r.2) in
    let one : q.0.0 ≡ r.0.0 = fresh.one_key q.0.0 r.0.0 (first_key ss locks u q.0 q.1) (first_key ss locks v r.0 r.1) same in
    record {
      taken = taken_where_locked locks (ops_of ss u) q.0 q.1;
      key = q.0.0;
      one = q.0.1;
      other = r.0.1;
      has = first_is ss locks u q.0 q.1;
      shares = subst (λ k. Contains (ops_of ss v) (Write k r.0.1)) (sym one) (first_is ss locks v r.0 r.1);
    }

pub shares_where_write : (ss : List ClientSession) (locks : Locks) (u v : ℕ) (key : List ℕ) (x y : ℕ) → locks.taken ≡ true → Contains (ops_of ss u) (Write key x) → Contains (ops_of ss v) (Write key y) → Shares (named locks ss) u v
shares_where_write ss locks u v key x y taken c d =
    let a = locked_of_key locks (ops_of ss u) key x taken c in
    let b = locked_of_key locks (ops_of ss v) key y taken d in
    record {
      key = locks.key key;
      one = locks.identity a.wid;
      other = locks.identity b.wid;
      has = mapped (name locks) (locked_writes locks (ops_of ss u)) (key, a.wid) a.has;
      shares = mapped (name locks) (locked_writes locks (ops_of ss v)) (key, b.wid) b.has;
    }

-- ---- what is replayed at a point of the split log: what is at one of the log, and locks
abbrev pub split_ops : Locks → List ClientSession → Point → List Op
split_ops locks ss (snapshot v) = start_ops locks (ops_of ss v)
split_ops locks ss (commit v) = end_ops locks (ops_of ss v)

all_on : (ss : List ClientSession) (ops : List Op) → AllByRecursion (λ o. on (own_key ss) o ≡ true) ops → (filter (on (own_key ss)) ops ≡ ops) × (filter (off (own_key ss)) ops ≡ [])
all_on ss ops h =
    (all_pass (on (own_key ss)) ops h, (none_pass (off (own_key ss)) ops (each_weaker (λ o. on (own_key ss) o ≡ true) (λ o. off (own_key ss) o ≡ false) (λ o e. ap not e) ops h)).0)

all_off : (ss : List ClientSession) (ops : List Op) → AllByRecursion (λ o. on (own_key ss) o ≡ false) ops → (filter (on (own_key ss)) ops ≡ []) × (filter (off (own_key ss)) ops ≡ ops)
all_off ss ops h = none_pass (on (own_key ss)) ops h

ops_on : (ss : List ClientSession) (v : ℕ) → AllByRecursion (λ o. on (own_key ss) o ≡ true) (ops_of ss v)
ops_on ss v = each_weaker (Contains (ops_in ss)) (λ o. on (own_key ss) o ≡ true) (own ss) (ops_of ss v) (op_in_log ss v)

locks_off : (ss : List ClientSession) (locks : Locks) → AreFresh locks ss → (qs : Taken) → AllByRecursion (λ (q : List ℕ × ℕ). HasKey ss q.0) qs → AllByRecursion (λ o. on (own_key ss) o ≡ false) (takes (map (name locks) qs)) × AllByRecursion (λ o. on (own_key ss) o ≡ false) (finds (map (name locks) qs))
locks_off ss locks fresh [] h = (tt, tt)
locks_off ss locks fresh (q ∷ qs) h =
    let none = lock_is_none ss locks fresh q.0 h.0 in let later = locks_off ss locks fresh qs h.1 in ((none, later.0), (none, later.1))

named_off : (ss : List ClientSession) (locks : Locks) → AreFresh locks ss → (v : ℕ) → AllByRecursion (λ o. on (own_key ss) o ≡ false) (takes (named locks ss v)) × AllByRecursion (λ o. on (own_key ss) o ≡ false) (finds (named locks ss v))
named_off ss locks fresh v = locks_off ss locks fresh (locked_writes locks (ops_of ss v)) (each_member (λ (q : List ℕ × ℕ). HasKey ss q.0) (locked_writes locks (ops_of ss v)) (first_key ss locks v))

parts_of_split : (ss : List ClientSession) (locks : Locks) → AreFresh locks ss → (p : Point) → (filter (on (own_key ss)) (split_ops locks ss p) ≡ ops_at ss p) × (filter (off (own_key ss)) (split_ops locks ss p) ≡ lock_ops (named locks ss) p)
parts_of_split ss locks fresh (snapshot v) =
    let reads = snapshot_reads (ops_of ss v) in
    let taken = takes (named locks ss v) in
    let is : split_ops locks ss (snapshot v) ≡ reads ++ taken = ap (λ l. reads ++ l) (takes_named locks (locked_writes locks (ops_of ss v))) in
    let a = all_on ss reads (each_snapshot (λ o. on (own_key ss) o ≡ true) (ops_of ss v) (ops_on ss v)) in
    let b = all_off ss taken (named_off ss locks fresh v).0 in (
      ap (filter (on (own_key ss))) is ∙ filter-append (on (own_key ss)) reads taken ∙ ap (λ l. l ++ filter (on (own_key ss)) taken) a.0 ∙ ap (λ l. reads ++ l) b.0 ∙ append-nil reads,
      ap (filter (off (own_key ss))) is ∙ filter-append (off (own_key ss)) reads taken ∙ ap (λ l. l ++ filter (off (own_key ss)) taken) a.1 ∙ b.1,
    )
parts_of_split ss locks fresh (commit v) =
    let others = rest (ops_of ss v) in
    let found = finds (named locks ss v) in
    let is : split_ops locks ss (commit v) ≡ found ++ others = ap (λ l. l ++ others) (finds_named locks (locked_writes locks (ops_of ss v))) in
    let a = all_on ss others (each_rest (λ o. on (own_key ss) o ≡ true) (ops_of ss v) (ops_on ss v)) in
    let b = all_off ss found (named_off ss locks fresh v).1 in (
      ap (filter (on (own_key ss))) is ∙ filter-append (on (own_key ss)) found others ∙ ap (λ l. l ++ filter (on (own_key ss)) others) b.0 ∙ a.0,
      ap (filter (off (own_key ss))) is ∙ filter-append (off (own_key ss)) found others ∙ ap (λ l. l ++ filter (off (own_key ss)) others) b.1 ∙ ap (λ l. found ++ l) a.1 ∙ append-nil found,
    )

pub replays_apart : (ss : List ClientSession) (locks : Locks) → AreFresh locks ss → (points : List Point) → (Replays initial (flat_map (split_ops locks ss) points) ↔ (Replays initial (flat_map (ops_at ss) points) × Replays initial (flat_map (lock_ops (named locks ss)) points)))
replays_apart ss locks fresh points =
    let both = by_kind (own_key ss) (flat_map (split_ops locks ss) points) initial in
    let ones = kind_of_flat (on (own_key ss)) (split_ops locks ss) (ops_at ss) points (λ p. (parts_of_split ss locks fresh p).0) in
    let others = kind_of_flat (off (own_key ss)) (split_ops locks ss) (lock_ops (named locks ss)) points (λ p. (parts_of_split ss locks fresh p).1) in (
      (λ r. (subst (Replays initial) ones (both.0 r).0, subst (Replays initial) others (both.0 r).1)),
      (λ r. both.1 (subst (Replays initial) (sym ones) r.0, subst (Replays initial) (sym others) r.1)),
    )
