-- The nodes of split logs: names of locks, what the two halves of a node do, and what comes before what.
use Rattle.round_laws.proofs.Prelude.{◌≡◌, ◌≢◌, ◌⊎◌, ℕ, ◌<◌, Bool, true, false, List, [], ◌∷◌, ◌++◌, map, None, refl, sym, ap, ◌∙◌, subst, inl, inr, arith, flat_map, AllByRecursion, Contains, bytes_eq, cases_Bool, false≢true}
use Rattle.round_laws.proofs.Prelude.{flat_map-append, Contains-append_left, Contains-append_right, Contains-append_cases, bytes_eq-Decides, behind, mapped, ClientSession, Transaction, key_of, is_write, Op, Read, Write, Commit, Has}
use Rattle.round_laws.proofs.Prelude.{Has-from_Contains, txns_in, ops_in, written, Committed, Map, initial, set, Replays, member, each_member, themselves, Has-written, EachPair, of_mapped, of_flat, in_flat, first_or_behind, after}
use Rattle.round_laws.proofs.Prelude.{Replays-append, after-append, had_or_written, Alone, snapshot_reads, snapshot_reads_behind, rest, is_in, Locks, HasWritten, AreFresh, locked_writes, take_lock, find_lock, start_ops, end_ops, start_node}
use Rattle.round_laws.proofs.Prelude.{end_node, both_nodes, Leads, itself, by_session, by_read, IsLeft}
use Rattle.point_laws.proofs.Parts.{after_rest, written_snapshot, each_snapshot, each_rest, each_locked, locked_once, OtherKey, in_one}
use Rattle.point_laws.proofs.Fresh.{some_are_fresh}
use Rattle.point_laws.proofs.Named.{has_key, has_written}
use Rattle.round_laws.proofs.Comes.{Comes, comes_trans, LeftAs}
use Rattle.round_laws.proofs.Comes as comes
use Rattle.round_laws.proofs.Given.{writes_replay}

-- ---- names that are new to all these operations
pub record Names (locks : Locks) (all : List Op) : Type 0 where
  pub new_key : (o p : Op) → Contains all o → Contains all p → locks.key (key_of o) ≢ key_of p
  pub one_key : (o p : Op) → Contains all o → Contains all p → locks.key (key_of o) ≡ locks.key (key_of p) → key_of o ≡ key_of p
  pub new_identity : (k l : List ℕ) (v w : ℕ) → Contains all (Write k v) → Contains all (Write l w) → locks.identity v ≢ w
  pub one_identity : (k l : List ℕ) (v w : ℕ) → Contains all (Write k v) → Contains all (Write l w) → locks.identity v ≡ locks.identity w → v ≡ w
  pub nonzero : (k : List ℕ) (v : ℕ) → Contains all (Write k v) → locks.identity v ≢ 0

write_of : (ops : List Op) (v : ℕ) → Has v (written ops) → (key : List ℕ) × Contains ops (Write key v)
write_of [] v h = absurd h
write_of (Read key wid ∷ ops) v h = let r = write_of ops v h in (r.0, behind (Read key wid) ops (Write r.0 v) r.1)
write_of (Write key wid ∷ ops) v (inl e) = (key, (0, omega arith, ap (Write key) e))
write_of (Write key wid ∷ ops) v (inr h) = let r = write_of ops v h in (r.0, behind (Write key wid) ops (Write r.0 v) r.1)

pub fresh_where : (locks : Locks) (all : List Op) (ss : List ClientSession) → Names locks all → ((o : Op) → Contains (ops_in ss) o → Contains all o) → AreFresh locks ss
fresh_where locks all ss names sub = record {
  new_key = λ a b h k e. (let x = of_mapped key_of (ops_in ss) a h in let y = of_mapped key_of (ops_in ss) b k in names.new_key x.0 y.0 (sub x.0 x.1) (sub y.0 y.1) (ap locks.key x.2 ∙ e ∙ sym y.2));
  one_key = λ a b h k e. (let x = of_mapped key_of (ops_in ss) a h in let y = of_mapped key_of (ops_in ss) b k in sym x.2 ∙ names.one_key x.0 y.0 (sub x.0 x.1) (sub y.0 y.1) (ap locks.key x.2 ∙ e ∙ sym (ap locks.key y.2)) ∙ y.2);
  new_identity = λ v w h k. (let x = wrote v h in let y = wrote w k in names.new_identity x.0 y.0 v w (sub (Write x.0 v) x.1) (sub (Write y.0 w) y.1));
  one_identity = λ v w h k. (let x = wrote v h in let y = wrote w k in names.one_identity x.0 y.0 v w (sub (Write x.0 v) x.1) (sub (Write y.0 w) y.1));
}
  where
    wrote : (v : ℕ) → HasWritten ss v → (key : List ℕ) × Contains (ops_in ss) (Write key v)
    wrote v h = write_of (ops_in ss) v (Has-from_Contains (written (ops_in ss)) v h)

-- a log that writes 0
abbrev zero_log : ClientSession
zero_log = record { number = 0; txns = record { ops = Write [] 0 ∷ []; outcome = Commit; begun = None; ended = None } ∷ [] }

pub ops_append : (xs ys : List ClientSession) → ops_in (xs ++ ys) ≡ ops_in xs ++ ops_in ys
ops_append xs ys = ap (flat_map (λ (t : Transaction). t.ops)) (flat_map-append (λ (s : ClientSession). s.txns) xs ys) ∙ flat_map-append (λ (t : Transaction). t.ops) (txns_in xs) (txns_in ys)

pub some_names : (taken : Bool) (first second : List ClientSession) → (locks : Locks) × (locks.taken ≡ taken) × Names locks (ops_in first ++ ops_in second)
some_names taken first second = (
  locks,
  (some_are_fresh big taken).1,
  record {
    new_key = λ o p c d. fresh.new_key (key_of o) (key_of p) (has_key big o (within o c)) (has_key big p (within p d));
    one_key = λ o p c d. fresh.one_key (key_of o) (key_of p) (has_key big o (within o c)) (has_key big p (within p d));
    new_identity = λ k l v w c d. fresh.new_identity v w (has_written big k v (within (Write k v) c)) (has_written big l w (within (Write l w) d));
    one_identity = λ k l v w c d. fresh.one_identity v w (has_written big k v (within (Write k v) c)) (has_written big l w (within (Write l w) d));
    nonzero = λ k v c. fresh.new_identity v 0 (has_written big k v (within (Write k v) c)) (has_written big [] 0 zero);
  },
)
  where
    both : List ClientSession
    both = first ++ second

    big : List ClientSession
    big = both ++ zero_log ∷ []

    is : ops_in big ≡ (ops_in first ++ ops_in second) ++ Write [] 0 ∷ []
    is = ops_append both (zero_log ∷ []) ∙ ap (λ l. l ++ Write [] 0 ∷ []) (ops_append first second)

    within : (o : Op) → Contains (ops_in first ++ ops_in second) o → Contains (ops_in big) o
    within o c = subst (λ l. Contains l o) (sym is) (Contains-append_left (ops_in first ++ ops_in second) (Write [] 0 ∷ []) o c)

    zero : Contains (ops_in big) (Write [] 0)
    zero = subst (λ l. Contains l (Write [] 0)) (sym is) (Contains-append_right (ops_in first ++ ops_in second) (Write [] 0 ∷ []) (Write [] 0) (0, omega arith, refl))

    locks : Locks
    locks = (some_are_fresh big taken).0

    fresh : AreFresh locks big
    fresh = (some_are_fresh big taken).2

-- ---- what the two halves do
no_writes : (ops : List Op) (key : List ℕ) (wid : ℕ) → Contains (snapshot_reads ops) (Write key wid) → ⊥
no_writes ops key wid c = subst (Has wid) (written_snapshot ops) (Has-written (snapshot_reads ops) key wid c)

snapshot_within : (ops : List Op) (o : Op) → Contains (snapshot_reads ops) o → Contains ops o
snapshot_within ops o c = member (Contains ops) (snapshot_reads ops) o (each_snapshot (Contains ops) ops (themselves ops)) c

rest_within : (ops : List Op) (o : Op) → Contains (rest ops) o → Contains ops o
rest_within ops o c = member (Contains ops) (rest ops) o (each_rest (Contains ops) ops (themselves ops)) c

locked_within : (locks : Locks) (ops : List Op) (q : List ℕ × ℕ) → Contains (locked_writes locks ops) q → Contains ops (Write q.0 q.1)
locked_within locks ops q c = member (λ (q : List ℕ × ℕ). Contains ops (Write q.0 q.1)) (locked_writes locks ops) q (each_locked (Contains ops) locks ops (themselves ops)) c

-- a lock is taken
pub record Takes (locks : Locks) (ops : List Op) (key : List ℕ) (wid : ℕ) : Type 0 where
  pub named : List ℕ
  pub own : ℕ
  pub has : Contains ops (Write named own)
  pub key_is : locks.key named ≡ key
  pub identity_is : locks.identity own ≡ wid

taken_key : (locks : Locks) (q : List ℕ × ℕ) (key : List ℕ) (wid : ℕ) → take_lock locks q ≡ Write key wid → (locks.key q.0 ≡ key) × (locks.identity q.1 ≡ wid)
taken_key locks (k, w) key wid e = (cc, cc)

never_take : (locks : Locks) (q : List ℕ × ℕ) (key : List ℕ) (wid : ℕ) → take_lock locks q ≡ Read key wid → ⊥
never_take locks (k, w) key wid e = cc

never_find : (locks : Locks) (q : List ℕ × ℕ) (key : List ℕ) (wid : ℕ) → find_lock locks q ≡ Write key wid → ⊥
never_find locks (k, w) key wid e = cc

take_where_find : (locks : Locks) (q : List ℕ × ℕ) (key : List ℕ) (wid : ℕ) → find_lock locks q ≡ Read key wid → take_lock locks q ≡ Write key wid
take_where_find locks (k, w) key wid e = cc

pub start_writes : (locks : Locks) (ops : List Op) (key : List ℕ) (wid : ℕ) → Contains (start_ops locks ops) (Write key wid) → Takes locks ops key wid
start_writes locks ops key wid c = elim (Contains-append_cases (snapshot_reads ops) (map (take_lock locks) (locked_writes locks ops)) (Write key wid) c) [
  | inl d ↦ absurd (no_writes ops key wid d)
  | inr d ↦
      let q = of_mapped (take_lock locks) (locked_writes locks ops) (Write key wid) d in
      let is = taken_key locks q.0 key wid q.2 in
      record { named = q.0.0; own = q.0.1; has = locked_within locks ops q.0 q.1; key_is = is.0; identity_is = is.1 }
]

pub start_reads : (locks : Locks) (ops : List Op) (key : List ℕ) (wid : ℕ) → Contains (start_ops locks ops) (Read key wid) → Contains ops (Read key wid)
start_reads locks ops key wid c = elim (Contains-append_cases (snapshot_reads ops) (map (take_lock locks) (locked_writes locks ops)) (Read key wid) c) [
  | inl d ↦ snapshot_within ops (Read key wid) d
  | inr d ↦ let q = of_mapped (take_lock locks) (locked_writes locks ops) (Read key wid) d in absurd (never_take locks q.0 key wid q.2)
]

pub end_writes : (locks : Locks) (ops : List Op) (key : List ℕ) (wid : ℕ) → Contains (end_ops locks ops) (Write key wid) → Contains ops (Write key wid)
end_writes locks ops key wid c = elim (Contains-append_cases (map (find_lock locks) (locked_writes locks ops)) (rest ops) (Write key wid) c) [
  | inl d ↦ let q = of_mapped (find_lock locks) (locked_writes locks ops) (Write key wid) d in absurd (never_find locks q.0 key wid q.2)
  | inr d ↦ rest_within ops (Write key wid) d
]

pub end_reads : (locks : Locks) (ops : List Op) (key : List ℕ) (wid : ℕ) → Contains (end_ops locks ops) (Read key wid) → Contains ops (Read key wid) ⊎ Contains (start_ops locks ops) (Write key wid)
end_reads locks ops key wid c = elim (Contains-append_cases (map (find_lock locks) (locked_writes locks ops)) (rest ops) (Read key wid) c) [
  | inl d ↦
      let q = of_mapped (find_lock locks) (locked_writes locks ops) (Read key wid) d in
      inr (Contains-append_right (snapshot_reads ops) (map (take_lock locks) (locked_writes locks ops)) (Write key wid) (subst (Contains (map (take_lock locks) (locked_writes locks ops))) (take_where_find locks q.0 key wid q.2) (mapped (take_lock locks) (locked_writes locks ops) q.0 q.1)))
  | inr d ↦ inl (rest_within ops (Read key wid) d)
]

pub end_has : (locks : Locks) (ops : List Op) (key : List ℕ) (wid : ℕ) → Contains ops (Write key wid) → Contains (end_ops locks ops) (Write key wid)
end_has locks ops key wid c = elim (in_one ops (Write key wid) c) [
  | inl d ↦ absurd (no_writes ops key wid d)
  | inr d ↦ Contains-append_right (map (find_lock locks) (locked_writes locks ops)) (rest ops) (Write key wid) d
]

pub start_has : (locks : Locks) (ops : List Op) (o : Op) → Contains (snapshot_reads ops) o → Contains (start_ops locks ops) o
start_has locks ops o c = Contains-append_left (snapshot_reads ops) (map (take_lock locks) (locked_writes locks ops)) o c

-- what is read and not written is read from the snapshot
unwritten_read : (ops : List Op) (before : List (List ℕ)) (key : List ℕ) (wid : ℕ) → is_in before key ≡ false → ((v : ℕ) → Contains ops (Write key v) → ⊥) → Contains ops (Read key wid) → Contains (snapshot_reads_behind before ops) (Read key wid)
unwritten_read [] before key wid new none c = absurd (omega (arith, c.1))
unwritten_read (Write k w ∷ ops) before key wid new none c = elim (first_or_behind (Write k w) ops (Read key wid) c) [
  | inl e ↦ cc
  | inr d ↦ elim (cases_Bool (bytes_eq key k)) [
    | inl same ↦ absurd (none w (0, omega arith, ap (λ l. Write l w) (sym ((bytes_eq-Decides key k).0 same))))
    | inr other ↦ let still : is_in (k ∷ before) key ≡ false = rw other new in unwritten_read ops (k ∷ before) key wid still (λ v e. none v (behind (Write k w) ops (Write key v) e)) d
  ]
]
unwritten_read (Read k w ∷ ops) before key wid new none c = elim (first_or_behind (Read k w) ops (Read key wid) c) [
  | inl e ↦
      let keys : k ≡ key = cc in
      let here : is_in before k ≡ false = ap (is_in before) keys ∙ new in
      rw here (0, omega arith, e)
  | inr d ↦
      let ih = unwritten_read ops before key wid new (λ v e. none v (behind (Read k w) ops (Write key v) e)) d in
      elim (cases_Bool (is_in before k)) [
        | inl e ↦ rw e ih
        | inr e ↦ rw e (behind (Read k w) (snapshot_reads_behind before ops) (Read key wid) ih)
      ]
]

pub snapshot_has : (ops : List Op) (key : List ℕ) (wid : ℕ) → ((v : ℕ) → Contains ops (Write key v) → ⊥) → Contains ops (Read key wid) → Contains (snapshot_reads ops) (Read key wid)
snapshot_has ops key wid none c = unwritten_read ops [] key wid refl none c

-- ---- the halves of nodes
abbrev pub halves : Locks → List Committed → List Committed
halves locks nodes = flat_map (both_nodes locks) nodes

pub which_half : (locks : Locks) (c n : Committed) → Contains (both_nodes locks c) n → (n ≡ start_node locks c) ⊎ (n ≡ end_node locks c)
which_half locks c n d = elim (first_or_behind (start_node locks c) (end_node locks c ∷ []) n d) [
  | inl e ↦ inl (sym e)
  | inr f ↦ elim (first_or_behind (end_node locks c) [] n f) [
    | inl e ↦ inr (sym e)
    | inr g ↦ absurd (omega (arith, g.1))
  ]
]

pub has_start : (locks : Locks) (c : Committed) → Contains (both_nodes locks c) (start_node locks c)
has_start locks c = (0, omega arith, refl)

pub has_end : (locks : Locks) (c : Committed) → Contains (both_nodes locks c) (end_node locks c)
has_end locks c = (1, omega arith, refl)

pub half_in : (locks : Locks) (nodes : List Committed) (c n : Committed) → Contains nodes c → Contains (both_nodes locks c) n → Contains (halves locks nodes) n
half_in locks nodes c n d e = in_flat (both_nodes locks) nodes c n d e

pub halves_within : (locks : Locks) (xs ys : List Committed) → ((n : Committed) → Contains xs n → Contains ys n) → (n : Committed) → Contains (halves locks xs) n → Contains (halves locks ys) n
halves_within locks xs ys sub n c = let r = of_flat (both_nodes locks) xs n c in half_in locks ys r.0 n (sub r.0 r.1) r.2

-- ---- identities
pub alone_halves : (locks : Locks) (all : List Op) (nodes : List Committed) → Names locks all → ((n : Committed) (o : Op) → Contains nodes n → Contains n.ops o → Contains all o) → Alone initial nodes nodes → Alone initial (halves locks nodes) (halves locks nodes)
alone_halves locks all nodes names sub alone a b key wid c d v w =
    let x = of_flat (both_nodes locks) nodes a c in
    let y = of_flat (both_nodes locks) nodes b d in
    elim (which_half locks x.0 a x.2) [
      | inl ea ↦
          let s = start_writes locks x.0.ops key wid (subst (λ (n : Committed). Contains n.ops (Write key wid)) ea v) in
          let has_s = sub x.0 (Write s.named s.own) x.1 s.has in
          elim (which_half locks y.0 b y.2) [
            | inl eb ↦
                let t = start_writes locks y.0.ops key wid (subst (λ (n : Committed). Contains n.ops (Write key wid)) eb w) in
                let has_t = sub y.0 (Write t.named t.own) y.1 t.has in
                let own : s.own ≡ t.own = names.one_identity s.named t.named s.own t.own has_s has_t (s.identity_is ∙ sym t.identity_is) in
                let keys : s.named ≡ t.named = names.one_key (Write s.named s.own) (Write t.named t.own) has_s has_t (s.key_is ∙ sym t.key_is) in
                let again : Contains y.0.ops (Write s.named s.own) = subst (λ k. Contains y.0.ops (Write k s.own)) (sym keys) (subst (λ i. Contains y.0.ops (Write t.named i)) (sym own) t.has) in
                let one : y.0 ≡ x.0 = (alone x.0 y.0 s.named s.own x.1 y.1 s.has again).0 in
                (eb ∙ ap (start_node locks) one ∙ sym ea, λ e. names.nonzero s.named s.own has_s (s.identity_is ∙ sym e))
            | inr eb ↦
                let t = end_writes locks y.0.ops key wid (subst (λ (n : Committed). Contains n.ops (Write key wid)) eb w) in
                absurd (names.new_identity s.named key s.own wid has_s (sub y.0 (Write key wid) y.1 t) s.identity_is)
          ]
      | inr ea ↦
          let s = end_writes locks x.0.ops key wid (subst (λ (n : Committed). Contains n.ops (Write key wid)) ea v) in
          elim (which_half locks y.0 b y.2) [
            | inl eb ↦
                let t = start_writes locks y.0.ops key wid (subst (λ (n : Committed). Contains n.ops (Write key wid)) eb w) in
                absurd (names.new_identity t.named key t.own wid (sub y.0 (Write t.named t.own) y.1 t.has) (sub x.0 (Write key wid) x.1 s) t.identity_is)
            | inr eb ↦
                let t = end_writes locks y.0.ops key wid (subst (λ (n : Committed). Contains n.ops (Write key wid)) eb w) in
                let one = alone x.0 y.0 key wid x.1 y.1 s t in
                (eb ∙ ap (end_node locks) one.0 ∙ sym ea, one.1)
          ]
    ]

-- ---- what comes before what
abbrev pub ArePlaced : List Committed → Type 0
ArePlaced nodes = (n : Committed) → Contains nodes n → 0 < n.place

between : (locks : Locks) (nodes : List Committed) (c : Committed) → ArePlaced nodes → Contains nodes c → Comes (halves locks nodes) (start_node locks c) (end_node locks c)
between locks nodes c placed d = let lo = placed c d in
    comes.by_session (start_node locks c) (end_node locks c) (end_node locks c) (half_in locks nodes c (end_node locks c) d (has_end locks c)) refl (omega (arith, lo)) (comes.itself (end_node locks c))

pub to_end : (locks : Locks) (nodes : List Committed) (c n : Committed) → ArePlaced nodes → Contains nodes c → Contains (both_nodes locks c) n → Comes (halves locks nodes) n (end_node locks c)
to_end locks nodes c n placed d e = elim (which_half locks c n e) [
  | inl is ↦ subst (λ m. Comes (halves locks nodes) m (end_node locks c)) (sym is) (between locks nodes c placed d)
  | inr is ↦ subst (λ m. Comes (halves locks nodes) m (end_node locks c)) (sym is) (comes.itself (end_node locks c))
]

pub from_start : (locks : Locks) (nodes : List Committed) (c n : Committed) → ArePlaced nodes → Contains nodes c → Contains (both_nodes locks c) n → Comes (halves locks nodes) (start_node locks c) n
from_start locks nodes c n placed d e = elim (which_half locks c n e) [
  | inl is ↦ subst (Comes (halves locks nodes) (start_node locks c)) (sym is) (comes.itself (start_node locks c))
  | inr is ↦ subst (Comes (halves locks nodes) (start_node locks c)) (sym is) (between locks nodes c placed d)
]

-- a node's end before the other's start, unless they are one
inner : (locks : Locks) (nodes : List Committed) → ArePlaced nodes → (a c : Committed) → Leads nodes a c → (a ≡ c) ⊎ Comes (halves locks nodes) (end_node locks a) (start_node locks c)
inner locks nodes placed a c (itself _) = inl refl
inner locks nodes placed a c (by_session _ b _ e s lt k) =
    let step : (x : Committed) → Comes (halves locks nodes) (start_node locks b) x → Comes (halves locks nodes) (end_node locks a) x =
    λ x h. comes.by_session (end_node locks a) (start_node locks b) x (half_in locks nodes b (start_node locks b) e (has_start locks b)) s (omega (arith, lt)) h in
    elim (inner locks nodes placed b c k) [
      | inl same ↦ inr (step (start_node locks c) (subst (λ n. Comes (halves locks nodes) (start_node locks b) (start_node locks n)) same (comes.itself (start_node locks b))))
      | inr h ↦ inr (step (start_node locks c) (comes_trans (halves locks nodes) (start_node locks b) (end_node locks b) (start_node locks c) (between locks nodes b placed e) h))
    ]
inner locks nodes placed a c (by_read _ b _ key wid e w r k) =
    let step : (x : Committed) → Comes (halves locks nodes) (start_node locks b) x → Comes (halves locks nodes) (end_node locks a) x =
    λ x h. comes.by_read (end_node locks a) (start_node locks b) x key wid (half_in locks nodes b (start_node locks b) e (has_start locks b)) (end_has locks a.ops key wid w) (start_has locks b.ops (Read key wid) r) h in
    elim (inner locks nodes placed b c k) [
      | inl same ↦ inr (step (start_node locks c) (subst (λ n. Comes (halves locks nodes) (start_node locks b) (start_node locks n)) same (comes.itself (start_node locks b))))
      | inr h ↦ inr (step (start_node locks c) (comes_trans (halves locks nodes) (start_node locks b) (end_node locks b) (start_node locks c) (between locks nodes b placed e) h))
    ]

pub across : (locks : Locks) (nodes : List Committed) → ArePlaced nodes → (a c : Committed) → Contains nodes a → Contains nodes c → Leads nodes a c → (a ≡ c) ⊎ ((x y : Committed) → Contains (both_nodes locks a) x → Contains (both_nodes locks c) y → Comes (halves locks nodes) x y)
across locks nodes placed a c d e k = elim (inner locks nodes placed a c k) [
  | inl same ↦ inl same
  | inr h ↦ inr (λ x y p q. comes_trans (halves locks nodes) x (end_node locks a) y (to_end locks nodes a x placed d p)
      (comes_trans (halves locks nodes) (end_node locks a) (start_node locks c) y h (from_start locks nodes c y placed e q)))
]

-- ---- what a key of the data has behind them
pub left_halves : (locks : Locks) (all : List Op) (nodes : List Committed) → Names locks all → ArePlaced nodes → ((n : Committed) (o : Op) → Contains nodes n → Contains n.ops o → Contains all o) → (key : List ℕ) (wid : ℕ) (o : Op) → Contains all o → key_of o ≡ key → IsLeft nodes key wid → LeftAs (halves locks nodes) key wid
left_halves locks all nodes names placed sub key wid o co ko left = go left
  where
    -- no half takes a lock under this key
    data_only : (c : Committed) (v : ℕ) → Contains nodes c → Contains (start_ops locks c.ops) (Write key v) → ⊥
    data_only c v d w = let s = start_writes locks c.ops key v w in names.new_key (Write s.named s.own) o (sub c (Write s.named s.own) d s.has) co (s.key_is ∙ sym ko)

    writer : (a : Committed) (v : ℕ) → Contains (halves locks nodes) a → Contains a.ops (Write key v) → (c : Committed) × (Contains nodes c) × (a ≡ end_node locks c) × (Contains c.ops (Write key v))
    writer a v c w =
        let x = of_flat (both_nodes locks) nodes a c in
        elim (which_half locks x.0 a x.2) [
          | inl e ↦ absurd (data_only x.0 v x.1 (subst (λ (n : Committed). Contains n.ops (Write key v)) e w))
          | inr e ↦ (x.0, x.1, e, end_writes locks x.0.ops key v (subst (λ (n : Committed). Contains n.ops (Write key v)) e w))
        ]

    go : IsLeft nodes key wid → LeftAs (halves locks nodes) key wid
    go (inl u) = inl (record { zero = u.zero; none = λ a v c w. (let x = writer a v c w in u.none x.0 v x.1 x.3) })
    go (inr r) = inr (record {
      reader = start_node locks r.reader;
      has = half_in locks nodes r.reader (start_node locks r.reader) r.is_node (has_start locks r.reader);
      reads = start_has locks r.reader.ops (Read key wid) (snapshot_has r.reader.ops key wid r.leaves r.reads);
      leaves = λ v w. data_only r.reader v r.is_node w;
      behind = behind_reader;
    })
      where
        behind_reader : (a : Committed) (v : ℕ) → Contains (halves locks nodes) a → Contains a.ops (Write key v) → Comes (halves locks nodes) a (start_node locks r.reader)
        behind_reader a v c w =
            let x = writer a v c w in
            elim (across locks nodes placed x.0 r.reader x.1 r.is_node (r.behind x.0 v x.1 x.3)) [
              | inl same ↦ absurd (r.leaves v (subst (λ (n : Committed). Contains n.ops (Write key v)) same x.3))
              | inr h ↦ h a (start_node locks r.reader) (subst (Contains (both_nodes locks x.0)) (sym x.2) (has_end locks x.0)) (has_start locks r.reader)
            ]

-- ---- the halves of a node that writes only, by themselves
lock_stays : (locks : Locks) (qs : List (List ℕ × ℕ)) (m : Map) (key : List ℕ) → AllByRecursion (λ (q : List ℕ × ℕ). locks.key q.0 ≢ key) qs → after m (map (take_lock locks) qs) key ≡ m key
lock_stays locks [] m key h = refl
lock_stays locks ((k, w) ∷ qs) m key h = lock_stays locks qs (set m (locks.key k) (locks.identity w)) key h.1 ∙ here
  where
    here : set m (locks.key k) (locks.identity w) key ≡ m key
    here = elim (cases_Bool (bytes_eq (locks.key k) key)) [
      | inl e ↦ absurd (h.0 ((bytes_eq-Decides (locks.key k) key).0 e))
      | inr e ↦ rw e refl
    ]

find_after : (locks : Locks) (qs : List (List ℕ × ℕ)) (m : Map) → EachPair (λ (q r : List ℕ × ℕ). locks.key r.0 ≢ locks.key q.0) qs → AllByRecursion (λ (q : List ℕ × ℕ). after m (map (take_lock locks) qs) (locks.key q.0) ≡ locks.identity q.1) qs
find_after locks [] m h = tt
find_after locks ((k, w) ∷ qs) m h =
    (lock_stays locks qs (set m (locks.key k) (locks.identity w)) (locks.key k) h.0 ∙ here, find_after locks qs (set m (locks.key k) (locks.identity w)) h.1)
  where
    here : set m (locks.key k) (locks.identity w) (locks.key k) ≡ locks.identity w
    here = let same : bytes_eq (locks.key k) (locks.key k) ≡ true = (bytes_eq-Decides (locks.key k) (locks.key k)).1 refl in rw same refl

finds_replay : (locks : Locks) (qs : List (List ℕ × ℕ)) (m : Map) → AllByRecursion (λ (q : List ℕ × ℕ). m (locks.key q.0) ≡ locks.identity q.1) qs → Replays m (map (find_lock locks) qs)
finds_replay locks [] m h = tt
finds_replay locks ((k, w) ∷ qs) m h = (h.0, finds_replay locks qs m h.1)

pub finds_leave : (locks : Locks) (qs : List (List ℕ × ℕ)) (m : Map) → after m (map (find_lock locks) qs) ≡ m
finds_leave locks [] m = refl
finds_leave locks ((k, w) ∷ qs) m = finds_leave locks qs m

no_reads : (ops : List Op) (before : List (List ℕ)) → AllByRecursion (λ o. is_write o ≡ true) ops → snapshot_reads_behind before ops ≡ []
no_reads [] before h = refl
no_reads (Read key wid ∷ ops) before h = absurd (false≢true h.0)
no_reads (Write key wid ∷ ops) before h = no_reads ops (key ∷ before) h.1

pairs_where : (locks : Locks) (all : List Op) → Names locks all → (qs : List (List ℕ × ℕ)) → AllByRecursion (λ (q : List ℕ × ℕ). Contains all (Write q.0 q.1)) qs → EachPair OtherKey qs → EachPair (λ (q r : List ℕ × ℕ). locks.key r.0 ≢ locks.key q.0) qs
pairs_where locks all names [] h k = tt
pairs_where locks all names (q ∷ qs) h k =
    (each_member (λ (r : List ℕ × ℕ). locks.key r.0 ≢ locks.key q.0) qs (λ r c e. member (OtherKey q) qs r k.0 c (sym (names.one_key (Write r.0 r.1) (Write q.0 q.1) (member (λ (q : List ℕ × ℕ). Contains all (Write q.0 q.1)) qs r h.1 c) h.0 e))), pairs_where locks all names qs h.1 k.1)

pub halves_replay : (locks : Locks) (all : List Op) → Names locks all → (m : Map) (ops : List Op) → ((o : Op) → Contains ops o → Contains all o) → AllByRecursion (λ o. is_write o ≡ true) ops → Replays m (start_ops locks ops ++ end_ops locks ops)
halves_replay locks all names m ops sub h =
    (Replays-append m (start_ops locks ops) (end_ops locks ops)).1 (start, (Replays-append behind_start finds (rest ops)).1 (found, rests))
  where
    qs : List (List ℕ × ℕ)
    qs = locked_writes locks ops

    takes : List Op
    takes = map (take_lock locks) qs

    finds : List Op
    finds = map (find_lock locks) qs

    behind_start : Map
    behind_start = after m (start_ops locks ops)

    start_is : start_ops locks ops ≡ takes
    start_is = ap (λ l. l ++ takes) (no_reads ops [] h)

    takes_write : (rs : List (List ℕ × ℕ)) → AllByRecursion (λ o. is_write o ≡ true) (map (take_lock locks) rs)
    takes_write [] = tt
    takes_write ((k, w) ∷ rs) = (refl, takes_write rs)

    start : Replays m (start_ops locks ops)
    start = subst (Replays m) (sym start_is) (writes_replay m takes (takes_write qs))

    known : AllByRecursion (λ (q : List ℕ × ℕ). Contains all (Write q.0 q.1)) qs
    known = each_member (λ (q : List ℕ × ℕ). Contains all (Write q.0 q.1)) qs (λ q c. sub (Write q.0 q.1) (locked_within locks ops q c))

    found : Replays behind_start finds
    found = subst (λ l. Replays (after m l) finds) (sym start_is) (finds_replay locks qs (after m takes) (find_after locks qs m (pairs_where locks all names qs known (locked_once locks ops))))

    rests : Replays (after behind_start finds) (rest ops)
    rests = writes_replay (after behind_start finds) (rest ops) (each_rest (λ o. is_write o ≡ true) ops h)

-- what a key of the data has behind them
same_after : (ops : List Op) (m n : Map) (key : List ℕ) → m key ≡ n key → after m ops key ≡ after n ops key
same_after [] m n key e = e
same_after (Read k w ∷ ops) m n key e = same_after ops m n key e
same_after (Write k w ∷ ops) m n key e = same_after ops (set m k w) (set n k w) key (elim (cases_Bool (bytes_eq k key)) [
  | inl s ↦ rw s refl
  | inr s ↦ rw s e
])

pub halves_leave : (locks : Locks) (all : List Op) → Names locks all → (m : Map) (ops : List Op) → ((o : Op) → Contains ops o → Contains all o) → (key : List ℕ) (o : Op) → Contains all o → key_of o ≡ key → after m (start_ops locks ops ++ end_ops locks ops) key ≡ after m ops key
halves_leave locks all names m ops sub key o co ko =
    ap (λ (f : Map). f key) (after-append m (start_ops locks ops) (end_ops locks ops))
    ∙ ap (λ (f : Map). f key) (after-append (after m (start_ops locks ops)) (map (find_lock locks) (locked_writes locks ops)) (rest ops))
    ∙ ap (λ (f : Map). after f (rest ops) key) (finds_leave locks (locked_writes locks ops) (after m (start_ops locks ops)))
    ∙ ap (λ (f : Map). f key) (after_rest (after m (start_ops locks ops)) ops)
    ∙ same_after ops (after m (start_ops locks ops)) m key start
  where
    start : after m (start_ops locks ops) key ≡ m key
    start = elim (had_or_written (start_ops locks ops) m key) [
      | inl e ↦ e
      | inr c ↦ let s = start_writes locks ops key (after m (start_ops locks ops) key) c in absurd (names.new_key (Write s.named s.own) o (sub (Write s.named s.own) s.has) co (s.key_is ∙ sym ko))
    ]
