-- The split log of a log is a log.
use Rattle.point_laws.proofs.Prelude.{◌≡◌, ◌≢◌, ◌⊎◌, ℕ, Bool, true, false, cond, List, [], ◌∷◌, ◌++◌, map, refl, sym, ap, ◌∙◌, subst, inl, inr, arith, nat_eq, flat_map, list_any, AllByRecursion, Contains, IsDistinct, bytes_eq, cases_Bool}
use Rattle.point_laws.proofs.Prelude.{false≢true, is_earlier, ClientSession, Transaction, IsLegal, IsLegalOp, IsLegalTxn, IsKnown, key_of, Op, Read, Write, Unknown, Has, Apart, Contains-from_Has, Apart-from_IsDistinct, Has-append_front}
use Rattle.point_laws.proofs.Prelude.{Has-append_back, Has-append_cases, each_from_append, each_from_flat_map, each_from_map, Apart-append, IsDistinct-from_Apart, settled, taken, txns_in, ops_in, written, member, each_member, each_weaker}
use Rattle.point_laws.proofs.Prelude.{themselves, written-append, ops_settled, resolved_is, Has-written, IsSoundLog, IsLearntLog, IsLog, first_or_behind, in_flat, of_mapped, not_both, once_front, once_back, ops_by, snapshot_reads, rest}
use Rattle.point_laws.proofs.Prelude.{Locks, HasWritten, AreFresh, AreLegalLocks, first_writes_behind, locked_writes, take_lock, find_lock, start_ops, end_ops, split_txn, split, split_writers, is_writer, SplitIsLog, ResolvedSplitIsLog}
use Rattle.session_log.proofs.Blocks.{all_before}
use Rattle.log_laws.proofs.Resolved.{legal_settled, known}
use Rattle.point_laws.proofs.Parts.{each_snapshot, each_rest, each_locked, taken_where_locked, written_snapshot, written_rest}
use Rattle.point_laws.proofs.Named.{has_key, has_written}
use Rattle.point_laws.proofs.Parted.{parts, halves, by_test, each_part, split_txns, by_test_learnt}
use Rattle.point_laws.proofs.Orders.{never_later}
use Rattle.point_laws.proofs.Resolved.{settled_sound, settled_learnt, same_fresh}
use Rattle.point_laws.proofs.Without.{may_end}

-- ---- the two halves of a transaction

abbrev pub Test : Type 0
Test = Transaction → Bool

pub split_numbers : (p : Test) (locks : Locks) (ss : List ClientSession) → map (λ (s : ClientSession). s.number) (by_test p locks ss) ≡ map (λ (s : ClientSession). s.number) ss
split_numbers p locks [] = refl
split_numbers p locks (s ∷ ss) = ap (λ l. s.number ∷ l) (split_numbers p locks ss)

-- ---- legal

legal_halves : (locks : Locks) (ss : List ClientSession) → (locks.taken ≡ true → AreLegalLocks locks ss) → (t : Transaction) → IsLegalTxn t → AllByRecursion (Contains (ops_in ss)) t.ops → AllByRecursion IsLegalTxn (split_txn locks t)
legal_halves locks ss names t legal within = (
  record {
    ops = each_from_append IsLegalOp (snapshot_reads t.ops) (map (take_lock locks) (locked_writes locks t.ops)) (each_snapshot IsLegalOp t.ops legal.ops) (each_from_map IsLegalOp (take_lock locks) (locked_writes locks t.ops) (each_member (λ q. IsLegalOp (take_lock locks q)) (locked_writes locks t.ops) (λ q d. take q (taken_where_locked locks t.ops q d) (member InLog (locked_writes locks t.ops) q firsts d))));
    begun = legal.begun;
    ended = tt;
    told = may_end t.outcome;
    ordered = refl;
  },
  (
    record {
      ops = each_from_append IsLegalOp (map (find_lock locks) (locked_writes locks t.ops)) (rest t.ops) (each_from_map IsLegalOp (find_lock locks) (locked_writes locks t.ops) (each_member (λ q. IsLegalOp (find_lock locks q)) (locked_writes locks t.ops) (λ q d. find q (taken_where_locked locks t.ops q d) (member InLog (locked_writes locks t.ops) q firsts d)))) (each_rest IsLegalOp t.ops legal.ops);
      begun = tt;
      ended = legal.ended;
      told = legal.told;
      ordered = never_later t.ended;
    },
    tt,
  ),
)
  where
    InLog : List ℕ × ℕ → Type 0
    InLog q = Contains (ops_in ss) (Write q.0 q.1)

    firsts : AllByRecursion (λ (q : List ℕ × ℕ). Contains (ops_in ss) (Write q.0 q.1)) (locked_writes locks t.ops)
    firsts = each_locked (Contains (ops_in ss)) locks t.ops within

    take : (q : List ℕ × ℕ) → locks.taken ≡ true → Contains (ops_in ss) (Write q.0 q.1) → IsLegalOp (take_lock locks q)
    take q e c = let i = (names e).identity q.1 (has_written ss q.0 q.1 c) in ((names e).key q.0 (has_key ss (Write q.0 q.1) c), i.0, i.1)

    find : (q : List ℕ × ℕ) → locks.taken ≡ true → Contains (ops_in ss) (Write q.0 q.1) → IsLegalOp (find_lock locks q)
    find q e c = let i = (names e).identity q.1 (has_written ss q.0 q.1 c) in ((names e).key q.0 (has_key ss (Write q.0 q.1) c), i.1)

legal_session : (p : Test) (locks : Locks) (ss : List ClientSession) → (locks.taken ≡ true → AreLegalLocks locks ss) → IsLearntLog ss → (s : ClientSession) → Contains ss s → IsLegal s → IsLegal (halves p locks s)
legal_session p locks ss names learnt s c legal = record {
  low = legal.low;
  high = legal.high;
  txns = each_from_flat_map IsLegalTxn (parts p locks) s.txns (each_member (λ t. AllByRecursion IsLegalTxn (parts p locks t)) s.txns txn);
  known = all_before (flat_map (parts p locks) s.txns) (each_from_flat_map IsKnown (parts p locks) s.txns (each_member (λ t. AllByRecursion IsKnown (parts p locks t)) s.txns is_known));
}
  where
    in_txns : (t : Transaction) → Contains s.txns t → Contains (txns_in ss) t
    in_txns t d = in_flat (λ (x : ClientSession). x.txns) ss s t c d

    txn : (t : Transaction) → Contains s.txns t → AllByRecursion IsLegalTxn (parts p locks t)
    txn t d =
        let is : IsLegalTxn t = member IsLegalTxn s.txns t legal.txns d in
        each_part IsLegalTxn p locks t (legal_halves locks ss names t is (each_member (Contains (ops_in ss)) t.ops (λ o e. in_flat (λ (x : Transaction). x.ops) (txns_in ss) t o (in_txns t d) e))) is

    is_known : (t : Transaction) → Contains s.txns t → AllByRecursion IsKnown (parts p locks t)
    is_known t d =
        let k = known t.outcome (member (λ (x : Transaction). x.outcome ≢ Unknown) (txns_in ss) t learnt (in_txns t d)) in
        each_part IsKnown p locks t (k, (k, tt)) k

-- ---- identities once each

-- the identities under which a transaction takes its locks
abbrev idents : Locks → List (List ℕ × ℕ) → List ℕ
idents locks qs = map (λ q. locks.identity q.1) qs

takes_wrote : (locks : Locks) (qs : List (List ℕ × ℕ)) → written (map (take_lock locks) qs) ≡ idents locks qs
takes_wrote locks [] = refl
takes_wrote locks (q ∷ qs) = ap (λ l. locks.identity q.1 ∷ l) (takes_wrote locks qs)

finds_wrote : (locks : Locks) (qs : List (List ℕ × ℕ)) → written (map (find_lock locks) qs) ≡ []
finds_wrote locks [] = refl
finds_wrote locks (q ∷ qs) = finds_wrote locks qs

-- where it is split
abbrev idents_of : Test → Locks → Transaction → List ℕ
idents_of p locks t = cond (p t) (idents locks (locked_writes locks t.ops)) []

-- what the parts of these transactions write
abbrev mixed : Test → Locks → List Transaction → List ℕ
mixed p locks [] = []
mixed p locks (t ∷ ts) = idents_of p locks t ++ (written t.ops ++ mixed p locks ts)

split_wrote : (p : Test) (locks : Locks) (ts : List Transaction) → written (ops_by (flat_map (parts p locks) ts)) ≡ mixed p locks ts
split_wrote p locks [] = refl
split_wrote p locks (t ∷ ts) =
    let behind = ops_by (flat_map (parts p locks) ts) in
    let start_is : written (start_ops locks t.ops) ≡ idents locks (locked_writes locks t.ops) =
    written-append (snapshot_reads t.ops) (map (take_lock locks) (locked_writes locks t.ops)) ∙ ap (λ l. l ++ written (map (take_lock locks) (locked_writes locks t.ops))) (written_snapshot t.ops) ∙ takes_wrote locks (locked_writes locks t.ops) in
    let end_is : written (end_ops locks t.ops) ≡ written t.ops =
    written-append (map (find_lock locks) (locked_writes locks t.ops)) (rest t.ops) ∙ ap (λ l. l ++ written (rest t.ops)) (finds_wrote locks (locked_writes locks t.ops)) ∙ written_rest t.ops in
    let both =
    written-append (start_ops locks t.ops) (end_ops locks t.ops ++ behind)
    ∙ ap (λ l. l ++ written (end_ops locks t.ops ++ behind)) start_is
    ∙ ap (λ l. idents locks (locked_writes locks t.ops) ++ l) (written-append (end_ops locks t.ops) behind ∙ ap (λ l. l ++ written behind) end_is ∙ ap (λ l. written t.ops ++ l) (split_wrote p locks ts)) in
    let one = written-append t.ops behind ∙ ap (λ l. written t.ops ++ l) (split_wrote p locks ts) in
    elim (cases_Bool (p t)) [
      | inl e ↦ rw e both
      | inr e ↦ rw e one
    ]

-- identities with names of their own, which these numbers do not have
record AreNew (locks : Locks) (Is : ℕ → Type 0) : Type 0 where
  pub new : locks.taken ≡ true → (v w : ℕ) → Is v → Is w → locks.identity v ≢ w
  pub one : locks.taken ≡ true → (v w : ℕ) → Is v → Is w → locks.identity v ≡ locks.identity w → v ≡ w

record Named (locks : Locks) (wids : List ℕ) (x : ℕ) : Type 0 where
  pub wid : ℕ
  pub has : Has wid wids
  pub names : locks.identity wid ≡ x
  pub taken : locks.taken ≡ true

first_wrote : (locks : Locks) (ops : List Op) (q : List ℕ × ℕ) → Contains (locked_writes locks ops) q → Has q.1 (written ops)
first_wrote locks ops q c =
    Has-written ops q.0 q.1 (member (λ (r : List ℕ × ℕ). Contains ops (Write r.0 r.1)) (locked_writes locks ops) q (each_locked (Contains ops) locks ops (themselves ops)) c)

named_first : (locks : Locks) (ops : List Op) (x : ℕ) → Has x (idents locks (locked_writes locks ops)) → Named locks (written ops) x
named_first locks ops x h =
    let q = of_mapped (λ (q : List ℕ × ℕ). locks.identity q.1) (locked_writes locks ops) x (Contains-from_Has (idents locks (locked_writes locks ops)) x h) in
    record { wid = q.0.1; has = first_wrote locks ops q.0 q.1; names = q.2; taken = taken_where_locked locks ops q.0 q.1 }

named_of : (p : Test) (locks : Locks) (t : Transaction) (x : ℕ) → Has x (idents_of p locks t) → Named locks (written t.ops) x
named_of p locks t x h = elim (cases_Bool (p t)) [
  | inl e ↦ named_first locks t.ops x (rw e at h)
  | inr e ↦ absurd (rw e at h)
]

written_or_named : (p : Test) (locks : Locks) (ts : List Transaction) (x : ℕ) → Has x (mixed p locks ts) → Has x (written (ops_by ts)) ⊎ Named locks (written (ops_by ts)) x
written_or_named p locks [] x h = absurd h
written_or_named p locks (t ∷ ts) x h = elim (Has-append_cases x (idents_of p locks t) (written t.ops ++ mixed p locks ts) h) [
  | inl a ↦ let n = named_of p locks t x a in inr (record { wid = n.wid; has = front n.wid n.has; names = n.names; taken = n.taken })
  | inr b ↦ elim (Has-append_cases x (written t.ops) (mixed p locks ts) b) [
    | inl a ↦ inl (front x a)
    | inr c ↦ elim (written_or_named p locks ts x c) [
      | inl a ↦ inl (back x a)
      | inr n ↦ inr (record { wid = n.wid; has = back n.wid n.has; names = n.names; taken = n.taken })
    ]
  ]
]
  where
    front : (w : ℕ) → Has w (written t.ops) → Has w (written (ops_by (t ∷ ts)))
    front w a = subst (Has w) (sym (written-append t.ops (ops_by ts))) (Has-append_front w (written t.ops) (written (ops_by ts)) a)

    back : (w : ℕ) → Has w (written (ops_by ts)) → Has w (written (ops_by (t ∷ ts)))
    back w a = subst (Has w) (sym (written-append t.ops (ops_by ts))) (Has-append_back w (written t.ops) (written (ops_by ts)) a)

-- of one transaction
behind_wrote : (before : List (List ℕ)) (ops : List Op) (q : List ℕ × ℕ) → Contains (first_writes_behind before ops) q → Has q.1 (written ops)
behind_wrote before [] q c = absurd (omega (arith, c.1))
behind_wrote before (Read key wid ∷ ops) q c = behind_wrote before ops q c
behind_wrote before (Write key wid ∷ ops) q c = elim (cases_Bool (list_any (bytes_eq key) before)) [
  | inl e ↦ inr (behind_wrote before ops q (rw e at c))
  | inr e ↦ elim (first_or_behind (key, wid) (first_writes_behind (key ∷ before) ops) q (rw e at c)) [
    | inl same ↦ inl (ap (λ p. p.1) same)
    | inr d ↦ inr (behind_wrote (key ∷ before) ops q d)
  ]
]

idents_apart : (locks : Locks) (Is : ℕ → Type 0) → AreNew locks Is → locks.taken ≡ true → (before : List (List ℕ)) (ops : List Op) → ((w : ℕ) → Has w (written ops) → Is w) → Apart (written ops) → Apart (idents locks (first_writes_behind before ops))
idents_apart locks Is fresh taken before [] f h = tt
idents_apart locks Is fresh taken before (Read key wid ∷ ops) f h = idents_apart locks Is fresh taken before ops f h
idents_apart locks Is fresh taken before (Write key wid ∷ ops) f h = elim (cases_Bool (list_any (bytes_eq key) before)) [
  | inl e ↦ rw e (idents_apart locks Is fresh taken before ops (λ w k. f w (inr k)) h.1)
  | inr e ↦ rw e (none, idents_apart locks Is fresh taken (key ∷ before) ops (λ w k. f w (inr k)) h.1)
]
  where
    none : Has (locks.identity wid) (idents locks (first_writes_behind (key ∷ before) ops)) → ⊥
    none k =
        let q = of_mapped (λ (q : List ℕ × ℕ). locks.identity q.1) (first_writes_behind (key ∷ before) ops) (locks.identity wid) (Contains-from_Has (idents locks (first_writes_behind (key ∷ before) ops)) (locks.identity wid) k) in
        let has = behind_wrote (key ∷ before) ops q.0 q.1 in
        let same : q.0.1 ≡ wid = fresh.one taken q.0.1 wid (f q.0.1 (inr has)) (f wid (inl refl)) q.2 in
        h.0 (subst (λ w. Has w (written ops)) same has)

locked_apart : (locks : Locks) (Is : ℕ → Type 0) → AreNew locks Is → (ops : List Op) → ((w : ℕ) → Has w (written ops) → Is w) → Apart (written ops) → Apart (idents locks (locked_writes locks ops))
locked_apart locks Is fresh ops f h = elim (cases_Bool locks.taken) [
  | inl e ↦ rw e (idents_apart locks Is fresh e [] ops f h)
  | inr e ↦ rw e tt
]

-- of all
mixed_apart : (p : Test) (locks : Locks) (Is : ℕ → Type 0) → AreNew locks Is → (ts : List Transaction) → ((w : ℕ) → Has w (written (ops_by ts)) → Is w) → Apart (written (ops_by ts)) → Apart (mixed p locks ts)
mixed_apart p locks Is fresh [] f h = tt
mixed_apart p locks Is fresh (t ∷ ts) f h =
    Apart-append (idents_of p locks t) (written t.ops ++ mixed p locks ts) of_one
    (Apart-append (written t.ops) (mixed p locks ts) once (mixed_apart p locks Is fresh ts is_back (once_back t.ops (ops_by ts) h)) later) locked
  where
    is_front : (w : ℕ) → Has w (written t.ops) → Is w
    is_front w a = f w (subst (Has w) (sym (written-append t.ops (ops_by ts))) (Has-append_front w (written t.ops) (written (ops_by ts)) a))

    is_back : (w : ℕ) → Has w (written (ops_by ts)) → Is w
    is_back w a = f w (subst (Has w) (sym (written-append t.ops (ops_by ts))) (Has-append_back w (written t.ops) (written (ops_by ts)) a))

    once : Apart (written t.ops)
    once = once_front t.ops (ops_by ts) h

    of_one : Apart (idents_of p locks t)
    of_one = elim (cases_Bool (p t)) [
      | inl e ↦ rw e (locked_apart locks Is fresh t.ops is_front once)
      | inr e ↦ rw e tt
    ]

    later : (x : ℕ) → Has x (written t.ops) → Has x (mixed p locks ts) → ⊥
    later x a b = elim (written_or_named p locks ts x b) [
      | inl c ↦ not_both x t.ops (ops_by ts) h a c
      | inr n ↦ fresh.new n.taken n.wid x (is_back n.wid n.has) (is_front x a) n.names
    ]

    locked : (x : ℕ) → Has x (idents_of p locks t) → Has x (written t.ops ++ mixed p locks ts) → ⊥
    locked x a b = let n = named_of p locks t x a in elim (Has-append_cases x (written t.ops) (mixed p locks ts) b) [
      | inl c ↦ fresh.new n.taken n.wid x (is_front n.wid n.has) (is_front x c) n.names
      | inr c ↦ elim (written_or_named p locks ts x c) [
        | inl d ↦ fresh.new n.taken n.wid x (is_front n.wid n.has) (is_back x d) n.names
        | inr m ↦
            let same : n.wid ≡ m.wid = fresh.one n.taken n.wid m.wid (is_front n.wid n.has) (is_back m.wid m.has) (n.names ∙ sym m.names) in
            not_both m.wid t.ops (ops_by ts) h (subst (λ w. Has w (written t.ops)) same n.has) m.has
      ]
    ]

-- ---- sound
split_sound : (p : Test) (locks : Locks) (ss : List ClientSession) → (locks.taken ≡ true → AreFresh locks ss) → (locks.taken ≡ true → AreLegalLocks locks ss) → IsSoundLog ss → IsSoundLog (by_test p locks ss)
split_sound p locks ss fresh names sound = record {
  sessions = subst (IsDistinct nat_eq) (sym (split_numbers p locks ss)) sound.sessions;
  writes = IsDistinct-from_Apart (0 ∷ written (ops_in (by_test p locks ss))) (subst (λ l. Apart (0 ∷ l)) (sym is) (none, mixed_apart p locks (HasWritten ss) new (txns_in ss) within apart.1));
  ordered = subst (AllByRecursion IsOrdered) (sym (split_txns p locks ss)) (each_from_flat_map IsOrdered (parts p locks) (txns_in ss) (each_weaker IsOrdered (λ t. AllByRecursion IsOrdered (parts p locks t)) (λ t h. each_part IsOrdered p locks t (refl, (never_later t.ended, tt)) h) (txns_in ss) sound.ordered));
}
  where
    IsOrdered : Transaction → Type 0
    IsOrdered t = is_earlier t.ended t.begun ≡ false

    is : written (ops_in (by_test p locks ss)) ≡ mixed p locks (txns_in ss)
    is = ap (λ ts. written (ops_by ts)) (split_txns p locks ss) ∙ split_wrote p locks (txns_in ss)

    apart : Apart (0 ∷ written (ops_in ss))
    apart = Apart-from_IsDistinct (0 ∷ written (ops_in ss)) sound.writes

    new : AreNew locks (HasWritten ss)
    new = record { new = λ e. (fresh e).new_identity; one = λ e. (fresh e).one_identity }

    within : (w : ℕ) → Has w (written (ops_in ss)) → HasWritten ss w
    within w h = Contains-from_Has (written (ops_in ss)) w h

    none : Has 0 (mixed p locks (txns_in ss)) → ⊥
    none h = elim (written_or_named p locks (txns_in ss) 0 h) [
      | inl a ↦ apart.0 a
      | inr n ↦ let lo = ((names n.taken).identity n.wid (within n.wid n.has)).0 in let is_zero = n.names in omega (arith, lo, is_zero)
    ]

-- ---- the law
is_log : (p : Test) (locks : Locks) (ss : List ClientSession) → IsLog ss → (locks.taken ≡ true → AreFresh locks ss) → (locks.taken ≡ true → AreLegalLocks locks ss) → IsLog (by_test p locks ss)
is_log p locks ss log fresh names = record {
  legal = each_from_map IsLegal (halves p locks) ss (each_member (λ s. IsLegal (halves p locks s)) ss (λ s c. legal_session p locks ss names log.learnt s c (member IsLegal ss s log.legal c)));
  sound = split_sound p locks ss fresh names log.sound;
  learnt = by_test_learnt p locks ss log.learnt;
}

pub split_is_log : SplitIsLog
split_is_log ss locks log fresh names = (is_log (λ t. true) locks ss log (λ e. fresh) (λ e. names), is_log is_writer locks ss log (λ e. fresh) (λ e. names))

-- ---- outcomes resolved
same_legal : (locks : Locks) (ss other : List ClientSession) → ops_in other ≡ ops_in ss → AreLegalLocks locks ss → AreLegalLocks locks other
same_legal locks ss other e names = record {
  key = λ a h. names.key a (subst (λ ops. Contains (map key_of ops) a) e h);
  identity = λ v h. names.identity v (subst (λ ops. Contains (written ops) v) e h);
}

pub resolved_split_is_log : ResolvedSplitIsLog
resolved_split_is_log ss locks legal sound fresh names =
    subst (λ xs. IsLog (split locks xs) × IsLog (split_writers locks xs)) (sym (resolved_is ss))
    (split_is_log (settled (taken ss) ss) locks
    (record { legal = legal_settled (taken ss) ss legal; sound = settled_sound (taken ss) ss sound; learnt = settled_learnt (taken ss) ss })
    (same_fresh locks ss (settled (taken ss) ss) (ops_settled (taken ss) ss) fresh)
    (same_legal locks ss (settled (taken ss) ss) (ops_settled (taken ss) ss) names))

-- ---- without locks
pub bare_split_is_log : (ss : List ClientSession) (locks : Locks) → locks.taken ≡ false → IsLog ss → IsLog (split_writers locks ss)
bare_split_is_log ss locks none log = is_log is_writer locks ss log (λ e. absurd (false≢true (sym none ∙ e))) (λ e. absurd (false≢true (sym none ∙ e)))

pub log_settled : (chosen : ℕ → Bool) (ss : List ClientSession) → AllByRecursion IsLegal ss → IsSoundLog ss → IsLog (settled chosen ss)
log_settled chosen ss legal sound = record { legal = legal_settled chosen ss legal; sound = settled_sound chosen ss sound; learnt = settled_learnt chosen ss }
