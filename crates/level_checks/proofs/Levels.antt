-- A way through a whole order shows that it keeps the level.
use Rattle.level_checks.proofs.Prelude.{◌≡◌, ◌≢◌, ◌⊎◌, ℕ, zero, suc, ◌+◌, ◌-◌, ◌<◌, ◌≤◌, List, [], ◌∷◌, ◌++◌, length, map, Option, Some, None, refl, sym, ap, ◌∙◌, subst, inl, inr, arith, get_or, slice_get, slice_index, AllByRecursion}
use Rattle.level_checks.proofs.Prelude.{Contains, filter, enumerate_from, option_map_or, cases_Bool, cases_order, map-append, slice_get-get_or, get_or_from_slice_get, member, each_member, same_item, ClientSession, Transaction, Op, Read}
use Rattle.level_checks.proofs.Prelude.{Write, Has, Apart, Apart-from_IsDistinct, Contains-from_Has, place_of-here, place_of-further, length_mapped, each_weaker, Level, ReadCommitted, MonotonicAtomicView, ReadAtomic, Causal, last_write}
use Rattle.level_checks.proofs.Prelude.{ReadsBehind, WritesKey, IsEarlier, ReadsFrom, Direct, Past, Sees, IsLastSeen, FindsLast, IsLevelOrder, Look, Row, Chains, IsOwn, FoundIn, HeadBelow, IsFound, with_ops, Includes, SeenBy, NoneSeen}
use Rattle.level_checks.proofs.Prelude.{Brief, briefs, briefs_in, session_at, ops_at, number_at, ops_on, index_on, past, AreFound, IsKept, IsWalk}
use Rattle.std.proofs.lemmas.List.Elements.{Contains-append_left, Contains-append_right}
use Rattle.serializability.specs.Replay.{place_of, Before, ListsOnce}
use Rattle.serializability.proofs.Listed.{once_from}
use Rattle.serializability.proofs.Serial.{behind_zero}
use Rattle.log_definitions.specs.Unknown.{ops_in, txns_in, is_committed, resolved}
use Rattle.log_definitions.specs.WellFormed.{written}
use Rattle.log_definitions.specs.Serial.{Committed, committed_of, committed_in, node_of, session_of, ops_of}
use Rattle.log_definitions.proofs.Settled.{IsLearnt, txn_ops}
use Rattle.log_definitions.proofs.Nodes.{kept_in, node_ops, each_op}
use Rattle.log_definitions.proofs.Chosen.{Has-written}
use Rattle.log_definitions.proofs.Identities.{WriteOnce, WriteOnce-filter, once_resolved, one_writer}
use Rattle.log_laws.specs.Logs.{IsLearntLog, IsSoundLog}
use Rattle.log_laws.proofs.Txns.{split}
use Rattle.log_laws.proofs.Sessions.{nodes_of}
use Rattle.log_laws.proofs.Shifted.{nodes_are}
use Rattle.level_laws.specs.Seen.Past.{step, path}
use Rattle.level_checks.proofs.Judged.{includes_through}
use Rattle.level_checks.proofs.Found.{written_with, kept_with, each_with, none_written, last_first, found_member, found_before, found_split, read_source}

-- ---- the nodes
brief : Committed → Brief
brief = λ (c : Committed). (c.session, c.ops)

briefs_from : (number n : ℕ) (ts : List Transaction) → map (λ (c : Committed). (c.session, c.ops)) (map (λ (p : ℕ × Transaction). record { session = number; place = p.0; ops = p.1.ops; begun = p.1.begun; ended = p.1.ended }) (filter (λ (p : ℕ × Transaction). is_committed p.1) (enumerate_from n ts))) ≡ briefs number ts
briefs_from number n [] = refl
briefs_from number n (t ∷ ts) = elim (cases_Bool (is_committed t)) [
  | inl e ↦ rw e (ap (λ l. (number, t.ops) ∷ l) (briefs_from number (n + 1) ts))
  | inr e ↦ rw e (briefs_from number (n + 1) ts)
]

briefs_are : (ss : List ClientSession) → map (λ (c : Committed). (c.session, c.ops)) (nodes_of ss) ≡ briefs_in ss
briefs_are [] = refl
briefs_are (s ∷ ss) =
    map-append (λ (c : Committed). (c.session, c.ops)) (committed_of s) (nodes_of ss)
    ∙ ap (λ l. l ++ map (λ (c : Committed). (c.session, c.ops)) (nodes_of ss)) (briefs_from s.number 1 s.txns)
    ∙ ap (λ l. briefs s.number s.txns ++ l) (briefs_are ss)

ops_got : (cs : List Committed) (i : ℕ) → option_map_or (λ (b : Brief). b.1) (slice_get (map (λ (c : Committed). (c.session, c.ops)) cs) i) [] ≡ option_map_or (λ (c : Committed). c.ops) (slice_get cs i) []
ops_got [] i = refl
ops_got (c ∷ cs) zero = refl
ops_got (c ∷ cs) (suc i) = ops_got cs i

session_got : (cs : List Committed) (i : ℕ) → option_map_or (λ (b : Brief). b.0) (slice_get (map (λ (c : Committed). (c.session, c.ops)) cs) i) 0 ≡ option_map_or (λ (c : Committed). c.session) (slice_get cs i) 0
session_got [] i = refl
session_got (c ∷ cs) zero = refl
session_got (c ∷ cs) (suc i) = session_got cs i

nodes_same : (ss : List ClientSession) → IsLearntLog ss → map (λ (c : Committed). (c.session, c.ops)) (committed_in ss) ≡ briefs_in ss
nodes_same ss learnt = ap (map (λ (c : Committed). (c.session, c.ops))) (nodes_are ss (split IsLearnt ss learnt)) ∙ briefs_are ss

ops_same : (ss : List ClientSession) → IsLearntLog ss → (v : ℕ) → ops_at (briefs_in ss) v ≡ ops_of ss v
unfolding node_of
ops_same ss learnt zero = refl
ops_same ss learnt (suc i) = ap (λ l. option_map_or (λ (b : Brief). b.1) (slice_get l i) []) (sym (nodes_same ss learnt)) ∙ ops_got (committed_in ss) i

session_same : (ss : List ClientSession) → IsLearntLog ss → (v : ℕ) → session_at (briefs_in ss) v ≡ session_of ss v
unfolding node_of
session_same ss learnt zero = refl
session_same ss learnt (suc i) = ap (λ l. option_map_or (λ (b : Brief). b.0) (slice_get l i) 0) (sym (nodes_same ss learnt)) ∙ session_got (committed_in ss) i

within_got : (cs : List Committed) (i : ℕ) (o : Op) → Contains (option_map_or (λ (c : Committed). c.ops) (slice_get cs i) []) o → i < length cs
within_got [] i o c = absurd (omega (arith, c.1))
within_got (x ∷ cs) zero o c = omega arith
within_got (x ∷ cs) (suc i) o c = let r = within_got cs i o c in omega (arith, r)

is_node : (ss : List ClientSession) (v : ℕ) (o : Op) → Contains (ops_of ss v) o → (0 < v) × (v ≤ length (committed_in ss))
unfolding node_of
is_node ss zero o c = absurd (omega (arith, c.1))
is_node ss (suc i) o c = let r = within_got (committed_in ss) i o c in (omega arith, omega (arith, r))

-- ---- identities
one_got : (ts : List Transaction) (i j : ℕ) (k l : List ℕ) (w : ℕ) → WriteOnce ts → Contains (option_map_or txn_ops (slice_get ts i) []) (Write k w) → Contains (option_map_or txn_ops (slice_get ts j) []) (Write l w) → i ≡ j
one_got ts i j k l w once c d = at (slice_get ts i) (slice_get ts j) refl refl c d
  where
    at : (o p : Option Transaction) → slice_get ts i ≡ o → slice_get ts j ≡ p → Contains (option_map_or txn_ops o []) (Write k w) → Contains (option_map_or txn_ops p []) (Write l w) → i ≡ j
    at None p e f c d = absurd (omega (arith, c.1))
    at (Some t) None e f c d = absurd (omega (arith, d.1))
    at (Some t) (Some u) e f c d = one_writer ts i j t u w once e f (Has-written t.ops k w c) (Has-written u.ops l w d)

one_node : (ss : List ClientSession) → Apart (written (ops_in ss)) → (u v : ℕ) (k l : List ℕ) (w : ℕ) → Contains (ops_of ss u) (Write k w) → Contains (ops_of ss v) (Write l w) → u ≡ v
one_node ss apart zero v k l w c d = absurd (let n = (is_node ss 0 (Write k w) c).0 in omega (arith, n))
one_node ss apart (suc i) zero k l w c d = absurd (let n = (is_node ss 0 (Write l w) d).0 in omega (arith, n))
one_node ss apart (suc i) (suc j) k l w c d =
    ap suc (one_got (kept_in ss) i j k l w (WriteOnce-filter is_committed (txns_in (resolved ss)) (once_resolved ss apart))
    (subst (λ ops. Contains ops (Write k w)) (node_ops ss i) c) (subst (λ ops. Contains ops (Write l w)) (node_ops ss j) d))

no_zero : (ss : List ClientSession) → Apart (0 ∷ written (ops_in ss)) → (v : ℕ) (k : List ℕ) → Contains (ops_of ss v) (Write k 0) → ⊥
no_zero ss apart v k c = member (λ (o : Op). o ≡ Write k 0 → ⊥) (ops_of ss v) (Write k 0)
    (each_op (λ (o : Op). o ≡ Write k 0 → ⊥) ss (each_member (λ (o : Op). o ≡ Write k 0 → ⊥) (ops_in ss) (λ o d e. apart.0 (Has-written (ops_in ss) k 0 (subst (Contains (ops_in ss)) e d)))) v) c refl

-- ---- places
place_at : (order : List ℕ) (i : ℕ) → Apart order → i < length order → place_of order (slice_index order i) ≡ i
place_at [] i apart lt = absurd (omega (arith, lt))
place_at (x ∷ xs) zero apart lt = place_of-here x xs
place_at (x ∷ xs) (suc i) apart lt =
    let less : i < length xs = omega (arith, lt) in
    place_of-further x (slice_index xs i) xs (λ e. apart.0 (subst (λ v. Has v xs) (sym e) (has_at xs i less))) ∙ ap suc (place_at xs i apart.1 less)
  where
    has_at : (ys : List ℕ) (j : ℕ) → j < length ys → Has (slice_index ys j) ys
    has_at [] j less = absurd (omega (arith, less))
    has_at (y ∷ ys) zero less = inl refl
    has_at (y ∷ ys) (suc j) less = inr (has_at ys j (omega (arith, less)))

apart_from : (order : List ℕ) → ((j k : ℕ) → j < k → k < length order → slice_index order j ≡ slice_index order k → ⊥) → Apart order
apart_from [] h = tt
apart_from (x ∷ xs) h = (
  λ has. (let c = Contains-from_Has xs x has in h 0 (suc c.0) (omega arith) (omega (arith, c.1)) (sym (index_is xs c.0 x c.1 c.2))),
  apart_from xs (λ j k less lt e. h (suc j) (suc k) (omega (arith, less)) (omega (arith, lt)) e),
)
  where
    index_is : (ys : List ℕ) (k y : ℕ) → k < length ys → get_or ys k y ≡ y → slice_index ys k ≡ y
    index_is ys k y lt e = get_or_from_slice_get ys k (get_or ys k y) 0 (slice_get-get_or ys k y lt) ∙ e

index_has : (ys : List ℕ) (k y : ℕ) → k < length ys → get_or ys k y ≡ y → slice_index ys k ≡ y
index_has ys k y lt e = get_or_from_slice_get ys k (get_or ys k y) 0 (slice_get-get_or ys k y lt) ∙ e

-- ---- numbers
same_le : (a b : ℕ) → a ≡ b → b ≤ a
same_le a b e = omega (arith, e)

less_le : (a b : ℕ) → a < b → a ≤ b
less_le a b lt = omega (arith, lt)

less_both : (a b c : ℕ) → a < b → b < c → a < c
less_both a b c f g = omega (arith, f, g)

never_zero : (i t : ℕ) → suc i ≤ t → t ≡ 0 → ⊥
never_zero i t le z = omega (arith, le, z)

not_between : (i j t : ℕ) → i < j → suc j ≤ t → suc i ≡ t → ⊥
not_between i j t lt le e = omega (arith, lt, le, e)

index_below : (i j t : ℕ) → suc i ≡ t → t < suc j → i < j
index_below i j t e lt = omega (arith, e, lt)

below_length : (i j n : ℕ) → i < suc j → j < n → i ≤ n
below_length i j n lt less = omega (arith, lt, less)

-- ---- the writes of each key
abbrev IsWrite : List Brief → List ℕ → List ℕ → ℕ × ℕ → Type 0
IsWrite nodes order key x = (0 < x.0) × Contains (ops_on nodes order x.0) (Write key x.1)

past_each : (nodes : List Brief) (order : List ℕ) → (i : ℕ) (key : List ℕ) → AllByRecursion (IsWrite nodes order key) (past nodes order i key)
past_each nodes order zero key = tt
past_each nodes order (suc i) key = each_with (IsWrite nodes order) (suc i) (ops_on nodes order (suc i)) (past nodes order i) (λ k w c. (omega arith, c)) (past_each nodes order i) key

past_below : (nodes : List Brief) (order : List ℕ) → (i : ℕ) (key : List ℕ) → AllByRecursion (λ (x : ℕ × ℕ). x.0 ≤ i) (past nodes order i key)
past_below nodes order zero key = tt
past_below nodes order (suc i) key = each_with (λ k x. x.0 ≤ suc i) (suc i) (ops_on nodes order (suc i)) (past nodes order i) (λ k w c. omega arith) (λ k. each_weaker (λ (x : ℕ × ℕ). x.0 ≤ i) (λ (x : ℕ × ℕ). x.0 ≤ suc i) (λ x le. omega (arith, le)) (past nodes order i k) (past_below nodes order i k)) key

in_past : (nodes : List Brief) (order : List ℕ) → (i q : ℕ) (key : List ℕ) (w : ℕ) → 0 < q → q ≤ i → Contains (ops_on nodes order q) (Write key w) → Contains (past nodes order i key) (q, w)
in_past nodes order zero q key w lo hi c = absurd (omega (arith, lo, hi))
in_past nodes order (suc i) q key w lo hi c = elim (cases_order q (suc i)) [
  | inl e ↦ subst (λ p. Contains (past nodes order (suc i) key) (p, w)) (sym e) (written_with (suc i) (ops_on nodes order (suc i)) (past nodes order i) key w (subst (λ p. Contains (ops_on nodes order p) (Write key w)) e c))
  | inr ne ↦ kept_with (suc i) (ops_on nodes order (suc i)) (past nodes order i) key (q, w) (in_past nodes order i q key w lo (elim ne [ inl less ↦ omega (arith, less) | inr more ↦ absurd (omega (arith, more, hi)) ]) c)
]

final_at : (nodes : List Brief) (order : List ℕ) → (i t : ℕ) (key : List ℕ) (wid : ℕ) → 0 < t → FoundIn (past nodes order i key) wid t → last_write key (ops_on nodes order t) ≡ Some wid
final_at nodes order zero t key wid lo f = absurd (omega (arith, lo, f.0))
final_at nodes order (suc i) t key wid lo f = elim (found_member (past nodes order (suc i) key) wid t f) [
  | inl z ↦ absurd (omega (arith, lo, z.0))
  | inr c ↦ elim (cases_order t (suc i)) [
    | inr ne ↦ elim ne [
      | inl less ↦ final_at nodes order i t key wid lo (found_before (suc i) (ops_on nodes order (suc i)) (past nodes order i) key wid t less f)
      | inr more ↦ absurd (let le = member (λ (x : ℕ × ℕ). x.0 ≤ suc i) (past nodes order (suc i) key) (t, wid) (past_below nodes order (suc i) key) c in omega (arith, le, more))
    ]
    | inl e ↦ subst (λ p. last_write key (ops_on nodes order p) ≡ Some wid) (sym e) (newest e (last_write key (ops_on nodes order (suc i))) refl)
  ]
]
  where
    newest : t ≡ suc i → (o : Option ℕ) → last_write key (ops_on nodes order (suc i)) ≡ o → last_write key (ops_on nodes order (suc i)) ≡ Some wid
    newest here None e = absurd (elim (found_member (past nodes order i key) wid t (subst (λ l. FoundIn l wid t) (none_written (suc i) (ops_on nodes order (suc i)) (past nodes order i) key e) f)) [
      | inl z ↦ omega (arith, lo, z.0)
      | inr c ↦ let le = member (λ (x : ℕ × ℕ). x.0 ≤ i) (past nodes order i key) (t, wid) (past_below nodes order i key) c in omega (arith, le, here)
    ])
    newest here (Some w) e = first (subst (λ l. FoundIn l wid t) r.1 f)
      where
        r : (more : List (ℕ × ℕ)) × (with_ops (suc i) (ops_on nodes order (suc i)) (past nodes order i) key ≡ (suc i, w) ∷ more)
        r = last_first (suc i) (ops_on nodes order (suc i)) (past nodes order i) key w e

        first : FoundIn ((suc i, w) ∷ r.0) wid t → last_write key (ops_on nodes order (suc i)) ≡ Some wid
        first (inl p) = e ∙ ap Some p.1
        first (inr h) = absurd (omega (arith, h.0, here))

-- where a node stands
record At (order : List ℕ) (u : ℕ) : Type 0 where
  pub index : ℕ
  pub less : index < length order
  pub is : number_at order (suc index) ≡ u

at_position : (order : List ℕ) (q u : ℕ) → 0 < q → q ≤ length order → number_at order q ≡ u → (a : At order u) × (suc a.index ≡ q)
at_position order zero u lo hi e = absurd (omega (arith, lo))
at_position order (suc i) u lo hi e = (record { index = i; less = omega (arith, hi); is = e }, refl)

-- what a read sees stands at an index before
record SeenAt (order : List ℕ) (u i : ℕ) (P : ℕ → Type 0) : Type 0 where
  pub index : ℕ
  pub less : index < i
  pub is : number_at order (suc index) ≡ u
  pub seen : P (suc index)

-- a node that another one follows, whose row this is
record Follows (order : List ℕ) (rows : List Row) (u i : ℕ) (row : List ℕ) : Type 0 where
  pub index : ℕ
  pub less : index < i
  pub is : number_at order (suc index) ≡ u
  pub includes : Includes rows row (suc index)

-- what is known of a read
record ReadAt (level : Level) (indices : List ℕ) (nodes : List Brief) (order : List ℕ) (rows : List Row) (K : (i : ℕ) → i < length order → IsKept level indices nodes order rows i) (v : ℕ) (before : List Op) (key : List ℕ) (wid : ℕ) : Type 0 where
  pub index : ℕ
  pub less : index < length order
  pub is : number_at order (suc index) ≡ v
  pub behind : List Op
  pub ops : ops_on nodes order (suc index) ≡ before ++ behind
  pub first : List Look
  pub front : AreFound (index_on indices nodes order) (suc index) (SeenBy level (K index less).row (index_on indices nodes order (suc index)) (K index less).looks) (past nodes order index) before [] first
  pub here : IsOwn (with_ops (suc index) before (past nodes order index) key) (suc index) wid
      ⊎ ((look : Look) × IsFound (suc index) (with_ops (suc index) before (past nodes order index) key) wid look.source × NoneSeen (index_on indices nodes order) (SeenBy level (K index less).row (index_on indices nodes order (suc index)) (K index less).looks first) look.source (with_ops (suc index) before (past nodes order index) key))

first_found : (of : ℕ → ℕ) (p : ℕ) (seen : List Look → ℕ → ℕ → Type 0) (chains : Chains) (key : List ℕ) (wid : ℕ) (ops : List Op) (front looks : List Look) → AreFound of p seen chains (Read key wid ∷ ops) front looks
    → IsOwn (chains key) p wid ⊎ ((look : Look) × IsFound p (chains key) wid look.source × NoneSeen of (seen front) look.source (chains key))
first_found of p seen chains key wid ops front [] f = absurd f
first_found of p seen chains key wid ops front (look ∷ looks) f = elim f.0 [
  | inl own ↦ inl own
  | inr found ↦ inr (look, found.0, found.1)
]

same_head : (xs : List (ℕ × ℕ)) (x y : ℕ × ℕ) (more less : List (ℕ × ℕ)) → xs ≡ x ∷ more → xs ≡ y ∷ less → x ≡ y
same_head xs x y more less e f = cc

-- what a way through the order shows
record Basis (level : Level) (ss : List ClientSession) (order indices : List ℕ) (rows : List Row) : Type 0 where
  pub once : ListsOnce (length (committed_in ss)) order
  pub sessions : (u v : ℕ) → IsEarlier ss u v → Before order u v
  pub reads_from : (u v : ℕ) → ReadsFrom ss u v → Before order u v
  pub positive : (u : ℕ) → At order u → 0 < u
  pub different : (j k : ℕ) → j < k → k < length order → number_at order (suc j) ≡ number_at order (suc k) → ⊥
  pub before_at : (u v : ℕ) → 0 < u → 0 < v → (a : At order u) (b : At order v) → a.index < b.index → Before order u v
  pub on_is : (q u : ℕ) → number_at order q ≡ u → ops_on (briefs_in ss) order q ≡ ops_of ss u
  pub kept : (i : ℕ) → i < length order → IsKept level indices (briefs_in ss) order rows i
  pub seen_at : (u v : ℕ) (before behind : List Op) (i : ℕ) (lt : i < length order) → number_at order (suc i) ≡ v → ops_on (briefs_in ss) order (suc i) ≡ before ++ behind → (first : List Look)
      → AreFound (index_on indices (briefs_in ss) order) (suc i) (SeenBy level (kept i lt).row (index_on indices (briefs_in ss) order (suc i)) (kept i lt).looks) (past (briefs_in ss) order i) before [] first
      → Sees level ss u v before → SeenAt order u i (λ q. SeenBy level (kept i lt).row (index_on indices (briefs_in ss) order (suc i)) (kept i lt).looks first (index_on indices (briefs_in ss) order q) q)
  pub record_of : (v : ℕ) (before : List Op) (key : List ℕ) (wid : ℕ) → ReadsBehind ss v before key wid → ReadAt level indices (briefs_in ss) order rows kept v before key wid

basis : (level : Level) (ss : List ClientSession) (order indices : List ℕ) → IsLearntLog ss → IsSoundLog ss → (walk : IsWalk level indices (briefs_in ss) order) → Basis level ss order indices walk.rows
basis level ss order indices learnt sound walk = record {
  once = once;
  sessions = sessions;
  reads_from = reads_from;
  positive = positive;
  different = different;
  before_at = before_at;
  on_is = on_is;
  kept = kept;
  seen_at = seen_at level refl;
  record_of = record_of;
}
  where
    nodes : List Brief
    nodes = briefs_in ss

    n : ℕ
    n = length (committed_in ss)

    of : ℕ → ℕ
    of = index_on indices nodes order

    on : ℕ → List Op
    on = ops_on nodes order

    at : ℕ → ℕ
    at = number_at order

    rows : List Row
    rows = walk.rows

    long : length order ≡ n
    long = walk.count ∙ sym (ap length (nodes_same ss learnt)) ∙ length_mapped (λ (c : Committed). (c.session, c.ops)) (committed_in ss)

    different : (j k : ℕ) → j < k → k < length order → at (suc j) ≡ at (suc k) → ⊥
    different j k less lt e =
        let r = walk.all.rising j k less lt (ap (λ v. slice_index indices (session_at nodes v)) e) in omega (arith, r, e)

    apart : Apart order
    apart = apart_from order different

    distinct : Apart (0 ∷ written (ops_in ss))
    distinct = Apart-from_IsDistinct (0 ∷ written (ops_in ss)) sound.writes

    on_is : (q u : ℕ) → at q ≡ u → on q ≡ ops_of ss u
    on_is q u e = ap (ops_at nodes) e ∙ ops_same ss learnt u

    same_node : (u v : ℕ) (k l : List ℕ) (w : ℕ) → Contains (ops_of ss u) (Write k w) → Contains (ops_of ss v) (Write l w) → u ≡ v
    same_node = one_node ss distinct.1

    within : (v : ℕ) → Has v order → (0 < v) × (v ≤ n)
    within v has =
        let c = Contains-from_Has order v has in
        let is : slice_index order c.0 ≡ v = index_has order c.0 v c.1 c.2 in
        let r = walk.all.numbers c.0 c.1 in
        (omega (arith, r.0, is), omega (arith, r.1, is, long, walk.count))

    once : ListsOnce n order
    once = once_from n order long apart within

    stands : (v : ℕ) → 0 < v → v ≤ n → At order v
    stands v lo hi = let c = once.each v lo hi in record { index = c.0; less = c.1; is = index_has order c.0 v c.1 c.2 }

    before_at : (u v : ℕ) → 0 < u → 0 < v → (a : At order u) (b : At order v) → a.index < b.index → Before order u v
    before_at u v lo hi a b lt =
        let pu : place_of order u ≡ a.index = ap (place_of order) (sym a.is) ∙ place_at order a.index apart a.less in
        let pv : place_of order v ≡ b.index = ap (place_of order) (sym b.is) ∙ place_at order b.index apart b.less in
        omega (arith, behind_zero order u lo, behind_zero order v hi, pu, pv, lt)

    -- ---- sessions
    same_index : (u v : ℕ) → session_of ss u ≡ session_of ss v → (a : At order u) (b : At order v) → of (suc a.index) ≡ of (suc b.index)
    same_index u v e a b = ap (slice_index indices) (ap (session_at nodes) a.is ∙ session_same ss learnt u ∙ e ∙ sym (session_same ss learnt v) ∙ ap (session_at nodes) (sym b.is))

    earlier_at : (u v : ℕ) → IsEarlier ss u v → (a : At order u) (b : At order v) → a.index < b.index
    earlier_at u v e a b = elim (cases_order a.index b.index) [
      | inl same ↦ absurd (let eq : u ≡ v = sym a.is ∙ ap (λ i. at (suc i)) same ∙ b.is in omega (arith, e.less, eq))
      | inr ne ↦ elim ne [
        | inl less ↦ less
        | inr more ↦ absurd (let r = walk.all.rising b.index a.index more a.less (sym (same_index u v e.session a b)) in omega (arith, r, a.is, b.is, e.less))
      ]
    ]

    low_of : (u v : ℕ) → IsEarlier ss u v → (0 < u) × (u ≤ n) × (0 < v)
    low_of u v e = (e.low, omega (arith, e.less, e.high), omega (arith, e.less))

    sessions : (u v : ℕ) → IsEarlier ss u v → Before order u v
    sessions u v e =
        let l = low_of u v e in
        let a = stands u l.0 l.1 in
        let b = stands v l.2 e.high in
        before_at u v l.0 l.2 a b (earlier_at u v e a b)

    -- ---- reads
    position_of : (q u : ℕ) → 0 < q → q ≤ length order → at q ≡ u → (a : At order u) × (suc a.index ≡ q)
    position_of = at_position order

    -- a read of what another node writes has its look
    read_at : (i : ℕ) (chains : Chains) (seen : List Look → ℕ → ℕ → Type 0) (ops : List Op) (front looks : List Look) → ((k : List ℕ) (w : ℕ) → Contains ops (Write k w) → Contains (on (suc i)) (Write k w)) → ((k : List ℕ) → AllByRecursion (IsWrite nodes order k) (chains k))
        → AreFound of (suc i) seen chains ops front looks → (u : ℕ) (key : List ℕ) (wid : ℕ) → u ≢ at (suc i) → Contains (ops_of ss u) (Write key wid) → Contains ops (Read key wid) → (look : Look) × Contains looks look × (0 < look.source) × (look.source ≤ i) × (at look.source ≡ u)
    read_at i chains seen ops front looks sub each are u key wid other writes reads = elim (read_source of (IsWrite nodes order) (suc i) seen chains ops front looks (λ k w c. (omega arith, sub k w c)) each are key wid reads) [
      | inl own ↦ absurd (other (same_node u (at (suc i)) key key wid writes (subst (λ l. Contains l (Write key wid)) (on_is (suc i) (at (suc i)) refl) own.1)))
      | inr s ↦ elim s.is [
        | inl z ↦ absurd (no_zero ss distinct u key (subst (λ w. Contains (ops_of ss u) (Write key w)) z.1 writes))
        | inr w ↦ (s.look, s.among, w.0, omega (arith, s.below), same_node (at s.look.source) u key key wid (subst (λ l. Contains l (Write key wid)) (on_is s.look.source (at s.look.source) refl) w.1) writes)
      ]
    ]

    kept : (i : ℕ) → i < length order → IsKept level indices nodes order rows i
    kept = walk.all.kept

    seen_of : (i : ℕ) (k : IsKept level indices nodes order rows i) → List Look → ℕ → ℕ → Type 0
    seen_of i k = SeenBy level k.row (of (suc i)) k.looks

    whole_read : (i : ℕ) (k : IsKept level indices nodes order rows i) (u v : ℕ) → at (suc i) ≡ v → ReadsFrom ss u v → (look : Look) × Contains k.looks look × (0 < look.source) × (look.source ≤ i) × (at look.source ≡ u)
    whole_read i k u v is r = read_at i (past nodes order i) (seen_of i k) (on (suc i)) [] k.looks (λ l w c. c) (past_each nodes order i) k.found u r.key r.wid (λ e. r.other (e ∙ is)) r.writes
        (subst (λ l. Contains l (Read r.key r.wid)) (sym (on_is (suc i) v is)) r.reads)

    reads_from : (u v : ℕ) → ReadsFrom ss u v → Before order u v
    reads_from u v r =
        let nu = is_node ss u (Write r.key r.wid) r.writes in
        let nv = is_node ss v (Read r.key r.wid) r.reads in
        let b = stands v nv.0 nv.1 in
        let w = whole_read b.index (kept b.index b.less) u v b.is r in
        let a = position_of w.0.source u w.2 (omega (arith, w.3, b.less)) w.4 in
        before_at u v nu.0 nv.0 a.0 b (omega (arith, a.1, w.3))

    -- ---- what is seen
    direct_node : (u v : ℕ) → Direct ss u v → (0 < v) × (v ≤ n)
    direct_node u v (inl e) = (omega (arith, e.less), e.high)
    direct_node u v (inr r) = is_node ss v (Read r.key r.wid) r.reads

    follows_one : (c : level ≡ Causal) → (u v : ℕ) → Direct ss u v → (i : ℕ) (lt : i < length order) → at (suc i) ≡ v → Follows order rows u i (kept i lt).row
    follows_one c u v (inl e) i lt is =
        let l = low_of u v e in
        let a = stands u l.0 l.1 in
        let b : At order v = record { index = i; less = lt; is = is } in
        let less = earlier_at u v e a b in
        record { index = a.index; less = less; is = a.is; includes = ((kept i lt).causal c).earlier (suc a.index) (omega arith) (omega (arith, less)) (same_index u v e.session a b) }
    follows_one c u v (inr r) i lt is =
        let k = kept i lt in
        let w = whole_read i k u v is r in
        let a = position_of w.0.source u w.2 (omega (arith, w.3, lt)) w.4 in
        record { index = a.0.index; less = omega (arith, a.1, w.3); is = a.0.is; includes = subst (Includes rows k.row) (sym a.1) (member (λ (look : Look). Includes rows k.row look.source) k.looks w.0 (k.causal c).sources w.1) }

    past_follows : (c : level ≡ Causal) → (u v : ℕ) → Past ss u v → (i : ℕ) (lt : i < length order) → at (suc i) ≡ v → Follows order rows u i (kept i lt).row
    past_follows c u v (step a b d) i lt is = follows_one c a b d i lt is
    past_follows c u v (path a w b d p) i lt is =
        let f = past_follows c w b p i lt is in
        let there : f.index < length order = omega (arith, f.less, lt) in
        let g = follows_one c a w d f.index there f.is in
        let k = (kept f.index there).causal c in
        record {
          index = g.index;
          less = omega (arith, g.less, f.less);
          is = g.is;
          includes = includes_through rows (kept i lt).row (suc f.index) (suc g.index) k.at f.includes (omega arith) k.there (subst (λ l. Includes rows l (suc g.index)) (sym k.same) g.includes);
        }

    reached : (c : level ≡ Causal) (j i : ℕ) (less : j < length order) (lt : i < length order) → Includes rows (kept i lt).row (suc j) → suc j ≤ slice_index (kept i lt).row (of (suc j))
    reached c j i less lt includes =
        let r = includes.each (omega arith) in
        let k = (kept j less).causal c in
        let same : r.0 ≡ k.at = same_item rows (suc j - 1) r.0 k.at r.1 k.there in
        let row : r.0.reach.items ≡ (kept j less).row = ap (λ (a : Row). a.reach.items) same ∙ k.same in
        omega (arith, k.own, r.2.each (of (suc j)), ap (λ l. slice_index l (of (suc j))) row)

    seen_at : (l : Level) → level ≡ l → (u v : ℕ) (before behind : List Op) (i : ℕ) (lt : i < length order) → at (suc i) ≡ v → on (suc i) ≡ before ++ behind → (first : List Look) → AreFound of (suc i) (seen_of i (kept i lt)) (past nodes order i) before [] first
        → Sees l ss u v before → SeenAt order u i (λ q. SeenBy l (kept i lt).row (of (suc i)) (kept i lt).looks first (of q) q)
    seen_at ReadCommitted e u v before behind i lt is parts first are r = absurd r
    seen_at MonotonicAtomicView e u v before behind i lt is parts first are r =
        let w = read_at i (past nodes order i) (seen_of i (kept i lt)) before [] first (λ k x c. subst (λ l. Contains l (Write k x)) (sym parts) (Contains-append_left before behind (Write k x) c)) (past_each nodes order i) are u r.key r.wid (λ e. r.other (e ∙ is)) r.writes r.reads in
        let a = position_of w.0.source u w.2 (omega (arith, w.3, lt)) w.4 in
        record { index = a.0.index; less = omega (arith, a.1, w.3); is = a.0.is; seen = (w.0, w.1, sym a.1) }
    seen_at ReadAtomic e u v before behind i lt is parts first are (inl s) =
        let l = low_of u v s in
        let a = stands u l.0 l.1 in
        let b : At order v = record { index = i; less = lt; is = is } in
        record { index = a.index; less = earlier_at u v s a b; is = a.is; seen = inl (same_index u v s.session a b) }
    seen_at ReadAtomic e u v before behind i lt is parts first are (inr r) =
        let w = whole_read i (kept i lt) u v is r in
        let a = position_of w.0.source u w.2 (omega (arith, w.3, lt)) w.4 in
        record { index = a.0.index; less = omega (arith, a.1, w.3); is = a.0.is; seen = inr (w.0, w.1, sym a.1) }
    seen_at Causal e u v before behind i lt is parts first are p =
        let f = past_follows e u v p i lt is in
        record { index = f.index; less = f.less; is = f.is; seen = reached e f.index i (omega (arith, f.less, lt)) lt f.includes }

    -- ---- what a read finds
    record_of : (v : ℕ) (before : List Op) (key : List ℕ) (wid : ℕ) → ReadsBehind ss v before key wid → ReadAt level indices nodes order rows kept v before key wid
    record_of v before key wid (behind, e) =
        let c : Contains (ops_of ss v) (Read key wid) = subst (λ l. Contains l (Read key wid)) (sym e) (Contains-append_right before (Read key wid ∷ behind) (Read key wid) (0, omega arith, refl)) in
        let node = is_node ss v (Read key wid) c in
        let b = stands v node.0 node.1 in
        let i = b.index in
        let k = kept i b.less in
        let ops : on (suc i) ≡ before ++ Read key wid ∷ behind = on_is (suc i) v b.is ∙ e in
        let s = found_split of (suc i) (seen_of i k) (past nodes order i) before (Read key wid ∷ behind) [] k.looks (subst (λ l. AreFound of (suc i) (seen_of i k) (past nodes order i) l [] k.looks) ops k.found) in
        record { index = i; less = b.less; is = b.is; behind = Read key wid ∷ behind; ops = ops; first = s.first; front = s.here; here = first_found of (suc i) (seen_of i k) (with_ops (suc i) before (past nodes order i)) key wid behind s.first s.more s.there }

    positive : (u : ℕ) → At order u → 0 < u
    positive u a = let p = (walk.all.numbers a.index a.less).0 in omega (arith, p, a.is)

pub level_order : (level : Level) (ss : List ClientSession) (order indices : List ℕ) → IsLearntLog ss → IsSoundLog ss → IsWalk level indices (briefs_in ss) order → IsLevelOrder level ss order
level_order level ss order indices learnt sound walk = record { once = g.once; sessions = g.sessions; reads_from = g.reads_from; own = own; found = found }
  where
    nodes : List Brief
    nodes = briefs_in ss

    of : ℕ → ℕ
    of = index_on indices nodes order

    at : ℕ → ℕ
    at = number_at order

    rows : List Row
    rows = walk.rows

    g : Basis level ss order indices rows
    g = basis level ss order indices learnt sound walk

    seen_of : (i : ℕ) (k : IsKept level indices nodes order rows i) → List Look → ℕ → ℕ → Type 0
    seen_of i k = SeenBy level k.row (of (suc i)) k.looks

    position_of : (q u : ℕ) → 0 < q → q ≤ length order → at q ≡ u → (a : At order u) × (suc a.index ≡ q)
    position_of = at_position order

    own : (v : ℕ) (before : List Op) (key : List ℕ) (wid last : ℕ) → ReadsBehind ss v before key wid → last_write key before ≡ Some last → wid ≡ last
    own v before key wid last reads e =
        let r = g.record_of v before key wid reads in
        let f = last_first (suc r.index) before (past nodes order r.index) key last e in
        elim r.here [
          | inl mine ↦ ap (λ (x : ℕ × ℕ). x.1) (same_head (with_ops (suc r.index) before (past nodes order r.index) key) (suc r.index, wid) (suc r.index, last) mine.0 f.0 mine.1 f.1)
          | inr found ↦ absurd (let lt = subst (HeadBelow (suc r.index)) f.1 found.1.head in omega (arith, lt))
        ]

    found : (v : ℕ) (before : List Op) (key : List ℕ) (wid : ℕ) → ReadsBehind ss v before key wid → last_write key before ≡ None → FindsLast level ss order v before key wid
    found v before key wid reads e = elim r.here [
      | inl mine ↦ absurd (let le = member (λ (x : ℕ × ℕ). x.0 ≤ i) D (suc i, wid) (past_below nodes order i key) (subst (λ l. Contains l (suc i, wid)) (sym mine.1 ∙ none) (0, omega arith, refl)) in omega (arith, le))
      | inr f ↦ external f.0 f.1 (subst (NoneSeen of (seen_of i (g.kept i r.less) r.first) f.0.source) none f.2)
    ]
      where
        r : ReadAt level indices nodes order rows g.kept v before key wid
        r = g.record_of v before key wid reads

        i : ℕ
        i = r.index

        D : List (ℕ × ℕ)
        D = past nodes order i key

        none : with_ops (suc i) before (past nodes order i) key ≡ D
        none = none_written (suc i) before (past nodes order i) key e

        -- each node that is seen and writes the key stands no later than the source
        behind_source : (t u : ℕ) → NoneSeen of (seen_of i (g.kept i r.less) r.first) t D → Sees level ss u v before → WritesKey ss u key → (a : At order u) × (a.index < i) × (suc a.index ≤ t)
        behind_source t u ns sees (w, writes) =
            let s = g.seen_at u v before r.behind i r.less r.is r.ops r.first r.front sees in
            let c = in_past nodes order i (suc s.index) key w (omega arith) s.less (subst (λ l. Contains l (Write key w)) (sym (g.on_is (suc s.index) u s.is)) writes) in
            let a : At order u = record { index = s.index; less = less_both s.index i (length order) s.less r.less; is = s.is } in
            elim (cases_order t (suc s.index)) [
              | inl e ↦ (a, s.less, same_le t (suc s.index) e)
              | inr ne ↦ elim ne [
                | inl less ↦ absurd (member (λ (x : ℕ × ℕ). t < x.0 → seen_of i (g.kept i r.less) r.first (of x.0) x.0 → ⊥) D (suc s.index, w) ns c less s.seen)
                | inr more ↦ (a, s.less, less_le (suc s.index) t more)
              ]
            ]

        external : (look : Look) → IsFound (suc i) (with_ops (suc i) before (past nodes order i) key) wid look.source → NoneSeen of (seen_of i (g.kept i r.less) r.first) look.source D → FindsLast level ss order v before key wid
        external look f ns = elim (found_member D wid look.source fin) [
          | inl z ↦ inl (z.1, λ u sees writes. (let b = behind_source look.source u ns sees writes in never_zero b.0.index look.source b.2 z.0))
          | inr c ↦ inr (at look.source, last_seen (member (IsWrite nodes order key) D (look.source, wid) (past_each nodes order i key) c).0)
        ]
          where
            fin : FoundIn D wid look.source
            fin = subst (λ l. FoundIn l wid look.source) none f.found

            last_seen : 0 < look.source → IsLastSeen level ss order v before key wid (at look.source)
            last_seen lo = record {
              other = λ e. g.different a.0.index i (index_below a.0.index i look.source a.1 f.below) r.less (a.0.is ∙ e ∙ sym r.is);
              final = ap (last_write key) (sym (g.on_is look.source (at look.source) refl)) ∙ final_at nodes order i look.source key wid lo fin;
              last = last;
            }
              where
                a : (a : At order (at look.source)) × (suc a.index ≡ look.source)
                a = position_of look.source (at look.source) lo (below_length look.source i (length order) f.below r.less) refl

                last : (u : ℕ) → u ≢ at look.source → Sees level ss u v before → WritesKey ss u key → Before order u (at look.source)
                last u ne sees writes =
                    let b = behind_source look.source u ns sees writes in
                    g.before_at u (at look.source) (g.positive u b.0) (g.positive (at look.source) a.0) b.0 a.0 (elim (cases_order b.0.index a.0.index) [
                      | inl e ↦ absurd (ne (sym b.0.is ∙ ap (λ j. at (suc j)) e ∙ a.0.is))
                      | inr d ↦ elim d [
                        | inl less ↦ less
                        | inr more ↦ absurd (not_between a.0.index b.0.index look.source more b.2 a.1)
                      ]
                    ])
