-- The commits of a snapshot order stand in a causal order.
use Rattle.level_laws.proofs.Prelude.{◌≡◌, Bool, ℕ, ◌*◌, ◌<◌, ◌≤◌, List, ◌∷◌, length, map, Some, sym, subst, inl, inr, arith, Contains, cases_eq, Contains-append_left, ClientSession, Op, Read, Write, Before, place_of, Has, Apart}
use Rattle.level_laws.proofs.Prelude.{Apart-from_IsDistinct, places_apart, zero_first, some_cases, behind_zero, ops_in, settled, written, committed_in, ops_of, Has-written, IsSoundLog, Point, snapshot, commit, number, IsPointOrder}
use Rattle.level_laws.proofs.Prelude.{HasPointOrder, place, is_node, one_node, op_in_log, before_place, lo_snapshot, lo_commit, settled_sound, settled_learnt, Level, ReadCommitted, MonotonicAtomicView, ReadAtomic, Causal, last_write}
use Rattle.level_laws.proofs.Prelude.{ReadsBehind, IsEarlier, ReadsFrom, Direct, Past, step, path, FindsLast, HasLevelOrder, LevelWhereSnapshot, LevelWherePrefix, LevelWhereSerial}
use Rattle.log_definitions.proofs.Members.{member}
use Rattle.log_definitions.proofs.OnlyTaken.{some_where_serial}
use Rattle.point_laws.proofs.Doubled.{snapshot_where_serial}
use Rattle.level_laws.proofs.Listing.{Listed, listed}
use Rattle.level_laws.proofs.LastWrites.{some_written}
use Rattle.level_laws.proofs.OfPart.{IsSplit, split_at, level_of_taken}
use Rattle.level_laws.proofs.Ladder.{atomic_where_causal, view_where_atomic, committed_where_view}
use Rattle.level_laws.proofs.Snapshots.{IsMet, met, met_by_own}

-- its own snapshot stands before a commit
begins : {locked : Bool} (ss : List ClientSession) (points : List Point) → IsPointOrder locked ss points → (v : ℕ) → 0 < v → v ≤ length (committed_in ss) → place points (snapshot v) < place points (commit v)
begins ss points h v lo hi = before_place points (snapshot v) (commit v) (lo_snapshot v lo) (lo_commit v lo) (h.begins v lo hi)

-- ---- what a node follows has committed before its snapshot
record Follows (ss : List ClientSession) (points : List Point) (u v : ℕ) : Type 0 where
  pub low : 0 < u
  pub high : u ≤ length (committed_in ss)
  pub low_v : 0 < v
  pub high_v : v ≤ length (committed_in ss)
  pub before : place points (commit u) < place points (snapshot v)

earlier : {locked : Bool} (ss : List ClientSession) (points : List Point) → IsPointOrder locked ss points → (u v : ℕ) → IsEarlier ss u v → Follows ss points u v
earlier ss points h u v e =
    let low = e.low in
    let less = e.less in
    let high = e.high in
    let lo_v : 0 < v = omega (arith, low, less) in
    record {
      low = low;
      high = omega (arith, less, high);
      low_v = lo_v;
      high_v = high;
      before = before_place points (commit u) (snapshot v) (lo_commit u low) (lo_snapshot v lo_v) (h.sessions u v low less high e.session);
    }

reads_from : {locked : Bool} (ss : List ClientSession) (points : List Point) → Apart (0 ∷ written (ops_in ss)) → IsPointOrder locked ss points → (u v : ℕ) → ReadsFrom ss u v → Follows ss points u v
reads_from ss points apart h u v e = record { low = is_u.0; high = is_u.1; low_v = is_v.0; high_v = is_v.1; before = before }
  where
    is_u : (0 < u) × (u ≤ length (committed_in ss))
    is_u = is_node ss u (Write e.key e.wid) e.writes

    is_v : (0 < v) × (v ≤ length (committed_in ss))
    is_v = is_node ss v (Read e.key e.wid) e.reads

    wrote : Has e.wid (written (ops_of ss u))
    wrote = Has-written (ops_of ss u) e.key e.wid e.writes

    r : IsSplit (ops_of ss v) (Read e.key e.wid)
    r = split_at (ops_of ss v) (Read e.key e.wid) e.reads

    by_itself : (last : ℕ) → last_write e.key r.front ≡ Some last → ⊥
    by_itself last f =
        let same = met_by_own ss points h v r.front e.key e.wid last (r.back, r.is) f in
        let there = Contains-append_left r.front (Read e.key e.wid ∷ r.back) (Write e.key last) (some_written e.key r.front last f) in
        let own : Contains (ops_of ss v) (Write e.key last) = subst (λ l. Contains l (Write e.key last)) (sym r.is) there in
        e.other (one_node ss apart.1 u v e.wid wrote (subst (λ w. Has w (written (ops_of ss v))) (sym same) (Has-written (ops_of ss v) e.key last own)))

    before : place points (commit u) < place points (snapshot v)
    before = elim (some_cases (last_write e.key r.front)) [
      | inr s ↦ absurd (by_itself s.0 s.1)
      | inl none ↦ elim (met ss points h v r.front e.key e.wid (r.back, r.is) none) [
        | inl zero ↦ absurd (apart.0 (subst (λ w. Has w (written (ops_in ss))) zero.0 (Has-written (ops_in ss) e.key e.wid (member (Contains (ops_in ss)) (ops_of ss u) (Write e.key e.wid) (op_in_log ss u) e.writes))))
        | inr t ↦
            let same = one_node ss apart.1 t.0 u e.wid (Has-written (ops_of ss t.0) e.key e.wid (some_written e.key (ops_of ss t.0) e.wid t.1.final)) wrote in
            subst (λ x. place points (commit x) < place points (snapshot v)) same t.1.before
      ]
    ]

direct : {locked : Bool} (ss : List ClientSession) (points : List Point) → Apart (0 ∷ written (ops_in ss)) → IsPointOrder locked ss points → (u v : ℕ) → Direct ss u v → Follows ss points u v
direct ss points apart h u v (inl e) = earlier ss points h u v e
direct ss points apart h u v (inr e) = reads_from ss points apart h u v e

past : {locked : Bool} (ss : List ClientSession) (points : List Point) → Apart (0 ∷ written (ops_in ss)) → IsPointOrder locked ss points → {u v : ℕ} → Past ss u v → Follows ss points u v
past ss points apart h (step u v d) = direct ss points apart h u v d
past ss points apart h (path u v w d p) =
    let one = direct ss points apart h u v d in
    let more = past ss points apart h p in
    let a = one.before in
    let b = begins ss points h v one.low_v one.high_v in
    let c = more.before in
    record { low = one.low; high = one.high; low_v = more.low_v; high_v = more.high_v; before = omega (arith, a, b, c) }

-- ---- the order of the commits
causal_order : {locked : Bool} (ss : List ClientSession) (points : List Point) → Apart (0 ∷ written (ops_in ss)) → IsPointOrder locked ss points → HasLevelOrder Causal ss
causal_order ss points apart h = (
  l.order,
  record {
    once = l.once;
    sessions = λ u v e. stands u v (earlier ss points h u v e);
    reads_from = λ u v e. stands u v (reads_from ss points apart h u v e);
    own = λ v before key wid last r e. met_by_own ss points h v before key wid last r e;
    found = λ v before key wid r e. found v before key wid r (met ss points h v before key wid r e);
  },
)
  where
    n : ℕ
    n = length (committed_in ss)

    at : ℕ → ℕ
    at v = place_of (0 ∷ map number points) (2 * v)

    first : (v : ℕ) → 0 < v → v ≤ length (committed_in ss) → place_of (0 ∷ map number points) (2 * 0) < place_of (0 ∷ map number points) (2 * v)
    first v lo hi =
        let zero : 2 * 0 ≡ 0 = omega arith in
        subst (λ z. place_of (0 ∷ map number points) z < place_of (0 ∷ map number points) (2 * v)) (sym zero) (zero_first (map number points) (2 * v) (omega (arith, lo)))

    differ : (u v : ℕ) → u ≤ length (committed_in ss) → v ≤ length (committed_in ss) → place_of (0 ∷ map number points) (2 * u) ≡ place_of (0 ∷ map number points) (2 * v) → u ≡ v
    differ u v hu hv e = elim (cases_eq (2 * u) (2 * v)) [
      | inl same ↦ omega (arith, same)
      | inr ne ↦ absurd (places_apart (2 * length (committed_in ss)) (map number points) h.once (2 * u) (2 * v) (omega (arith, hu)) ne e)
    ]

    l : Listed (length (committed_in ss)) (λ v. place_of (0 ∷ map number points) (2 * v))
    l = listed (length (committed_in ss)) (λ v. place_of (0 ∷ map number points) (2 * v)) first differ

    commits : (u v : ℕ) → 0 < u → u ≤ length (committed_in ss) → 0 < v → v ≤ length (committed_in ss) → place points (commit u) < place points (commit v) → Before l.order u v
    commits u v lo hi lo_v hi_v lt =
        let a = behind_zero (map number points) (2 * u) (lo_commit u lo) in
        let b = behind_zero (map number points) (2 * v) (lo_commit v lo_v) in
        l.before u v hi hi_v (omega (arith, a, b, lt))

    stands : (u v : ℕ) → Follows ss points u v → Before l.order u v
    stands u v f =
        let a = f.before in
        let b = begins ss points h v f.low_v f.high_v in
        commits u v f.low f.high f.low_v f.high_v (omega (arith, a, b))

    found : (v : ℕ) (before : List Op) (key : List ℕ) (wid : ℕ) → ReadsBehind ss v before key wid → IsMet ss points v key wid → FindsLast Causal ss l.order v before key wid
    found v before key wid r (inl zero) = inl (zero.0, (λ u p w. zero.1 u w (past ss points apart h p).before))
    found v before key wid r (inr t) = inr (
      t.0,
      record {
        other = λ same. (let a : place points (commit v) < place points (snapshot v) = subst (λ x. place points (commit x) < place points (snapshot v)) same t.1.before in
            let is_v = is_node ss v (Write key wid) (subst (λ x. Contains (ops_of ss x) (Write key wid)) same (some_written key (ops_of ss t.0) wid t.1.final)) in
            let b = begins ss points h v is_v.0 is_v.1 in
            omega (arith, a, b));
        final = t.1.final;
        last = λ u ne p w. (let f = past ss points apart h p in
            let is_t = is_node ss t.0 (Write key wid) (some_written key (ops_of ss t.0) wid t.1.final) in
            commits u t.0 f.low f.high is_t.0 is_t.1 (t.1.last u ne w f.before));
      },
    )

-- ---- the laws
from_causal : (level : Level) (ss : List ClientSession) → HasLevelOrder Causal ss → HasLevelOrder level ss
from_causal Causal ss h = h
from_causal ReadAtomic ss (order, h) = (order, atomic_where_causal ss order h)
from_causal MonotonicAtomicView ss (order, h) = (order, view_where_atomic ss order (atomic_where_causal ss order h))
from_causal ReadCommitted ss (order, h) = (order, committed_where_view ss order (view_where_atomic ss order (atomic_where_causal ss order h)))

level_where_points : (level : Level) {locked : Bool} (ss : List ClientSession) → IsSoundLog ss → HasPointOrder locked ss → HasLevelOrder level ss
level_where_points level ss sound (points, h) =
    from_causal level ss (causal_order ss points (Apart-from_IsDistinct (0 ∷ written (ops_in ss)) sound.writes) h)

pub level_where_snapshot : LevelWhereSnapshot
level_where_snapshot level ss sound h = level_where_points level ss sound h

pub level_where_prefix : LevelWherePrefix
level_where_prefix level ss sound h = level_where_points level ss sound h

pub level_where_serial : LevelWhereSerial
level_where_serial level ss sound o =
    let some = some_where_serial ss o in
    let chosen = some.1.chosen in
    let is_sound = settled_sound chosen ss sound in
    let points = snapshot_where_serial (settled chosen ss) is_sound (settled_learnt chosen ss) (some.0, some.1.serial) in
    let r = level_where_snapshot level (settled chosen ss) is_sound points in
    (level_of_taken level ss sound).0 (r.0, record { chosen = chosen; at_level = r.1 })
