-- A serial order, each node's snapshot and commit at once, is a snapshot order.
use Rattle.point_laws.proofs.Prelude.{◌≡◌, ◌≢◌, ◌⊎◌, ℕ, ◌*◌, ◌<◌, ◌≤◌, true, List, [], ◌∷◌, ◌++◌, length, map, refl, sym, ap, ◌∙◌, subst, inl, inr, arith, flat_map, Contains, cases_eq, cases_order, false≢true, is_earlier, ClientSession}
use Rattle.point_laws.proofs.Prelude.{Write, place_of, Before, ListsOnce, Has, Has-from_Contains, place_of-here, place_of-further, behind_zero, Map, committed_in, ops_of, begun_of, ended_of, initial, Replays, after, Replays-append, Point}
use Rattle.point_laws.proofs.Prelude.{snapshot, commit, number, StandsBefore, snapshot_reads, rest, ops_at, SnapshotWhereSerial}
use Rattle.point_laws.proofs.Arith.{point_at, same_commit, same_snapshot, snapshot_commit, commit_snapshot}
use Rattle.point_laws.proofs.Parts.{replays_in_parts, after_snapshot, after_rest}
use Rattle.point_laws.proofs.Nodes.{is_node, ordered_at}
use Rattle.point_laws.proofs.Spread.{Spreads, once_spread, before_spread, within_spread, map_flat}

abbrev at_once : ℕ → List Point
at_once v = snapshot v ∷ commit v ∷ []

abbrev doubled : List ℕ → List Point
doubled order = flat_map at_once order

-- ---- places
abbrev both_numbers : ℕ → List ℕ
both_numbers v = number (snapshot v) ∷ number (commit v) ∷ []

spread_doubled : (n : ℕ) → Spreads n (2 * n) both_numbers
spread_doubled n = record {
  within = λ x y lo hi h. elim h [ inl e ↦ (omega (arith, e, lo), omega (arith, e, hi)) | inr k ↦ elim k [ inl e ↦ (omega (arith, e, lo), omega (arith, e, hi)) | inr none ↦ absurd none ] ];
  found = λ y lo hi. found (point_at y).point y (point_at y).is lo hi;
  one = one;
  apart = λ x lo hi. ((λ h. elim h [ inl e ↦ commit_snapshot x x lo e | inr none ↦ none ]), ((λ none. none), tt));
}
  where
    found : (p : Point) (y : ℕ) → number p ≡ y → 0 < y → y ≤ 2 * n → (x : ℕ) × (0 < x) × (x ≤ n) × Has y (both_numbers x)
    found (snapshot v) y e lo hi = (v, omega (arith, e, lo), omega (arith, e, lo, hi), inl e)
    found (commit v) y e lo hi = (v, omega (arith, e, lo), omega (arith, e, hi), inr (inl e))

    one : (a b y : ℕ) → 0 < a → a ≤ n → 0 < b → b ≤ n → Has y (both_numbers a) → Has y (both_numbers b) → a ≡ b
    one a b y lo hi lo_b hi_b (inl e) (inl f) = same_snapshot a b lo_b (e ∙ sym f)
    one a b y lo hi lo_b hi_b (inl e) (inr (inl f)) = absurd (snapshot_commit a b lo_b (e ∙ sym f))
    one a b y lo hi lo_b hi_b (inr (inl e)) (inl f) = absurd (commit_snapshot a b lo_b (e ∙ sym f))
    one a b y lo hi lo_b hi_b (inr (inl e)) (inr (inl f)) = same_commit a b (e ∙ sym f)
    one a b y lo hi lo_b hi_b (inr (inr none)) h = absurd none
    one a b y lo hi lo_b hi_b (inl e) (inr (inr none)) = absurd none
    one a b y lo hi lo_b hi_b (inr (inl e)) (inr (inr none)) = absurd none

pub same_place : (order : List ℕ) (u v : ℕ) → Has u order → Has v order → place_of order u ≡ place_of order v → u ≡ v
same_place [] u v h k e = absurd h
same_place (x ∷ order) u v h k e = elim (cases_eq x u) [
  | inl here ↦ elim (cases_eq x v) [
    | inl too ↦ sym here ∙ too
    | inr not_v ↦ absurd (let one = subst (λ n. place_of (x ∷ order) n ≡ 0) here (place_of-here x order) in omega (arith, e, one, place_of-further x v order not_v))
  ]
  | inr not_u ↦ elim (cases_eq x v) [
    | inl too ↦ absurd (let one = subst (λ n. place_of (x ∷ order) n ≡ 0) too (place_of-here x order) in omega (arith, e, one, place_of-further x u order not_u))
    | inr not_v ↦ same_place order u v (later u h not_u) (later v k not_v) (omega (arith, e, place_of-further x u order not_u, place_of-further x v order not_v))
  ]
]
  where
    later : (w : ℕ) → Has w (x ∷ order) → x ≢ w → Has w order
    later w (inl e) ne = absurd (ne e)
    later w (inr j) ne = j

-- ---- what is replayed
doubled_replays : (ss : List ClientSession) (order : List ℕ) (m : Map) → Replays m (flat_map (ops_of ss) order) → Replays m (flat_map (ops_at ss) (doubled order))
doubled_replays ss [] m r = tt
doubled_replays ss (v ∷ order) m r =
    let ops = ops_of ss v in
    let later = flat_map (ops_at ss) (doubled order) in
    let two = (Replays-append m ops (flat_map (ops_of ss) order)).0 r in
    let parts = (replays_in_parts m ops).0 two.0 in
    let ih : Replays (after m ops) later = doubled_replays ss order (after m ops) two.1 in
    let at_commit : Replays m (rest ops ++ later) = (Replays-append m (rest ops) later).1 (parts.1, subst (λ k. Replays k later) (sym (after_rest m ops)) ih) in
    (Replays-append m (snapshot_reads ops) (rest ops ++ later)).1 (parts.0, subst (λ k. Replays k (rest ops ++ later)) (sym (after_snapshot m ops)) at_commit)

-- ---- the law
pub snapshot_where_serial : SnapshotWhereSerial
snapshot_where_serial ss sound learnt (order, h) = (
  doubled order,
  record {
    once = subst (ListsOnce (2 * length (committed_in ss))) (sym numbers) (once_spread (spread_doubled (length (committed_in ss))) order h.once);
    begins = begins;
    sessions = λ a b lo lt hi e. behind a b lo (omega arith) (omega arith) hi (h.sessions a b lo lt hi e);
    moments = λ a b lo hi lo_b hi_b e. behind a b lo hi lo_b hi_b (h.moments a b lo hi lo_b hi_b (differ a b e) e);
    writers = λ l. writers;
    reads = doubled_replays ss order initial h.reads;
  },
)
  where
    numbers : map number (doubled order) ≡ flat_map both_numbers order
    numbers = map_flat number at_once order

    has : (v : ℕ) → 0 < v → v ≤ length (committed_in ss) → Has v order
    has v lo hi = Has-from_Contains order v (h.once.each v lo hi)

    begins : (v : ℕ) → 0 < v → v ≤ length (committed_in ss) → StandsBefore (doubled order) (snapshot v) (commit v)
    begins v lo hi =
        subst (λ l. Before l (number (snapshot v)) (number (commit v))) (sym numbers)
        (within_spread (spread_doubled (length (committed_in ss))) order h.once v (number (snapshot v)) (number (commit v)) lo hi refl (snapshot_commit v v lo))

    behind : (a b : ℕ) → 0 < a → a ≤ length (committed_in ss) → 0 < b → b ≤ length (committed_in ss) → Before order a b → StandsBefore (doubled order) (commit a) (snapshot b)
    behind a b lo hi lo_b hi_b before =
        subst (λ l. Before l (number (commit a)) (number (snapshot b))) (sym numbers)
        (before_spread (spread_doubled (length (committed_in ss))) order h.once a b (number (commit a)) (number (snapshot b)) lo hi lo_b hi_b (inr (inl refl)) (inl refl) before)

    differ : (a b : ℕ) → is_earlier (ended_of ss a) (begun_of ss b) ≡ true → a ≢ b
    differ a b e same = false≢true (sym (ordered_at ss learnt sound.ordered a) ∙ ap (λ w. is_earlier (ended_of ss a) (begun_of ss w)) same ∙ e)

    writers : (a b : ℕ) (key : List ℕ) (v w : ℕ) → a ≢ b → Contains (ops_of ss a) (Write key v) → Contains (ops_of ss b) (Write key w) → StandsBefore (doubled order) (commit a) (snapshot b) ⊎ StandsBefore (doubled order) (commit b) (snapshot a)
    writers a b key v w ne c d =
        let na = is_node ss a (Write key v) c in
        let nb = is_node ss b (Write key w) d in
        elim (cases_order (place_of order a) (place_of order b)) [
          | inl same ↦ absurd (ne (same_place order a b (has a na.0 na.1) (has b nb.0 nb.1) same))
          | inr apart ↦ elim apart [
            | inl less ↦ inl (behind a b na.0 na.1 nb.0 nb.1 (omega (arith, less, behind_zero order a na.0, behind_zero order b nb.0)))
            | inr more ↦ inr (behind b a nb.0 nb.1 na.0 na.1 (omega (arith, more, behind_zero order a na.0, behind_zero order b nb.0)))
          ]
        ]
