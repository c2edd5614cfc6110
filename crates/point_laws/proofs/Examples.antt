-- Write skew is allowed, and a lost update refused.
use Rattle.point_laws.proofs.Prelude.{◌≡◌, ◌≢◌, ◌⊎◌, ℕ, zero, suc, ◌<◌, ◌≤◌, true, List, [], ◌∷◌, length, map, get_or, refl, sym, ap, ◌∙◌, subst, inl, inr, arith, flat_map, AllByRecursion, Contains, bytes_eq, cases_Bool, cases_eq}
use Rattle.point_laws.proofs.Prelude.{false≢true, bytes_eq-Decides, is_earlier, Op, Read, Write, Commit, Unknown, place_of, ListsOnce, Has, Apart, Has-from_Contains, Contains-from_Has, place_of-here, place_of-further, each_from_flat_map}
use Rattle.point_laws.proofs.Prelude.{once_apart, once_length, IsDistinct-from_Apart, Has_get, Committed, Map, set, initial, Replays, each_member, Orders, session_at, begun_at, ended_at, orders_from_serial, IsLearntLog, HasOrder, after}
use Rattle.point_laws.proofs.Prelude.{Replays-append, first_or_behind, in_flat, of_mapped, nodes_of, read_is_no_write, Point, snapshot, commit, number, StandsBefore, snapshot_reads, rest}
use Rattle.serializability.proofs.Serial.{node_of as listed}
use Rattle.log_definitions.proofs.Renumbered.{ops_at}
use Rattle.part_laws.proofs.Chosen.{same_key}
use Rattle.point_laws.specs.Examples.{one_txn, x, y, write_skew, lost_update, AllowsWriteSkew, RefusesLostUpdate}
use Rattle.point_laws.proofs.Arith.{point_of_number}
use Rattle.point_laws.proofs.Parts.{each_snapshot, each_rest}
use Rattle.point_laws.proofs.Intervals.{place, At}
use Rattle.point_laws.proofs.Nodes.{nodes_are}
use Rattle.point_laws.proofs.Orders.{before_place}
use Rattle.point_laws.proofs.Resolved.{Snapshots, point_ops, to_nodes, from_nodes}

two_learnt : (a b : List Op) → IsLearntLog (one_txn 1 a ∷ one_txn 2 b ∷ [])
two_learnt a b = (never, (never, tt))
  where
    never : Commit ≢ Unknown
    never e = cc

-- ---- an order of two nodes
two_orders : (order : List ℕ) → ListsOnce 2 order → (order ≡ 1 ∷ 2 ∷ []) ⊎ (order ≡ 2 ∷ 1 ∷ [])
two_orders order once = go order (once_length 2 order once) (once_apart 2 order once) (listed 2 order once)
  where
    go : (l : List ℕ) → length l ≡ 2 → Apart l → ((v : ℕ) → Has v l → (0 < v) × (v ≤ 2)) → (l ≡ 1 ∷ 2 ∷ []) ⊎ (l ≡ 2 ∷ 1 ∷ [])
    go [] e a f = absurd (omega (arith, e))
    go (u ∷ []) e a f = absurd (omega (arith, e))
    go (u ∷ v ∷ []) e a f =
        let hu = f u (inl refl) in
        let hv = f v (inr (inl refl)) in
        let ne : v ≢ u = λ s. a.0 (inl s) in
        elim (cases_eq u 1) [
          | inl one ↦ let two : v ≡ 2 = let lo = hv.0 in let hi = hv.1 in omega (arith, lo, hi, ne, one) in inl (ap (λ w. w ∷ v ∷ []) one ∙ ap (λ w. 1 ∷ w ∷ []) two)
          | inr other ↦
              let two : u ≡ 2 = let lo = hu.0 in let hi = hu.1 in omega (arith, lo, hi, other) in
              let one : v ≡ 1 = let lo = hv.0 in let hi = hv.1 in omega (arith, lo, hi, ne, two) in
              inr (ap (λ w. w ∷ v ∷ []) two ∙ ap (λ w. 2 ∷ w ∷ []) one)
        ]
    go (u ∷ v ∷ w ∷ l) e a f = absurd (omega (arith, e))

no_order : HasOrder write_skew → ⊥
no_order (order, h) =
    let orders : Orders (nodes_of write_skew) order = subst (λ nodes. Orders nodes order) (nodes_are write_skew (two_learnt (Read x 0 ∷ Read y 0 ∷ Write x 1 ∷ []) (Read x 0 ∷ Read y 0 ∷ Write y 2 ∷ []))) (orders_from_serial write_skew order h) in
    elim (two_orders order orders.once) [
      | inl e ↦ absurd (let r = subst (λ o. Replays initial (flat_map (ops_at (nodes_of write_skew)) o)) e orders.reads in let w = r.1.1.0 in omega (arith, w))
      | inr e ↦ absurd (let r = subst (λ o. Replays initial (flat_map (ops_at (nodes_of write_skew)) o)) e orders.reads in let w = r.1.1.1.0 in omega (arith, w))
    ]

-- ---- its snapshot order
skew_points : List Point
skew_points = snapshot 1 ∷ snapshot 2 ∷ commit 1 ∷ commit 2 ∷ []

skew_once : ListsOnce 4 (1 ∷ 3 ∷ 2 ∷ 4 ∷ [])
skew_once = record {
  only = λ k d lt. only (get_or (1 ∷ 3 ∷ 2 ∷ 4 ∷ []) k d) (Has_get (1 ∷ 3 ∷ 2 ∷ 4 ∷ []) k d lt);
  each = each;
  distinct = IsDistinct-from_Apart (1 ∷ 3 ∷ 2 ∷ 4 ∷ []) apart;
}
  where
    only : (v : ℕ) → Has v (1 ∷ 3 ∷ 2 ∷ 4 ∷ []) → (0 < v) × (v ≤ 4)
    only v (inl e) = (omega (arith, e), omega (arith, e))
    only v (inr (inl e)) = (omega (arith, e), omega (arith, e))
    only v (inr (inr (inl e))) = (omega (arith, e), omega (arith, e))
    only v (inr (inr (inr (inl e)))) = (omega (arith, e), omega (arith, e))
    only v (inr (inr (inr (inr none)))) = absurd none

    each : (v : ℕ) → 0 < v → v ≤ 4 → Contains (1 ∷ 3 ∷ 2 ∷ 4 ∷ []) v
    each v lo hi = Contains-from_Has (1 ∷ 3 ∷ 2 ∷ 4 ∷ []) v (elim (cases_eq v 1) [
      | inl e ↦ inl (sym e)
      | inr a ↦ elim (cases_eq v 2) [
        | inl e ↦ inr (inr (inl (sym e)))
        | inr b ↦ elim (cases_eq v 3) [
          | inl e ↦ inr (inl (sym e))
          | inr c ↦ inr (inr (inr (inl (omega (arith, lo, hi, a, b, c)))))
        ]
      ]
    ])

    apart : Apart (1 ∷ 3 ∷ 2 ∷ 4 ∷ [])
    apart = (
      (λ h. elim h [ inl e ↦ omega (arith, e) | inr k ↦ elim k [ inl e ↦ omega (arith, e) | inr l ↦ elim l [ inl e ↦ omega (arith, e) | inr n ↦ n ] ] ]),
      (
        (λ h. elim h [ inl e ↦ omega (arith, e) | inr k ↦ elim k [ inl e ↦ omega (arith, e) | inr n ↦ n ] ]),
        ((λ h. elim h [ inl e ↦ omega (arith, e) | inr n ↦ n ]), ((λ n. n), tt)),
      ),
    )

-- what is written behind two reads
only_write : (k l other key : List ℕ) (i v : ℕ) → Contains (Read k 0 ∷ Read l 0 ∷ Write other i ∷ []) (Write key v) → other ≡ key
only_write k l other key i v c = elim (first_or_behind (Read k 0) (Read l 0 ∷ Write other i ∷ []) (Write key v) c) [
  | inl e ↦ absurd (read_is_no_write k key 0 v e)
  | inr d ↦ elim (first_or_behind (Read l 0) (Write other i ∷ []) (Write key v) d) [
    | inl e ↦ absurd (read_is_no_write l key 0 v e)
    | inr f ↦ elim (first_or_behind (Write other i) [] (Write key v) f) [
      | inl e ↦ same_key other key i v e
      | inr n ↦ absurd (omega (arith, n.1))
    ]
  ]
]

keys_differ : x ≡ y → ⊥
keys_differ e = false≢true ((bytes_eq-Decides x y).1 e)

abbrev Stands : Point → Point → Type 0
Stands p q = StandsBefore (snapshot 1 ∷ snapshot 2 ∷ commit 1 ∷ commit 2 ∷ []) p q

begins : (v : ℕ) → 0 < v → v ≤ 2 → Stands (snapshot v) (commit v)
begins zero lo hi = absurd (omega arith)
begins (suc zero) lo hi = let lt : 1 < 3 = omega arith in lt
begins (suc (suc zero)) lo hi = let lt : 2 < 4 = omega arith in lt
begins (suc (suc (suc v))) lo hi = absurd (omega arith)

sessions : (a b : ℕ) → 0 < a → a < b → b ≤ 2 → session_at (nodes_of write_skew) a ≡ session_at (nodes_of write_skew) b → Stands (commit a) (snapshot b)
sessions zero b lo lt hi e = absurd (omega arith)
sessions (suc zero) zero lo lt hi e = absurd (omega arith)
sessions (suc zero) (suc zero) lo lt hi e = absurd (omega arith)
sessions (suc zero) (suc (suc zero)) lo lt hi e = absurd (let differ : 1 ≡ 2 = e in omega (arith, differ))
sessions (suc zero) (suc (suc (suc b))) lo lt hi e = absurd (omega arith)
sessions (suc (suc a)) b lo lt hi e = absurd (omega arith)

moments : (a b : ℕ) → 0 < a → a ≤ 2 → 0 < b → b ≤ 2 → is_earlier (ended_at (nodes_of write_skew) a) (begun_at (nodes_of write_skew) b) ≡ true → Stands (commit a) (snapshot b)
moments zero b lo hi lo_b hi_b e = absurd (omega arith)
moments (suc zero) b lo hi lo_b hi_b e = absurd (false≢true e)
moments (suc (suc zero)) b lo hi lo_b hi_b e = absurd (false≢true e)
moments (suc (suc (suc a))) b lo hi lo_b hi_b e = absurd (omega arith)

-- node 1 writes x, and node 2 writes y
writer : (v : ℕ) (key : List ℕ) (w : ℕ) → Contains (ops_at (nodes_of write_skew) v) (Write key w) → ((v ≡ 1) × (x ≡ key)) ⊎ ((v ≡ 2) × (y ≡ key))
writer zero key w c = absurd (omega (arith, c.1))
writer (suc zero) key w c = inl (refl, only_write x y x key 1 w c)
writer (suc (suc zero)) key w c = inr (refl, only_write x y y key 2 w c)
writer (suc (suc (suc v))) key w c = absurd (omega (arith, c.1))

writers : (a b : ℕ) (key : List ℕ) (v w : ℕ) → a ≢ b → Contains (ops_at (nodes_of write_skew) a) (Write key v) → Contains (ops_at (nodes_of write_skew) b) (Write key w) → Stands (commit a) (snapshot b) ⊎ Stands (commit b) (snapshot a)
writers a b key v w ne c d = elim (writer a key v c) [
  | inl p ↦ elim (writer b key w d) [
    | inl q ↦ absurd (ne (p.0 ∙ sym q.0))
    | inr q ↦ absurd (keys_differ (p.1 ∙ sym q.1))
  ]
  | inr p ↦ elim (writer b key w d) [
    | inl q ↦ absurd (keys_differ (q.1 ∙ sym p.1))
    | inr q ↦ absurd (ne (p.0 ∙ sym q.0))
  ]
]

skew_snapshots : Snapshots true (nodes_of write_skew) skew_points
unfolding skew_points
skew_snapshots = record {
  once = skew_once;
  begins = begins;
  sessions = sessions;
  moments = moments;
  writers = λ l. writers;
  reads = (refl, (refl, (refl, (refl, tt))));
}

pub allows_write_skew : AllowsWriteSkew
allows_write_skew = ((skew_points, from_nodes write_skew skew_points (subst (λ nodes. Snapshots true nodes skew_points) (sym (nodes_are write_skew (two_learnt (Read x 0 ∷ Read y 0 ∷ Write x 1 ∷ []) (Read x 0 ∷ Read y 0 ∷ Write y 2 ∷ [])))) skew_snapshots)), no_order)

-- ---- a key that was written is not as it was at first
abbrev WritesSome : Op → Type 0
WritesSome (Read key wid) = Unit {0}
WritesSome (Write key wid) = wid ≢ 0

set_some : (m : Map) (k key : List ℕ) (w : ℕ) → w ≢ 0 → m key ≢ 0 → set m k w key ≢ 0
set_some m k key w some had = elim (cases_Bool (bytes_eq k key)) [
  | inl e ↦ rw e some
  | inr e ↦ rw e had
]

after_some : (ops : List Op) (m : Map) (key : List ℕ) → AllByRecursion WritesSome ops → m key ≢ 0 → after m ops key ≢ 0
after_some [] m key h had = had
after_some (Read k w ∷ ops) m key h had = after_some ops m key h.1 had
after_some (Write k w ∷ ops) m key h had = after_some ops (set m k w) key h.1 (set_some m k key w h.0 had)

after_write : (ops : List Op) (m : Map) (key : List ℕ) (wid : ℕ) → AllByRecursion WritesSome ops → Contains ops (Write key wid) → after m ops key ≢ 0
after_write [] m key wid h c = absurd (omega (arith, c.1))
after_write (Read k w ∷ ops) m key wid h c = elim (first_or_behind (Read k w) ops (Write key wid) c) [
  | inl e ↦ absurd (read_is_no_write k key w wid e)
  | inr d ↦ after_write ops m key wid h.1 d
]
after_write (Write k w ∷ ops) m key wid h c = elim (first_or_behind (Write k w) ops (Write key wid) c) [
  | inl e ↦ after_some ops (set m k w) key h.1 (let t = (bytes_eq-Decides k key).1 (same_key k key w wid e) in rw t h.0)
  | inr d ↦ after_write ops (set m k w) key wid h.1 d
]

read_is : (k key : List ℕ) (w : ℕ) (m : Map) → Read k w ≡ Read key 0 → m k ≡ w → m key ≡ 0
read_is k key w m e h = let same : k ≡ key = cc in let none : w ≡ 0 = cc in ap m (sym same) ∙ h ∙ none

no_write : (k key : List ℕ) (w v : ℕ) → Write k w ≡ Read key v → ⊥
no_write k key w v e = cc

not_at_first : (ops : List Op) (m : Map) (key : List ℕ) → AllByRecursion WritesSome ops → m key ≢ 0 → Replays m ops → Contains ops (Read key 0) → ⊥
not_at_first [] m key h had r c = absurd (omega (arith, c.1))
not_at_first (Read k w ∷ ops) m key h had r c = elim (first_or_behind (Read k w) ops (Read key 0) c) [
  | inl e ↦ had (read_is k key w m e r.0)
  | inr d ↦ not_at_first ops m key h.1 had r.1 d
]
not_at_first (Write k w ∷ ops) m key h had r c = elim (first_or_behind (Write k w) ops (Read key 0) c) [
  | inl e ↦ no_write k key w 0 e
  | inr d ↦ not_at_first ops (set m k w) key h.1 (set_some m k key w h.0 had) r d
]

-- ---- no snapshot behind the commit of a write reads the key as it was at first
stale : (nodes : List Committed) → ((v : ℕ) → AllByRecursion WritesSome (ops_at nodes v)) → (points : List Point) (m : Map) (a b : ℕ) (key : List ℕ) (wid : ℕ) → 0 < a → 0 < b → At points (snapshot b) → place points (commit a) < place points (snapshot b) → Contains (rest (ops_at nodes a)) (Write key wid) → Contains (snapshot_reads (ops_at nodes b)) (Read key 0) → Replays m (flat_map (point_ops nodes) points) → ⊥
stale nodes some [] m a b key wid lo_a lo_b at lt c d r = at
stale nodes some (p ∷ points) m a b key wid lo_a lo_b at lt c d r =
    let parts = (Replays-append m (point_ops nodes p) (flat_map (point_ops nodes) points)).0 r in
    elim (cases_eq (number p) (number (snapshot b))) [
      | inl here ↦ let first : place (p ∷ points) (snapshot b) ≡ 0 = subst (λ n. place_of (number p ∷ map number points) n ≡ 0) here (place_of-here (number p) (map number points)) in omega (arith, first, lt)
      | inr other ↦ elim (cases_eq (number p) (number (commit a))) [
        | inl here ↦
            let is : p ≡ commit a = point_of_number p (commit a) lo_a here in
            let written = after_write (rest (ops_at nodes a)) m key wid (each_rest WritesSome (ops_at nodes a) (some a)) c in
            let now : after m (point_ops nodes p) key ≢ 0 = subst (λ q. after m (point_ops nodes q) key ≢ 0) (sym is) written in
            not_at_first (flat_map (point_ops nodes) points) (after m (point_ops nodes p)) key (all points) now parts.1 (read_behind (later other at))
        | inr more ↦
            stale nodes some points (after m (point_ops nodes p)) a b key wid lo_a lo_b (later other at)
            (omega (arith, lt, place_of-further (number p) (number (snapshot b)) (map number points) other, place_of-further (number p) (number (commit a)) (map number points) more)) c d parts.1
      ]
    ]
  where
    later : number p ≢ number (snapshot b) → At (p ∷ points) (snapshot b) → At points (snapshot b)
    later ne (inl e) = absurd (ne e)
    later ne (inr h) = h

    of_point : (q : Point) → AllByRecursion WritesSome (point_ops nodes q)
    of_point (snapshot v) = each_snapshot WritesSome (ops_at nodes v) (some v)
    of_point (commit v) = each_rest WritesSome (ops_at nodes v) (some v)

    all : (ps : List Point) → AllByRecursion WritesSome (flat_map (point_ops nodes) ps)
    all ps = each_from_flat_map WritesSome (point_ops nodes) ps (each_member (λ q. AllByRecursion WritesSome (point_ops nodes q)) ps (λ q h. of_point q))

    read_behind : At points (snapshot b) → Contains (flat_map (point_ops nodes) points) (Read key 0)
    read_behind h =
        let q = of_mapped number points (number (snapshot b)) (Contains-from_Has (map number points) (number (snapshot b)) h) in
        in_flat (point_ops nodes) points (snapshot b) (Read key 0) (subst (Contains points) (point_of_number q.0 (snapshot b) lo_b q.2) q.1) d

some_written : (v : ℕ) → AllByRecursion WritesSome (ops_at (nodes_of lost_update) v)
some_written zero = tt
some_written (suc zero) = (tt, ((λ e. omega (arith, e)), tt))
some_written (suc (suc zero)) = (tt, ((λ e. omega (arith, e)), tt))
some_written (suc (suc (suc v))) = tt

pub refuses_lost_update : RefusesLostUpdate
refuses_lost_update (points, h) = elim (s.writers refl 1 2 x 1 2 (λ e. omega (arith, e)) (1, omega arith, refl) (1, omega arith, refl)) [
  | inl b ↦ stale (nodes_of lost_update) some_written points initial 1 2 x 1 (omega arith) (omega arith) (stands 2 (omega arith) (omega arith)) (before_place points (commit 1) (snapshot 2) (omega arith) (omega arith) b) (0, omega arith, refl) (0, omega arith, refl) s.reads
  | inr b ↦ stale (nodes_of lost_update) some_written points initial 2 1 x 2 (omega arith) (omega arith) (stands 1 (omega arith) (omega arith)) (before_place points (commit 2) (snapshot 1) (omega arith) (omega arith) b) (0, omega arith, refl) (0, omega arith, refl) s.reads
]
  where
    s : Snapshots true (nodes_of lost_update) points
    s = subst (λ nodes. Snapshots true nodes points) (nodes_are lost_update (two_learnt (Read x 0 ∷ Write x 1 ∷ []) (Read x 0 ∷ Write x 2 ∷ []))) (to_nodes lost_update points h)

    stands : (v : ℕ) → 0 < v → v ≤ 2 → At points (snapshot v)
    stands v lo hi = Has-from_Contains (map number points) (number (snapshot v)) (s.once.each (number (snapshot v)) (omega arith) (omega arith))
