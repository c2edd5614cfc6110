-- The point orders of a log are the serial orders of the log in which transactions are split, if those that are not write nothing.
use Rattle.point_laws.proofs.Prelude.{◌≡◌, ◌≢◌, ◌⊎◌, ℕ, zero, suc, ◌*◌, ◌<◌, ◌≤◌, Bool, true, false, cond, List, [], ◌∷◌, length, map, Option, Some, None, refl, sym, ap, ◌∙◌, subst, inl, inr, arith, flat_map, list_any, AllByRecursion}
use Rattle.point_laws.proofs.Prelude.{Contains, cases_Bool, cases_eq, cases_order, false≢true, ◌↔◌, is_earlier, ClientSession, Transaction, is_write, Write, Before, ListsOnce, Has, Apart, Has-from_Contains, Contains-from_Has, member}
use Rattle.point_laws.proofs.Prelude.{mapped, once_apart, behind_zero, ops_in, written, committed_in, session_of, ops_of, begun_of, ended_of, initial, Replays, IsSerialOrder, IsSoundLog, IsLearntLog, HasOrder, of_mapped, all_writes, Point}
use Rattle.point_laws.proofs.Prelude.{snapshot, commit, number, StandsBefore, ops_at, IsPointOrder, HasPointOrder, Locks, AreFresh, split, is_writer, OrdersOfSplit, SnapshotBySplit}
use Rattle.std.proofs.lemmas.List.Folds.{flat_map-map}
use Rattle.serializability.proofs.Serial.{node_of as listed}
use Rattle.point_laws.proofs.Intervals.{place, At, lock_ops, Shares, outside, locks_replay}
use Rattle.point_laws.proofs.Arith.{point_node, point_of_number, IsOf, within, is_of, point_at, at_point, snapshot_commit, commit_snapshot}
use Rattle.point_laws.proofs.Spread.{Spreads, once_spread, before_spread, within_spread, flat_flat, flat_self, map_flat}
use Rattle.point_laws.proofs.Parted.{by_test, Test, IsTest, upto, less, spot, no, points_of, heads, IsParted, is_parted, count, IsAt, Halved, Whole, node_at}
use Rattle.point_laws.proofs.Nodes.{is_node, ordered_at}
use Rattle.point_laws.proofs.Named.{named, are_own, each_once, write_where_shares, shares_where_write, split_ops, replays_apart}

-- ---- where all points of n nodes stand once
pub stands : (n : ℕ) (points : List Point) → ListsOnce (2 * n) (map number points) → (p : Point) → 0 < number p → number p ≤ 2 * n → At points p
stands n points once p lo hi = Has-from_Contains (map number points) (number p) (once.each (number p) lo hi)

pub of_points : (n : ℕ) (points : List Point) → ListsOnce (2 * n) (map number points) → (p : Point) → Contains points p → IsOf n p
of_points n points once p c = let r = listed (2 * n) (map number points) once (number p) (Has-from_Contains (map number points) (number p) (mapped number points p c)) in is_of n p r.0 r.1

pub commit_within : (n : ℕ) (points : List Point) → ListsOnce (2 * n) (map number points) → (v : ℕ) → At points (commit v) → v ≤ n
commit_within n points once v at = let r = listed (2 * n) (map number points) once (number (commit v)) at in omega (arith, r.1)

pub before_place : (points : List Point) (p q : Point) → 0 < number p → 0 < number q → StandsBefore points p q → place points p < place points q
before_place points p q lo hi b = omega (arith, b, behind_zero (map number points) (number p) lo, behind_zero (map number points) (number q) hi)

pub place_before : (points : List Point) (p q : Point) → 0 < number p → 0 < number q → place points p < place points q → StandsBefore points p q
place_before points p q lo hi b = omega (arith, b, behind_zero (map number points) (number p) lo, behind_zero (map number points) (number q) hi)

all_positive : (points : List Point) → ((p : Point) → At points p → 0 < number p) → AllByRecursion (λ p. 0 < number p) points
all_positive [] h = tt
all_positive (p ∷ points) h = (h p (inl refl), all_positive points (λ q a. h q (inr a)))

pub lo_snapshot : (v : ℕ) → 0 < v → 0 < number (snapshot v)
lo_snapshot v lo = omega (arith, lo)

pub lo_commit : (v : ℕ) → 0 < v → 0 < number (commit v)
lo_commit v lo = omega (arith, lo)

-- ---- locks replay exactly where writers of one key do not overlap
abbrev Begins : List ClientSession → List Point → Type 0
Begins ss points = (v : ℕ) → 0 < v → v ≤ length (committed_in ss) → StandsBefore points (snapshot v) (commit v)

abbrev Writers : List ClientSession → List Point → Type 0
Writers ss points = (a b : ℕ) (key : List ℕ) (v w : ℕ) → a ≢ b → Contains (ops_of ss a) (Write key v) → Contains (ops_of ss b) (Write key w) → StandsBefore points (commit a) (snapshot b) ⊎ StandsBefore points (commit b) (snapshot a)

locks_where_writers : (ss : List ClientSession) (locks : Locks) → Apart (written (ops_in ss)) → AreFresh locks ss → (points : List Point) → ListsOnce (2 * length (committed_in ss)) (map number points) → Begins ss points → (locks.taken ≡ true → Writers ss points) → Replays initial (flat_map (lock_ops (named locks ss)) points)
locks_where_writers ss locks apart fresh points once begins writers =
    locks_replay (named locks ss) (are_own ss locks apart fresh) (each_once ss locks fresh) points initial (once_apart (2 * length (committed_in ss)) (map number points) once) (all_positive points (λ p a. (listed (2 * length (committed_in ss)) (map number points) once (number p) a).0)) (record { held = held; clear = clear })
  where
    first : (u : ℕ) → 0 < u → u ≤ length (committed_in ss) → place points (snapshot u) < place points (commit u)
    first u lo hi = before_place points (snapshot u) (commit u) (lo_snapshot u lo) (lo_commit u lo) (begins u lo hi)

    held : (u : ℕ) → 0 < u → At points (commit u) → (place points (snapshot u) < place points (commit u)) ⊎ ((At points (snapshot u) → ⊥) × AllByRecursion (λ (q : List ℕ × ℕ). initial q.0 ≡ q.1) (named locks ss u))
    held u lo at = inl (first u lo (commit_within (length (committed_in ss)) points once u at))

    clear : (u v : ℕ) → 0 < u → 0 < v → v ≢ u → Shares (named locks ss) u v → At points (commit u) → At points (snapshot v) → (place points (commit u) < place points (snapshot v)) ⊎ (At points (snapshot u) × (place points (snapshot v) < place points (snapshot u)))
    clear u v lo lo_v ne s at_c at_s =
        let w = write_where_shares ss locks fresh u v s in
        let hi = (is_node ss u (Write w.key w.one) w.has).1 in
        let hi_v = (is_node ss v (Write w.key w.other) w.shares).1 in
        elim (writers w.taken u v w.key w.one w.other (λ e. ne (sym e)) w.has w.shares) [
          | inl b ↦ inl (before_place points (commit u) (snapshot v) (lo_commit u lo) (lo_snapshot v lo_v) b)
          | inr b ↦ inr (
            stands (length (committed_in ss)) points once (snapshot u) (lo_snapshot u lo) (omega (arith, hi)),
            omega (arith, first v lo_v hi_v, before_place points (commit v) (snapshot u) (lo_commit v lo_v) (lo_snapshot u lo) b),
          )
        ]

writers_where_locks : (ss : List ClientSession) (locks : Locks) → Apart (written (ops_in ss)) → AreFresh locks ss → (points : List Point) → ListsOnce (2 * length (committed_in ss)) (map number points) → Begins ss points → Replays initial (flat_map (lock_ops (named locks ss)) points) → locks.taken ≡ true → Writers ss points
writers_where_locks ss locks apart fresh points once begins r taken a b key v w ne c d =
    elim (past a b na nb (λ e. ne (sym e)) (shares_where_write ss locks a b key v w taken c d)) [
      | inr behind ↦ inl (place_before points (commit a) (snapshot b) (lo_commit a na.0) (lo_snapshot b nb.0) behind)
      | inl before_a ↦ elim (past b a nb na ne (shares_where_write ss locks b a key w v taken d c)) [
        | inr behind ↦ inr (place_before points (commit b) (snapshot a) (lo_commit b nb.0) (lo_snapshot a na.0) behind)
        | inl before_b ↦ absurd (omega (arith, before_a, before_b))
      ]
    ]
  where
    n : ℕ
    n = length (committed_in ss)

    na : (0 < a) × (a ≤ length (committed_in ss))
    na = is_node ss a (Write key v) c

    nb : (0 < b) × (b ≤ length (committed_in ss))
    nb = is_node ss b (Write key w) d

    past : (x y : ℕ) → (0 < x) × (x ≤ length (committed_in ss)) → (0 < y) × (y ≤ length (committed_in ss)) → y ≢ x → Shares (named locks ss) x y → (place points (snapshot y) < place points (snapshot x)) ⊎ (place points (commit x) < place points (snapshot y))
    past x y nx ny differ s =
        let hi = nx.1 in
        outside (named locks ss) (are_own ss locks apart fresh) points initial x y nx.0 ny.0 differ (once_apart (2 * length (committed_in ss)) (map number points) once) r
        (stands (length (committed_in ss)) points once (snapshot x) (lo_snapshot x nx.0) (omega (arith, hi)))
        (stands (length (committed_in ss)) points once (commit x) (lo_commit x nx.0) (omega (arith, hi)))
        (before_place points (snapshot x) (commit x) (lo_snapshot x nx.0) (lo_commit x nx.0) (begins x nx.0 hi)) s

-- ---- numbers of points in order
record Ends (q : Test) (ss two : List ClientSession) (v : ℕ) : Type 0 where
  pub lo : 0 < no q ss (snapshot v)
  pub le : no q ss (snapshot v) ≤ no q ss (commit v)
  pub hi : no q ss (commit v) ≤ length (committed_in two)

rises : (q : Test) (ss : List ClientSession) (u v : ℕ) → u < v → v ≤ length (committed_in ss) → no q ss (commit u) < no q ss (snapshot v)
rises q ss u zero lt hi = absurd (omega (arith, lt))
rises q ss u (suc j) lt hi = elim (cases_eq u j) [
  | inl e ↦ let same = ap (λ k. upto q k (committed_in ss)) e in omega (arith, same)
  | inr ne ↦ let more = less q (committed_in ss) u j (omega (arith, lt, ne)) (omega (arith, hi)) in omega (arith, more)
]

ends : {q : Test} {locks : Locks} {ss two : List ClientSession} → IsParted q locks ss two → (v : ℕ) → 0 < v → v ≤ length (committed_in ss) → Ends q ss two v
ends {q} {locks} {ss} {two} h v lo hi = record {
  lo = let lt = rises q ss 0 v lo hi in omega (arith, lt);
  le = elim (node_at h v lo hi).kind [
    | inl k ↦ let e = k.next in omega (arith, e)
    | inr k ↦ let e = k.same in omega (arith, e)
  ];
  hi = elim (cases_eq v (length (committed_in ss))) [
    | inl e ↦ let same = ap (λ u. no q ss (commit u)) e in omega (arith, same, count h)
    | inr ne ↦ let more = less q (committed_in ss) v (length (committed_in ss)) (omega (arith, hi, ne)) (omega arith) in omega (arith, more, count h)
  ];
}

record InLine (q : Test) (ss two : List ClientSession) (p : Point) : Type 0 where
  pub lo : 0 < no q ss p
  pub hi : no q ss p ≤ length (committed_in two)
  pub from : no q ss (snapshot (point_node p)) ≤ no q ss p
  pub to : no q ss p ≤ no q ss (commit (point_node p))

in_line : {q : Test} {locks : Locks} {ss two : List ClientSession} → IsParted q locks ss two → (p : Point) → IsOf (length (committed_in ss)) p → InLine q ss two p
in_line h (snapshot v) of = let e = ends h v of.lo of.hi in let le = e.le in let hi = e.hi in record { lo = e.lo; hi = omega (arith, le, hi); from = omega arith; to = e.le }
in_line h (commit v) of = let e = ends h v of.lo of.hi in let le = e.le in let lo = e.lo in record { lo = omega (arith, le, lo); hi = e.hi; from = e.le; to = omega arith }

in_order : {q : Test} {locks : Locks} {ss two : List ClientSession} → IsParted q locks ss two → (p r : Point) → IsOf (length (committed_in ss)) p → IsOf (length (committed_in ss)) r → point_node p < point_node r → no q ss p < no q ss r
in_order {q} {locks} {ss} h p r of also lt = omega (arith, (in_line h p of).to, rises q ss (point_node p) (point_node r) lt also.hi, (in_line h r also).from)

is_at : {q : Test} {locks : Locks} {ss two : List ClientSession} → IsParted q locks ss two → (p : Point) → IsOf (length (committed_in ss)) p → IsAt q locks ss two p
is_at h (snapshot v) of = (node_at h v of.lo of.hi).first
is_at h (commit v) of = (node_at h v of.lo of.hi).last

-- ---- each number is that of a point
record Head (q : Test) (ss : List ClientSession) (k : ℕ) : Type 0 where
  pub point : Point
  pub of : IsOf (length (committed_in ss)) point
  pub is : no q ss point ≡ k
  pub has : Has k (heads q ss point)

head_of : {q : Test} {locks : Locks} {ss two : List ClientSession} → IsParted q locks ss two → (p : Point) → IsOf (length (committed_in ss)) p → Head q ss (no q ss p)
head_of h (snapshot v) of = record { point = snapshot v; of = of; is = refl; has = inl refl }
head_of {q} {locks} {ss} h (commit v) of = elim (node_at h v of.lo of.hi).kind [
  | inl k ↦ record { point = commit v; of = of; is = refl; has = subst (λ b. Has (no q ss (commit v)) (cond b (no q ss (commit v) ∷ []) [])) (sym k.is) (inl refl) }
  | inr k ↦ record { point = snapshot v; of = record { lo = of.lo; hi = of.hi }; is = sym k.same; has = inl (sym k.same) }
]

of_head : (q : Test) (ss : List ClientSession) (p : Point) (k : ℕ) → Has k (heads q ss p) → no q ss p ≡ k
of_head q ss (snapshot v) k (inl e) = e
of_head q ss (snapshot v) k (inr none) = absurd none
of_head q ss (commit v) k h = elim (cases_Bool (q (ops_of ss v))) [
  | inl e ↦ let one : Has k (no q ss (commit v) ∷ []) = rw e at h in elim one [ inl same ↦ same | inr none ↦ absurd none ]
  | inr e ↦ absurd (rw e at h)
]

one_head : {q : Test} {locks : Locks} {ss two : List ClientSession} → IsParted q locks ss two → (p r : Point) (k : ℕ) → IsOf (length (committed_in ss)) p → IsOf (length (committed_in ss)) r → Has k (heads q ss p) → Has k (heads q ss r) → p ≡ r
one_head {q} {locks} {ss} h p r k of also a b =
    let one = of_head q ss p k a in
    let other = of_head q ss r k b in
    elim (cases_order (point_node p) (point_node r)) [
      | inl same ↦ of_node p r of same a b
      | inr differ ↦ elim differ [
        | inl lt ↦ absurd (let l = in_order h p r of also lt in omega (arith, one, other, l))
        | inr gt ↦ absurd (let l = in_order h r p also of gt in omega (arith, one, other, l))
      ]
    ]
  where
    never : (v : ℕ) → 0 < v → v ≤ length (committed_in ss) → Has k (heads q ss (snapshot v)) → Has k (heads q ss (commit v)) → ⊥
    never v lo hi c d = elim (node_at h v lo hi).kind [
      | inl w ↦ let e = w.next in omega (arith, e, of_head q ss (snapshot v) k c, of_head q ss (commit v) k d)
      | inr w ↦ subst (λ t. Has k (cond t (no q ss (commit v) ∷ []) [])) w.is d
    ]

    of_node : (p r : Point) → IsOf (length (committed_in ss)) p → point_node p ≡ point_node r → Has k (heads q ss p) → Has k (heads q ss r) → p ≡ r
    of_node (snapshot u) (snapshot v) of e c d = ap snapshot e
    of_node (snapshot u) (commit v) of e c d = absurd (never u of.lo of.hi c (subst (λ w. Has k (heads q ss (commit w))) (sym e) d))
    of_node (commit u) (snapshot v) of e c d = absurd (never u of.lo of.hi (subst (λ w. Has k (heads q ss (snapshot w))) (sym e) d) c)
    of_node (commit u) (commit v) of e c d = ap commit e

head_at : {q : Test} {locks : Locks} {ss two : List ClientSession} → IsParted q locks ss two → (k : ℕ) → 0 < k → k ≤ length (committed_in two) → Head q ss k
head_at h zero lo hi = absurd (omega (arith, lo))
head_at {q} {locks} {ss} {two} h (suc j) lo hi =
    let r = spot q (committed_in ss) j (omega (arith, hi, count h)) in
    let lt = r.within in
    elim r.is [
      | inl e ↦ subst (Head q ss) (ap suc (sym e)) (head_of h (snapshot (suc r.index)) (record { lo = omega arith; hi = omega (arith, lt) }))
      | inr e ↦ subst (Head q ss) (sym e) (head_of h (commit (suc r.index)) (record { lo = omega arith; hi = omega (arith, lt) }))
    ]

-- ---- from points to numbers, and back
abbrev heads_of : Test → List ClientSession → ℕ → List ℕ
heads_of q ss x = heads q ss (point_at x).point

is_point : (n x : ℕ) → 0 < x → x ≤ 2 * n → IsOf n (point_at x).point
is_point n x lo hi = let e = (point_at x).is in is_of n (point_at x).point (omega (arith, e, lo)) (omega (arith, e, hi))

spread_heads : {q : Test} {locks : Locks} {ss two : List ClientSession} → IsParted q locks ss two → Spreads (2 * length (committed_in ss)) (length (committed_in two)) (heads_of q ss)
spread_heads {q} {locks} {ss} {two} h = record {
  within = λ x y lo hi has. (let l = in_line h (point_at x).point (is_point (length (committed_in ss)) x lo hi) in
      subst (λ k. (0 < k) × (k ≤ length (committed_in two))) (of_head q ss (point_at x).point y has) (l.lo, l.hi));
  found = λ y lo hi. (let r = head_at h y lo hi in
      let w = within (length (committed_in ss)) r.point r.of in
      (number r.point, w.0, w.1, subst (λ p. Has y (heads q ss p)) (sym (at_point (length (committed_in ss)) r.point r.of)) r.has));
  one = λ a b y lo hi lo_b hi_b c d. sym (point_at a).is ∙ ap number (one_head h (point_at a).point (point_at b).point y (is_point (length (committed_in ss)) a lo hi) (is_point (length (committed_in ss)) b lo_b hi_b) c d) ∙ (point_at b).is;
  apart = λ x lo hi. apart (point_at x).point;
}
  where
    apart : (p : Point) → Apart (heads q ss p)
    apart (snapshot v) = ((λ n. n), tt)
    apart (commit v) = elim (cases_Bool (q (ops_of ss v))) [
      | inl e ↦ rw e ((λ n. n), tt)
      | inr e ↦ rw e tt
    ]

abbrev numbers_of : Test → List ClientSession → ℕ → List ℕ
numbers_of q ss k = map number (points_of q ss k)

abbrev Stands : Test → List ClientSession → ℕ → Point → Type 0
Stands q ss k p = IsOf (length (committed_in ss)) p × (no q ss p ≡ k)

record AtNumber (q : Test) (ss : List ClientSession) (k : ℕ) : Type 0 where
  pub all : AllByRecursion (Stands q ss k) (points_of q ss k)
  pub apart : Apart (numbers_of q ss k)

at_number : {q : Test} {locks : Locks} {ss two : List ClientSession} → IsParted q locks ss two → (k : ℕ) → 0 < k → k ≤ length (committed_in two) → AtNumber q ss k
at_number {q} {locks} {ss} h k lo hi = let r = head_at h k lo hi in subst (AtNumber q ss) r.is (go r.point r.of)
  where
    listed_as : (j : ℕ) (ps : List Point) → points_of q ss j ≡ ps → AllByRecursion (Stands q ss j) ps → Apart (map number ps) → AtNumber q ss j
    listed_as j ps e all apart = record { all = subst (AllByRecursion (Stands q ss j)) (sym e) all; apart = subst (λ l. Apart (map number l)) (sym e) apart }

    both : (v : ℕ) → IsOf (length (committed_in ss)) (snapshot v) → Whole q ss v → AtNumber q ss (no q ss (snapshot v))
    both v of w =
        let lo = of.lo in
        listed_as (no q ss (snapshot v)) (snapshot v ∷ commit v ∷ []) w.points ((of, refl), ((record { lo = of.lo; hi = of.hi }, w.same), tt)) ((λ c. elim c [ inl e ↦ commit_snapshot v v lo e | inr n ↦ n ]), ((λ n. n), tt))

    go : (p : Point) → IsOf (length (committed_in ss)) p → AtNumber q ss (no q ss p)
    go (snapshot v) of = elim (node_at h v of.lo of.hi).kind [
      | inl w ↦ listed_as (no q ss (snapshot v)) (snapshot v ∷ []) w.first ((of, refl), tt) ((λ n. n), tt)
      | inr w ↦ both v of w
    ]
    go (commit v) of = elim (node_at h v of.lo of.hi).kind [
      | inl w ↦ listed_as (no q ss (commit v)) (commit v ∷ []) w.last ((of, refl), tt) ((λ n. n), tt)
      | inr w ↦ subst (AtNumber q ss) (sym w.same) (both v (record { lo = of.lo; hi = of.hi }) w)
    ]

come : {q : Test} {locks : Locks} {ss two : List ClientSession} → IsParted q locks ss two → (k y : ℕ) → 0 < k → k ≤ length (committed_in two) → Has y (numbers_of q ss k) → (p : Point) × (number p ≡ y) × Stands q ss k p
come {q} {locks} {ss} h k y lo hi has =
    let r = of_mapped number (points_of q ss k) y (Contains-from_Has (numbers_of q ss k) y has) in
    (r.0, r.2, member (Stands q ss k) (points_of q ss k) r.0 (at_number h k lo hi).all r.1)

spread_points : {q : Test} {locks : Locks} {ss two : List ClientSession} → IsParted q locks ss two → Spreads (length (committed_in two)) (2 * length (committed_in ss)) (numbers_of q ss)
spread_points {q} {locks} {ss} {two} h = record {
  within = λ k y lo hi has. (let r = come h k y lo hi has in subst (λ n. (0 < n) × (n ≤ 2 * length (committed_in ss))) r.1 (within (length (committed_in ss)) r.0 r.2.0));
  found = λ y lo hi. (let p = (point_at y).point in
      let of = is_point (length (committed_in ss)) y lo hi in
      let l = in_line h p of in
      (no q ss p, l.lo, l.hi, subst (λ n. Has n (numbers_of q ss (no q ss p))) (point_at y).is (is_at h p of).has));
  one = λ a b y lo hi lo_b hi_b c d. (let r = come h a y lo hi c in
      let s = come h b y lo_b hi_b d in
      sym r.2.1 ∙ ap (no q ss) (point_of_number r.0 s.0 s.2.0.lo (r.1 ∙ sym s.1)) ∙ s.2.1);
  apart = λ k lo hi. (at_number h k lo hi).apart;
}

-- ---- from a point order
pub never_later : (o : Option ℕ) → is_earlier o None ≡ false
never_later None = refl
never_later (Some m) = refl

never_before : (o : Option ℕ) → is_earlier None o ≡ false
never_before None = refl
never_before (Some m) = refl

earlier : (a b c d : Option ℕ) → (a ≡ None) ⊎ (a ≡ c) → (b ≡ None) ⊎ (b ≡ d) → is_earlier a b ≡ true → is_earlier c d ≡ true
earlier a b c d (inl e) f h = absurd (false≢true (sym (ap (λ o. is_earlier o b) e ∙ never_before b) ∙ h))
earlier a b c d (inr e) (inl f) h = absurd (false≢true (sym (ap (is_earlier a) f ∙ never_later a) ∙ h))
earlier a b c d (inr e) (inr f) h = sym (ap (λ o. is_earlier o b) e ∙ ap (is_earlier c) f) ∙ h

pub serial_from_points : {q : Test} {locks : Locks} {ss two : List ClientSession} → IsParted q locks ss two → Apart (written (ops_in ss)) → AreFresh locks ss → (points : List Point) → IsPointOrder locks.taken ss points → IsSerialOrder two (flat_map (heads_of q ss) (map number points))
serial_from_points {q} {locks} {ss} {two} h apart fresh points o = record {
  once = once_spread (spread_heads h) (map number points) o.once;
  sessions = λ a b lo lt hi e. (let p = head_at h a lo (omega (arith, lt, hi)) in
      let r = head_at h b (omega (arith, lo, lt)) hi in
      let one = p.is in
      let other = r.is in
      step p r (sessions p.point r.point p.of r.of (omega (arith, one, other, lt))
      (sym (is_at h p.point p.of).session ∙ ap (session_of two) p.is ∙ e ∙ sym (ap (session_of two) r.is) ∙ (is_at h r.point r.of).session)));
  moments = λ a b lo hi lo_b hi_b ne e. (let p = head_at h a lo hi in
      let r = head_at h b lo_b hi_b in
      step p r (around p.point r.point p.of r.of (o.moments (point_node p.point) (point_node r.point) p.of.lo p.of.hi r.of.lo r.of.hi
      (earlier (ended_of two (no q ss p.point)) (begun_of two (no q ss r.point)) (ended_of ss (point_node p.point)) (begun_of ss (point_node r.point)) (is_at h p.point p.of).ended (is_at h r.point r.of).begun
      (ap (λ x. is_earlier (ended_of two x) (begun_of two (no q ss r.point))) p.is ∙ ap (λ y. is_earlier (ended_of two a) (begun_of two y)) r.is ∙ e)))));
  reads = subst (Replays initial) (sym ops) ((replays_apart ss locks fresh points).1 (o.reads, locks_where_writers ss locks apart fresh points o.once o.begins o.writers));
}
  where
    step : {a b : ℕ} (p : Head q ss a) (r : Head q ss b) → StandsBefore points p.point r.point → Before (flat_map (heads_of q ss) (map number points)) a b
    step {a} {b} p r before =
        let i = within (length (committed_in ss)) p.point p.of in
        let j = within (length (committed_in ss)) r.point r.of in
        before_spread (spread_heads h) (map number points) o.once (number p.point) (number r.point) a b i.0 i.1 j.0 j.1 (subst (λ x. Has a (heads q ss x)) (sym (at_point (length (committed_in ss)) p.point p.of)) p.has) (subst (λ x. Has b (heads q ss x)) (sym (at_point (length (committed_in ss)) r.point r.of)) r.has) before

    around : (p r : Point) → IsOf (length (committed_in ss)) p → IsOf (length (committed_in ss)) r → StandsBefore points (commit (point_node p)) (snapshot (point_node r)) → StandsBefore points p r
    around (commit u) (snapshot v) of also b = b
    around (snapshot u) (snapshot v) of also b = omega (arith, o.begins u of.lo of.hi, b)
    around (commit u) (commit v) of also b = omega (arith, b, o.begins v also.lo also.hi)
    around (snapshot u) (commit v) of also b = omega (arith, o.begins u of.lo of.hi, b, o.begins v also.lo also.hi)

    on_node : (p r : Point) → IsOf (length (committed_in ss)) p → point_node p ≡ point_node r → no q ss p < no q ss r → StandsBefore points p r
    on_node (snapshot u) (commit v) of e lt = subst (λ w. StandsBefore points (snapshot u) (commit w)) e (o.begins u of.lo of.hi)
    on_node (snapshot u) (snapshot v) of e lt = absurd (let same = ap (λ w. no q ss (snapshot w)) e in omega (arith, lt, same))
    on_node (commit u) (commit v) of e lt = absurd (let same = ap (λ w. no q ss (commit w)) e in omega (arith, lt, same))
    on_node (commit u) (snapshot v) of e lt = absurd (let same = ap (λ w. no q ss (snapshot w)) e in let le = (ends h u of.lo of.hi).le in omega (arith, lt, same, le))

    sessions : (p r : Point) → IsOf (length (committed_in ss)) p → IsOf (length (committed_in ss)) r → no q ss p < no q ss r → session_of ss (point_node p) ≡ session_of ss (point_node r) → StandsBefore points p r
    sessions p r of also lt e = elim (cases_order (point_node p) (point_node r)) [
      | inl same ↦ on_node p r of same lt
      | inr differ ↦ elim differ [
        | inl up ↦ around p r of also (o.sessions (point_node p) (point_node r) of.lo up also.hi e)
        | inr down ↦ absurd (let l = in_order h r p also of down in omega (arith, lt, l))
      ]
    ]

    ops : flat_map (ops_of two) (flat_map (heads_of q ss) (map number points)) ≡ flat_map (split_ops locks ss) points
    ops =
        ap (flat_map (ops_of two)) (flat_map-map (heads_of q ss) number points)
        ∙ flat_flat (λ p. heads_of q ss (number p)) (ops_of two) (split_ops locks ss) points (λ p c. (let of = of_points (length (committed_in ss)) points o.once p c in
        ap (λ x. flat_map (ops_of two) (heads q ss x)) (at_point (length (committed_in ss)) p of) ∙ (is_at h p of).heads))

-- ---- from a serial order of that log
pub points_from_serial : {q : Test} {locks : Locks} {ss two : List ClientSession} → IsParted q locks ss two → IsSoundLog ss → IsLearntLog ss → AreFresh locks ss → (order : List ℕ) → IsSerialOrder two order → IsPointOrder locks.taken ss (flat_map (points_of q ss) order)
points_from_serial {q} {locks} {ss} {two} h sound learnt fresh order o = record {
  once = once;
  begins = begins;
  sessions = λ a b lo lt hi e. (let hi_a : a ≤ length (committed_in ss) = omega (arith, lt, hi) in
      let lo_b : 0 < b = omega (arith, lo, lt) in
      let i = ends h a lo hi_a in
      let j = ends h b lo_b hi in
      let lo_i = i.lo in
      let le_i = i.le in
      stand (commit a) (snapshot b) (record { lo = lo; hi = hi_a }) (record { lo = lo_b; hi = hi }) (o.sessions (no q ss (commit a)) (no q ss (snapshot b)) (omega (arith, lo_i, le_i)) (rises q ss a b lt hi) (let le_j = j.le in let hi_j = j.hi in omega (arith, le_j, hi_j))
      ((node_at h a lo hi_a).last.session ∙ e ∙ sym (node_at h b lo_b hi).first.session)));
  moments = λ a b lo hi lo_b hi_b e. (let i = in_line h (commit a) (record { lo = lo; hi = hi }) in
      let j = in_line h (snapshot b) (record { lo = lo_b; hi = hi_b }) in
      stand (commit a) (snapshot b) (record { lo = lo; hi = hi }) (record { lo = lo_b; hi = hi_b })
      (o.moments (no q ss (commit a)) (no q ss (snapshot b)) i.lo i.hi j.lo j.hi (differ a b lo hi lo_b hi_b e) (ap (λ x. is_earlier x (begun_of two (no q ss (snapshot b)))) (node_at h a lo hi).ended ∙ ap (is_earlier (ended_of ss a)) (node_at h b lo_b hi_b).begun ∙ e)));
  writers = writers_where_locks ss locks apart fresh points once begins both.1;
  reads = both.0;
}
  where
    points : List Point
    points = flat_map (points_of q ss) order

    apart : Apart (written (ops_in ss))
    apart = all_writes ss sound

    numbers : map number (flat_map (points_of q ss) order) ≡ flat_map (numbers_of q ss) order
    numbers = map_flat number (points_of q ss) order

    once : ListsOnce (2 * length (committed_in ss)) (map number (flat_map (points_of q ss) order))
    once = subst (ListsOnce (2 * length (committed_in ss))) (sym numbers) (once_spread (spread_points h) order o.once)

    stand : (p r : Point) → IsOf (length (committed_in ss)) p → IsOf (length (committed_in ss)) r → Before order (no q ss p) (no q ss r) → StandsBefore (flat_map (points_of q ss) order) p r
    stand p r of also b =
        let i = in_line h p of in
        let j = in_line h r also in
        subst (λ l. Before l (number p) (number r)) (sym numbers) (before_spread (spread_points h) order o.once (no q ss p) (no q ss r) (number p) (number r) i.lo i.hi j.lo j.hi (is_at h p of).has (is_at h r also).has b)

    begins : Begins ss (flat_map (points_of q ss) order)
    begins v lo hi = let i = in_line h (snapshot v) (record { lo = lo; hi = hi }) in elim (node_at h v lo hi).kind [
      | inl k ↦
          let j = in_line h (commit v) (record { lo = lo; hi = hi }) in
          let e = k.next in
          stand (snapshot v) (commit v) (record { lo = lo; hi = hi }) (record { lo = lo; hi = hi })
          (o.sessions (no q ss (snapshot v)) (no q ss (commit v)) i.lo (omega (arith, e)) j.hi ((node_at h v lo hi).first.session ∙ sym (node_at h v lo hi).last.session))
      | inr k ↦
          subst (λ l. Before l (number (snapshot v)) (number (commit v))) (sym numbers)
          (within_spread (spread_points h) order o.once (no q ss (snapshot v)) (number (snapshot v)) (number (commit v)) i.lo i.hi (ap (map number) k.points) (snapshot_commit v v lo))
    ]

    differ : (a b : ℕ) → 0 < a → a ≤ length (committed_in ss) → 0 < b → b ≤ length (committed_in ss) → is_earlier (ended_of ss a) (begun_of ss b) ≡ true → no q ss (commit a) ≢ no q ss (snapshot b)
    differ a b lo hi lo_b hi_b e same = elim (cases_order a b) [
      | inl is ↦ false≢true (sym (ordered_at ss learnt sound.ordered a) ∙ ap (λ w. is_earlier (ended_of ss a) (begun_of ss w)) is ∙ e)
      | inr other ↦ elim other [
        | inl up ↦ let l = rises q ss a b up hi_b in omega (arith, same, l)
        | inr down ↦ let l = rises q ss b a down hi in omega (arith, same, l, (ends h a lo hi).le, (ends h b lo_b hi_b).le)
      ]
    ]

    both : Replays initial (flat_map (ops_at ss) (flat_map (points_of q ss) order)) × Replays initial (flat_map (lock_ops (named locks ss)) (flat_map (points_of q ss) order))
    both = (replays_apart ss locks fresh (flat_map (points_of q ss) order)).0 (subst (Replays initial) (sym (flat_flat (points_of q ss) (split_ops locks ss) (ops_of two) order at)) o.reads)
      where
        at : (k : ℕ) → Contains order k → flat_map (split_ops locks ss) (points_of q ss k) ≡ ops_of two k
        at k c =
            let b = listed (length (committed_in two)) order o.once k (Has-from_Contains order k c) in
            let p = head_at h k b.0 b.1 in
            subst (λ j. flat_map (split_ops locks ss) (points_of q ss j) ≡ ops_of two j) p.is (is_at h p.point p.of).points

-- ---- the laws
abbrev pub every : Transaction → Bool
every t = true

abbrev all_ops : Test
all_ops ops = true

pub every_test : IsTest every all_ops
every_test = record { same = λ t e. refl; quiet = λ ops e. absurd (false≢true (sym e)) }

pub writer_test : IsTest is_writer (list_any is_write)
writer_test = record { same = λ t e. rw e refl; quiet = λ ops e. e }

-- where all are split, the number of each point is its own
own_number : (locks : Locks) (ss two : List ClientSession) → IsParted all_ops locks ss two → (v : ℕ) → v ≤ length (committed_in ss) → no all_ops ss (commit v) ≡ 2 * v
own_number locks ss two h zero hi = refl
own_number locks ss two h (suc i) hi = elim (node_at h (suc i) (omega arith) hi).kind [
  | inl k ↦ let e = k.next in omega (arith, e, own_number locks ss two h i (omega (arith, hi)))
  | inr k ↦ absurd (false≢true (sym k.is))
]

is_number : (locks : Locks) (ss two : List ClientSession) → IsParted all_ops locks ss two → (p : Point) → IsOf (length (committed_in ss)) p → (no all_ops ss p ≡ number p) × (points_of all_ops ss (number p) ≡ p ∷ [])
is_number locks ss two h p of = elim (node_at h (point_node p) of.lo of.hi).kind [
  | inl k ↦ go p of k
  | inr k ↦ absurd (false≢true (sym k.is))
]
  where
    go : (r : Point) → IsOf (length (committed_in ss)) r → Halved all_ops ss (point_node r) → (no all_ops ss r ≡ number r) × (points_of all_ops ss (number r) ≡ r ∷ [])
    go (snapshot v) of k =
        let e : no all_ops ss (snapshot v) ≡ number (snapshot v) = let next = k.next in omega (arith, next, own_number locks ss two h v of.hi) in
        (e, ap (points_of all_ops ss) (sym e) ∙ k.first)
    go (commit v) of k = let e = own_number locks ss two h v of.hi in (e, ap (points_of all_ops ss) (sym e) ∙ k.last)

pub orders_of_split : OrdersOfSplit
orders_of_split ss locks sound learnt fresh points = (to, from)
  where
    h : IsParted all_ops locks ss (split locks ss)
    h = is_parted every_test locks ss learnt

    to : IsPointOrder locks.taken ss points → IsSerialOrder (split locks ss) (map number points)
    to o = subst (IsSerialOrder (split locks ss)) (flat_self (heads_of all_ops ss) (map number points) own) (serial_from_points h (all_writes ss sound) fresh points o)
      where
        own : (x : ℕ) → Contains (map number points) x → heads_of all_ops ss x ≡ x ∷ []
        own x c =
            let b = listed (2 * length (committed_in ss)) (map number points) o.once x (Has-from_Contains (map number points) x c) in
            single (point_at x).point ∙ ap (λ k. k ∷ []) ((is_number locks ss (split locks ss) h (point_at x).point (is_point (length (committed_in ss)) x b.0 b.1)).0 ∙ (point_at x).is)
          where
            single : (p : Point) → heads all_ops ss p ≡ no all_ops ss p ∷ []
            single (snapshot v) = refl
            single (commit v) = refl

    from : IsSerialOrder (split locks ss) (map number points) → IsPointOrder locks.taken ss points
    from o =
        subst (IsPointOrder locks.taken ss) (flat_map-map (points_of all_ops ss) number points ∙ flat_self (λ p. points_of all_ops ss (number p)) points own) (points_from_serial h sound learnt fresh (map number points) o)
      where
        long : length (committed_in (split locks ss)) ≡ 2 * length (committed_in ss)
        long = count h ∙ own_number locks ss (split locks ss) h (length (committed_in ss)) (omega arith)

        own : (p : Point) → Contains points p → points_of all_ops ss (number p) ≡ p ∷ []
        own p c = (is_number locks ss (split locks ss) h p (of_points (length (committed_in ss)) points (subst (λ n. ListsOnce n (map number points)) long o.once) p c)).1

-- whichever are split
pub by_splitting : {p : Transaction → Bool} {q : Test} → IsTest p q → (ss : List ClientSession) (locks : Locks) → IsSoundLog ss → IsLearntLog ss → AreFresh locks ss → (HasPointOrder locks.taken ss ↔ HasOrder (by_test p locks ss))
by_splitting {p} {q} test ss locks sound learnt fresh =
    let h = is_parted test locks ss learnt in (
      (λ (points, o). (flat_map (heads_of q ss) (map number points), serial_from_points h (all_writes ss sound) fresh points o)),
      (λ (order, o). (flat_map (points_of q ss) order, points_from_serial h sound learnt fresh order o)),
    )

pub snapshot_by_split : SnapshotBySplit
snapshot_by_split = by_splitting every_test
