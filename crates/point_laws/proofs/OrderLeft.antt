-- Where outcomes are known and some nodes stay, each with some of its operations: what is left of a point order is one of theirs.
use Rattle.point_laws.proofs.Prelude.{◌≡◌, ◌≢◌, ◌⊎◌, ℕ, ◌*◌, ◌<◌, ◌≤◌, Bool, List, [], ◌∷◌, length, map, refl, sym, ap, ◌∙◌, subst, inl, inr, arith, true, flat_map, Contains, same_Some, is_earlier, ClientSession, Read, Write, ListsOnce}
use Rattle.point_laws.proofs.Prelude.{Has, Apart, Has-append_cases, Apart-append, once_apart, ops_in, written, committed_in, ops_of, begun_of, ended_of, Map, initial, Replays, written-append, Has-written, after, Replays-append, IsSublist}
use Rattle.point_laws.proofs.Prelude.{was_in, KeepsSources, replays_less, Point, snapshot, commit, number, StandsBefore, snapshot_reads, rest, ops_at, IsPointOrder}
use Rattle.point_laws.proofs.Arith.{point_of_number, IsOf, within}
use Rattle.point_laws.proofs.Parts.{written_snapshot, written_rest}
use Rattle.point_laws.proofs.Intervals.{At}
use Rattle.point_laws.proofs.Nodes.{is_node, one_node, apart_node}
use Rattle.point_laws.proofs.Orders.{stands}
use Rattle.point_laws.proofs.Chosen.{at_node, of_number, point_ops, at_points}
use Rattle.point_laws.proofs.Left.{AreKept, placed, left_of, once_left, before_left, ops_left}
use Rattle.point_laws.proofs.Fewer.{fewer_in_halves}
use Rattle.point_laws.proofs.Known.{Known, IsOfNode, of_node}
use Rattle.point_laws.proofs.Kept.{number_at, number_back, are_kept, number_rises, are_of}

-- ---- along points no identity is written twice
record IsCommit (ss : List ClientSession) (w : ℕ) (p : Point) : Type 0 where
  pub node : ℕ
  pub is : p ≡ commit node
  pub does : Has w (written (ops_of ss node))

commit_where : (ss : List ClientSession) (w : ℕ) (p : Point) → Has w (written (ops_at ss p)) → IsCommit ss w p
commit_where ss w (snapshot v) h = absurd (subst (Has w) (written_snapshot (ops_of ss v)) h)
commit_where ss w (commit v) h = record { node = v; is = refl; does = subst (Has w) (written_rest (ops_of ss v)) h }

point_apart : (ss : List ClientSession) → Apart (written (ops_in ss)) → (p : Point) → Apart (written (ops_at ss p))
point_apart ss apart (snapshot v) = subst Apart (sym (written_snapshot (ops_of ss v))) tt
point_apart ss apart (commit v) = subst Apart (sym (written_rest (ops_of ss v))) (apart_node ss apart v)

record IsWriter (ss : List ClientSession) (w : ℕ) (points : List Point) : Type 0 where
  pub point : Point
  pub has : At points point
  pub does : Has w (written (ops_at ss point))

writer : (ss : List ClientSession) (w : ℕ) (points : List Point) → Has w (written (flat_map (ops_at ss) points)) → IsWriter ss w points
writer ss w [] h = absurd h
writer ss w (x ∷ points) h = elim (Has-append_cases w (written (ops_at ss x)) (written (flat_map (ops_at ss) points)) (subst (Has w) (written-append (ops_at ss x) (flat_map (ops_at ss) points)) h)) [
  | inl here ↦ record { point = x; has = inl refl; does = here }
  | inr later ↦ let r = writer ss w points later in record { point = r.point; has = inr r.has; does = r.does }
]

points_apart : (ss : List ClientSession) → Apart (written (ops_in ss)) → (points : List Point) → Apart (map number points) → Apart (written (flat_map (ops_at ss) points))
points_apart ss apart [] h = tt
points_apart ss apart (x ∷ points) h =
    subst Apart (sym (written-append (ops_at ss x) (flat_map (ops_at ss) points)))
    (Apart-append (written (ops_at ss x)) (written (flat_map (ops_at ss) points)) (point_apart ss apart x) (points_apart ss apart points h.1) other)
  where
    other : (w : ℕ) → Has w (written (ops_at ss x)) → Has w (written (flat_map (ops_at ss) points)) → ⊥
    other w here later =
        let r = writer ss w points later in
        let a = commit_where ss w x here in
        let b = commit_where ss w r.point r.does in
        let same : r.point ≡ x = b.is ∙ ap commit (one_node ss apart b.node a.node w b.does a.does) ∙ sym a.is in
        h.0 (subst (λ p. Has (number p) (map number points)) same r.has)

-- ---- what a node does at its commit is replayed from some map
met_at : (ss : List ClientSession) (points : List Point) (v : ℕ) → 0 < v → At points (commit v) → (m : Map) → Replays m (flat_map (ops_at ss) points) → (from : Map) × Replays from (rest (ops_of ss v))
met_at ss [] v lo h m r = absurd h
met_at ss (x ∷ points) v lo (inl e) m r =
    let is : x ≡ commit v = point_of_number x (commit v) lo e in
    subst (λ p. (from : Map) × Replays from (ops_at ss p)) is (m, ((Replays-append m (ops_at ss x) (flat_map (ops_at ss) points)).0 r).0)
met_at ss (x ∷ points) v lo (inr h) m r =
    met_at ss points v lo h (after m (ops_at ss x)) ((Replays-append m (ops_at ss x) (flat_map (ops_at ss) points)).0 r).1

-- ---- what is left of a point order
pub order_left : {locked : Bool} (xs ys : List ClientSession) (k : Known xs ys) (points : List Point) → IsPointOrder locked xs points → IsPointOrder locked ys (left_of (number_back k.nodes) points)
order_left {locked = locked} xs ys k points o = record {
  once = once;
  begins = λ v lo hi. (let u = kept.to v lo hi in
      stand (snapshot v) (commit v) (at_snapshot v lo hi) (at_commit v lo hi) (o.begins (number_at k.nodes v) u.1 u.2));
  sessions = λ a b lo lt hi e. (let hi_a : a ≤ length (committed_in ys) = omega (arith, lt, hi) in
      let lo_b : 0 < b = omega (arith, lo, lt) in
      let u = kept.to a lo hi_a in
      let w = kept.to b lo_b hi in
      stand (commit a) (snapshot b) (at_commit a lo hi_a) (at_snapshot b lo_b hi)
      (o.sessions (number_at k.nodes a) (number_at k.nodes b) u.1 (number_rises k.nodes a b lo lt hi) w.2 (sym (of a lo hi_a).session ∙ e ∙ (of b lo_b hi).session)));
  moments = λ a b lo hi lo_b hi_b e. (let u = kept.to a lo hi in
      let w = kept.to b lo_b hi_b in
      stand (commit a) (snapshot b) (at_commit a lo hi) (at_snapshot b lo_b hi_b)
      (o.moments (number_at k.nodes a) (number_at k.nodes b) u.1 u.2 w.1 w.2 (ap (λ t. is_earlier t (begun_of xs (number_at k.nodes b))) (sym (of a lo hi).ended) ∙ ap (is_earlier (ended_of ys a)) (sym (of b lo_b hi_b).begun) ∙ e)));
  writers = λ l. writers l;
  reads = replays_less (ops_left kept (ops_at xs) (ops_at ys) points thinned) (points_apart xs k.writes points (once_apart (2 * length (committed_in xs)) (map number points) o.once)) sources initial initial (λ key wid c e. e) o.reads;
}
  where
    kept : AreKept (number_back k.nodes) (number_at k.nodes) (length (committed_in xs)) (length (committed_in ys))
    kept = are_kept k.nodes

    once : ListsOnce (2 * length (committed_in ys)) (map number (left_of (number_back k.nodes) points))
    once = once_left kept points o.once

    at_snapshot : (v : ℕ) → 0 < v → v ≤ length (committed_in ys) → IsOf (length (committed_in ys)) (snapshot v)
    at_snapshot v lo hi = record { lo = lo; hi = hi }

    at_commit : (v : ℕ) → 0 < v → v ≤ length (committed_in ys) → IsOf (length (committed_in ys)) (commit v)
    at_commit v lo hi = record { lo = lo; hi = hi }

    of : (v : ℕ) → 0 < v → v ≤ length (committed_in ys) → IsOfNode xs ys (number_at k.nodes v) v
    of v lo hi = of_node xs ys (number_at k.nodes v) v (are_of k.nodes v lo hi)

    stand : (p q : Point) → IsOf (length (committed_in ys)) p → IsOf (length (committed_in ys)) q → StandsBefore points (placed (number_at k.nodes) p) (placed (number_at k.nodes) q) → StandsBefore (left_of (number_back k.nodes) points) p q
    stand p q h j b = before_left kept points o.once p q h j b

    -- two nodes of the part are two of the log
    one : (a b : ℕ) → 0 < a → a ≤ length (committed_in ys) → 0 < b → b ≤ length (committed_in ys) → number_at k.nodes a ≡ number_at k.nodes b → a ≡ b
    one a b lo hi lo_b hi_b e = same_Some a b (sym (kept.to a lo hi).0 ∙ ap (number_back k.nodes) e ∙ (kept.to b lo_b hi_b).0)

    writers : locked ≡ true → (a b : ℕ) (key : List ℕ) (v w : ℕ) → a ≢ b → Contains (ops_of ys a) (Write key v) → Contains (ops_of ys b) (Write key w) → StandsBefore (left_of (number_back k.nodes) points) (commit a) (snapshot b) ⊎ StandsBefore (left_of (number_back k.nodes) points) (commit b) (snapshot a)
    writers l a b key v w ne c d =
        let na = is_node ys a (Write key v) c in
        let nb = is_node ys b (Write key w) d in
        elim (o.writers l (number_at k.nodes a) (number_at k.nodes b) key v w (λ e. ne (one a b na.0 na.1 nb.0 nb.1 e)) (was_in (of a na.0 na.1).ops (Write key v) c) (was_in (of b nb.0 nb.1).ops (Write key w) d)) [
          | inl before ↦ inl (stand (commit a) (snapshot b) (at_commit a na.0 na.1) (at_snapshot b nb.0 nb.1) before)
          | inr before ↦ inr (stand (commit b) (snapshot a) (at_commit b nb.0 nb.1) (at_snapshot a na.0 na.1) before)
        ]

    -- a write of the node that a read of the part's node names is one of the part's node
    own_sources : (v : ℕ) → 0 < v → v ≤ length (committed_in ys) → KeepsSources (ops_of xs (number_at k.nodes v)) (ops_of ys v)
    own_sources v lo hi key wid c d =
        let stays = k.sources key wid (of_number ys k.to v (Read key wid) c) (of_number xs k.from (number_at k.nodes v) (Write key wid) d) in
        let n = at_node ys k.to (Write key wid) stays in
        let b = is_node ys n.node (Write key wid) n.does in
        let same = one_node xs k.writes (number_at k.nodes n.node) (number_at k.nodes v) wid (Has-written (ops_of xs (number_at k.nodes n.node)) key wid (was_in (of n.node b.0 b.1).ops (Write key wid) n.does)) (Has-written (ops_of xs (number_at k.nodes v)) key wid d) in
        subst (λ u. Contains (ops_of ys u) (Write key wid)) (one n.node v b.0 b.1 lo hi same) n.does

    thinned_node : (v : ℕ) → 0 < v → v ≤ length (committed_in ys) → IsSublist (snapshot_reads (ops_of xs (number_at k.nodes v))) (snapshot_reads (ops_of ys v)) × IsSublist (rest (ops_of xs (number_at k.nodes v))) (rest (ops_of ys v))
    thinned_node v lo hi =
        let u = kept.to v lo hi in
        let in_whole = within (length (committed_in xs)) (commit (number_at k.nodes v)) (record { lo = u.1; hi = u.2 }) in
        let met = met_at xs points (number_at k.nodes v) u.1 (stands (length (committed_in xs)) points o.once (commit (number_at k.nodes v)) in_whole.0 in_whole.1) initial o.reads in
        fewer_in_halves (of v lo hi).ops (apart_node xs k.writes (number_at k.nodes v)) (own_sources v lo hi) met.0 met.1

    thinned : (p : Point) → IsOf (length (committed_in ys)) p → IsSublist (ops_at xs (placed (number_at k.nodes) p)) (ops_at ys p)
    thinned (snapshot v) h = (thinned_node v h.lo h.hi).0
    thinned (commit v) h = (thinned_node v h.lo h.hi).1

    sources : KeepsSources (flat_map (ops_at xs) points) (flat_map (ops_at ys) (left_of (number_back k.nodes) points))
    sources key wid c d =
        at_points ys k.to (left_of (number_back k.nodes) points) once (Write key wid)
        (k.sources key wid (point_ops ys k.to (left_of (number_back k.nodes) points) (Read key wid) c) (point_ops xs k.from points (Write key wid) d))
