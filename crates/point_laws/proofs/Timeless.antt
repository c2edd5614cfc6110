-- Leaving out the moments loses no snapshot order.
use Rattle.point_laws.proofs.Prelude.{◌≡◌, ℕ, zero, suc, ◌+◌, ◌*◌, ◌≤◌, List, [], ◌∷◌, ◌++◌, length, map, Option, Some, None, refl, sym, ap, ◌∙◌, subst, inl, inr, true, false, Bool, option_and_then, flat_map, Contains, option_map}
use Rattle.point_laws.proofs.Prelude.{option_map_or, cases_Bool, false≢true, length-map, map-append, slice_get-map, is_earlier, ClientSession, Transaction, Write, ListsOnce, is_committed, resolved, Committed, committed_of, committed_in}
use Rattle.point_laws.proofs.Prelude.{node_in, initial, Replays, nodes_from, nodes_of, Point, snapshot, commit, number, snapshot_reads, rest, without, without_moments, PointsWithoutMoments, SnapshotWithoutMoments, PrefixWithoutMoments}
use Rattle.point_laws.proofs.Apart.{same_flat}
use Rattle.point_laws.proofs.Nodes.{session_kept, ops_kept}
use Rattle.point_laws.proofs.Resolved.{Snapshots, ops_at, point_ops, to_nodes, from_nodes}
use Rattle.point_laws.proofs.Without.{resolved_without}

-- ---- its nodes
abbrev pub node_without : Committed → Committed
node_without c = record { session = c.session; place = c.place; ops = c.ops; begun = None; ended = None }

pub from_without : (number n : ℕ) (ts : List Transaction) → nodes_from number n (map without ts) ≡ map node_without (nodes_from number n ts)
from_without number n [] = refl
from_without number n (t ∷ ts) = elim (cases_Bool (is_committed t)) [
  | inl e ↦ rw e (ap (λ l. record { session = number; place = n; ops = t.ops; begun = None; ended = None } ∷ l) (from_without number (n + 1) ts))
  | inr e ↦ rw e (from_without number (n + 1) ts)
]

pub nodes_without : (ss : List ClientSession) → nodes_of (without_moments ss) ≡ map node_without (nodes_of ss)
nodes_without [] = refl
nodes_without (s ∷ ss) =
    ap (λ l. l ++ nodes_of (without_moments ss)) (from_without s.number 1 s.txns)
    ∙ ap (λ l. map node_without (committed_of s) ++ l) (nodes_without ss)
    ∙ sym (map-append node_without (committed_of s) (nodes_of ss))

pub committed_without : (ss : List ClientSession) → committed_in (without_moments ss) ≡ map node_without (committed_in ss)
unfolding committed_in
committed_without ss = ap (flat_map committed_of) (resolved_without ss) ∙ nodes_without (resolved ss)

pub node_at : (nodes : List Committed) (v : ℕ) → node_in (map node_without nodes) v ≡ option_map node_without (node_in nodes v)
node_at nodes zero = refl
node_at nodes (suc i) = slice_get-map node_without nodes i

-- ---- the law
timeless : {locked : Bool} (nodes : List Committed) (points : List Point) → Snapshots locked nodes points → Snapshots locked (map node_without nodes) points
timeless nodes points h = record {
  once = subst (λ n. ListsOnce (2 * n) (map number points)) (sym count) h.once;
  begins = λ v lo hi. h.begins v lo (subst (λ n. v ≤ n) count hi);
  sessions = λ a b lo lt hi e. h.sessions a b lo lt (subst (λ n. b ≤ n) count hi) (sym (session a) ∙ e ∙ session b);
  moments = λ a b lo hi lo_b hi_b e. absurd (false≢true (ap (λ o. is_earlier o (option_and_then (λ (c : Committed). c.begun) (node_in (map node_without nodes) b))) (sym (ended a)) ∙ e));
  writers = λ l a b key v w ne c d. h.writers l a b key v w ne (subst (λ l. Contains l (Write key v)) (ops a) c) (subst (λ l. Contains l (Write key w)) (ops b) d);
  reads = subst (Replays initial) (sym (same_flat (point_ops (map node_without nodes)) (point_ops nodes) points at)) h.reads;
}
  where
    count : length (map node_without nodes) ≡ length nodes
    count = length-map nodes node_without

    session : (v : ℕ) → option_map_or (λ (c : Committed). c.session) (node_in (map node_without nodes) v) 0 ≡ option_map_or (λ (c : Committed). c.session) (node_in nodes v) 0
    session v = ap (λ o. option_map_or (λ (c : Committed). c.session) o 0) (node_at nodes v) ∙ session_kept node_without (λ c. refl) (node_in nodes v)

    ended : (v : ℕ) → option_and_then (λ (c : Committed). c.ended) (node_in (map node_without nodes) v) ≡ None
    ended v = ap (option_and_then (λ (c : Committed). c.ended)) (node_at nodes v) ∙ none (node_in nodes v)
      where
        none : (o : Option Committed) → option_and_then (λ (c : Committed). c.ended) (option_map node_without o) ≡ None
        none None = refl
        none (Some c) = refl

    ops : (v : ℕ) → ops_at (map node_without nodes) v ≡ ops_at nodes v
    ops v = ap (λ o. option_map_or (λ (c : Committed). c.ops) o []) (node_at nodes v) ∙ ops_kept node_without (λ l. l) refl (λ c. refl) (node_in nodes v)

    at : (p : Point) → point_ops (map node_without nodes) p ≡ point_ops nodes p
    at (snapshot v) = ap snapshot_reads (ops v)
    at (commit v) = ap rest (ops v)

pub points_without_moments : (locked : Bool) → PointsWithoutMoments locked
points_without_moments locked ss (points, h) =
    (points, from_nodes (without_moments ss) points (subst (λ nodes. Snapshots locked nodes points) (sym (committed_without ss)) (timeless (committed_in ss) points (to_nodes ss points h))))

pub snapshot_without_moments : SnapshotWithoutMoments
snapshot_without_moments = points_without_moments true

pub prefix_without_moments : PrefixWithoutMoments
prefix_without_moments = points_without_moments false
