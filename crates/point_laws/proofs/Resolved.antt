-- Where outcomes are unknown, the log is split once it is resolved.
use Rattle.point_laws.proofs.Prelude.{◌≡◌, ◌≢◌, ◌⊎◌, ℕ, ◌*◌, ◌<◌, ◌≤◌, Bool, true, false, List, [], ◌∷◌, ◌++◌, length, map, refl, sym, ap, ◌∙◌, subst, ◌↔◌, nat_eq, option_and_then, flat_map, AllByRecursion, Contains, IsDistinct}
use Rattle.point_laws.proofs.Prelude.{option_map_or, is_earlier, ClientSession, Transaction, key_of, Op, Write, Unknown, ListsOnce, each_of_flat_map, settle, settled, taken, resolved, ops_in, written, Committed, committed_of, committed_in}
use Rattle.point_laws.proofs.Prelude.{node_in, node_of, initial, Replays, each_weaker, each_member, each_from_settled, numbers_settled, ops_settled, settled_resolved, outcome_learnt, resolved_is, IsSoundLog, IsLearntLog, HasOrder, Point}
use Rattle.point_laws.proofs.Prelude.{snapshot, commit, number, StandsBefore, snapshot_reads, rest, ops_at as point_ops_of, IsPointOrder, HasPointOrder, Locks, HasKey, HasWritten, AreFresh, SnapshotOfResolved}
use Rattle.point_laws.proofs.Parted.{by_test, Test, IsTest}
use Rattle.point_laws.proofs.Orders.{every_test, by_splitting}

-- ---- settled sessions are sound, and the same locks are fresh
pub settled_sound : (chosen : ℕ → Bool) (ss : List ClientSession) → IsSoundLog ss → IsSoundLog (settled chosen ss)
settled_sound chosen ss sound = record {
  sessions = subst (IsDistinct nat_eq) (sym (numbers_settled chosen ss)) sound.sessions;
  writes = subst (λ ops. IsDistinct nat_eq (0 ∷ written ops)) (sym (ops_settled chosen ss)) sound.writes;
  ordered = each_from_settled IsOrdered chosen ss (each_weaker (λ (s : ClientSession). AllByRecursion IsOrdered s.txns) (λ (s : ClientSession). AllByRecursion (λ t. IsOrdered (settle (chosen s.number) t)) s.txns) (λ s h. each_weaker IsOrdered (λ t. IsOrdered (settle (chosen s.number) t)) (λ t k. k) s.txns h) ss (each_of_flat_map IsOrdered (λ (s : ClientSession). s.txns) ss sound.ordered));
}
  where
    IsOrdered : Transaction → Type 0
    IsOrdered t = is_earlier t.ended t.begun ≡ false

pub same_fresh : (locks : Locks) (ss other : List ClientSession) → ops_in other ≡ ops_in ss → AreFresh locks ss → AreFresh locks other
same_fresh locks ss other e fresh = record {
  new_key = λ a b h k. fresh.new_key a b (key a h) (key b k);
  one_key = λ a b h k. fresh.one_key a b (key a h) (key b k);
  new_identity = λ v w h k. fresh.new_identity v w (wid v h) (wid w k);
  one_identity = λ v w h k. fresh.one_identity v w (wid v h) (wid w k);
}
  where
    key : (a : List ℕ) → HasKey other a → HasKey ss a
    key a h = subst (λ ops. Contains (map key_of ops) a) e h

    wid : (v : ℕ) → HasWritten other v → HasWritten ss v
    wid v h = subst (λ ops. Contains (written ops) v) e h

-- ---- a snapshot order of a list of nodes
abbrev pub ops_at : List Committed → ℕ → List Op
ops_at nodes v = option_map_or (λ (c : Committed). c.ops) (node_in nodes v) []

abbrev pub point_ops : List Committed → Point → List Op
point_ops nodes (snapshot v) = snapshot_reads (ops_at nodes v)
point_ops nodes (commit v) = rest (ops_at nodes v)

pub record Snapshots (locked : Bool) (nodes : List Committed) (points : List Point) : Type 0 where
  pub once : ListsOnce (2 * length nodes) (map number points)
  pub begins : (v : ℕ) → 0 < v → v ≤ length nodes → StandsBefore points (snapshot v) (commit v)
  pub sessions : (a b : ℕ) → 0 < a → a < b → b ≤ length nodes → option_map_or (λ (c : Committed). c.session) (node_in nodes a) 0 ≡ option_map_or (λ (c : Committed). c.session) (node_in nodes b) 0 → StandsBefore points (commit a) (snapshot b)
  pub moments : (a b : ℕ) → 0 < a → a ≤ length nodes → 0 < b → b ≤ length nodes → is_earlier (option_and_then (λ (c : Committed). c.ended) (node_in nodes a)) (option_and_then (λ (c : Committed). c.begun) (node_in nodes b)) ≡ true → StandsBefore points (commit a) (snapshot b)
  pub writers : locked ≡ true → (a b : ℕ) (key : List ℕ) (v w : ℕ) → a ≢ b → Contains (ops_at nodes a) (Write key v) → Contains (ops_at nodes b) (Write key w) → StandsBefore points (commit a) (snapshot b) ⊎ StandsBefore points (commit b) (snapshot a)
  pub reads : Replays initial (flat_map (point_ops nodes) points)

ops_same : (ss : List ClientSession) (points : List Point) → flat_map (point_ops_of ss) points ≡ flat_map (point_ops (committed_in ss)) points
unfolding node_of
ops_same ss [] = refl
ops_same ss (snapshot v ∷ points) = ap (λ l. snapshot_reads (ops_at (committed_in ss) v) ++ l) (ops_same ss points)
ops_same ss (commit v ∷ points) = ap (λ l. rest (ops_at (committed_in ss) v) ++ l) (ops_same ss points)

pub to_nodes : {locked : Bool} (ss : List ClientSession) (points : List Point) → IsPointOrder locked ss points → Snapshots locked (committed_in ss) points
unfolding node_of
to_nodes ss points h = record { once = h.once; begins = h.begins; sessions = h.sessions; moments = h.moments; writers = h.writers; reads = subst (Replays initial) (ops_same ss points) h.reads }

pub from_nodes : {locked : Bool} (ss : List ClientSession) (points : List Point) → Snapshots locked (committed_in ss) points → IsPointOrder locked ss points
unfolding node_of
from_nodes ss points h = record { once = h.once; begins = h.begins; sessions = h.sessions; moments = h.moments; writers = h.writers; reads = subst (Replays initial) (sym (ops_same ss points)) h.reads }

pub of_same_nodes : {locked : Bool} (one two : List ClientSession) → committed_in one ≡ committed_in two → HasPointOrder locked one → HasPointOrder locked two
of_same_nodes {locked = locked} one two e (points, h) = (points, from_nodes two points (subst (λ nodes. Snapshots locked nodes points) e (to_nodes one points h)))

pub resolved_nodes : (ss : List ClientSession) → committed_in (settled (taken ss) ss) ≡ committed_in ss
unfolding committed_in
resolved_nodes ss = ap (flat_map committed_of) (settled_resolved (taken ss) ss ∙ sym (resolved_is ss))

pub settled_learnt : (chosen : ℕ → Bool) (ss : List ClientSession) → IsLearntLog (settled chosen ss)
settled_learnt chosen ss = each_from_settled (λ t. t.outcome ≢ Unknown) chosen ss (each_member (λ (s : ClientSession). AllByRecursion (λ t. (settle (chosen s.number) t).outcome ≢ Unknown) s.txns) ss (λ s c. each_member (λ t. (settle (chosen s.number) t).outcome ≢ Unknown) s.txns (λ t d. outcome_learnt (chosen s.number) t.outcome)))

-- ---- the law
pub of_resolved : {p : Transaction → Bool} {q : Test} → IsTest p q → (ss : List ClientSession) (locks : Locks) → IsSoundLog ss → AreFresh locks ss → (HasPointOrder locks.taken ss ↔ HasOrder (by_test p locks (resolved ss)))
of_resolved {p} test ss locks sound fresh =
    let other = settled (taken ss) ss in
    let both = by_splitting test other locks (settled_sound (taken ss) ss sound) (settled_learnt (taken ss) ss) (same_fresh locks ss other (ops_settled (taken ss) ss) fresh) in (
      (λ h. subst (λ xs. HasOrder (by_test p locks xs)) (sym (resolved_is ss)) (both.0 (of_same_nodes ss other (sym (resolved_nodes ss)) h))),
      (λ h. of_same_nodes other ss (resolved_nodes ss) (both.1 (subst (λ xs. HasOrder (by_test p locks xs)) (resolved_is ss) h))),
    )

pub snapshot_of_resolved : SnapshotOfResolved
snapshot_of_resolved = of_resolved every_test
