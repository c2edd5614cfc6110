-- Edges and ways hold in each order of points.
use Rattle.std.proofs.Common.{◌≡◌, ℕ, ◌<◌, ◌≤◌, true, false, ◌&&◌, cond, List, [], ◌∷◌, length, eqb-true, Option, Some, None, sym, ap, ◌∙◌, subst, inl, inr, arith}
use Rattle.std.specs.Prelude.{slice_get, option_and_then}
use Rattle.std.specs.{List.AllByRecursion, List.Contains, Option.option_map_or}
use Rattle.std.proofs.lemmas.{Bool.and_parts, Bool.false≢true, Bool.ltb-true, Option.same_Some}
use Rattle.list_lemmas.proofs.Elements.{contains_at, same_item}
use Rattle.session_log.specs.{Moments.is_earlier, Text.ClientSession, Text.Transaction}
use Rattle.session_log.specs.declared.session.Op.TheVariants.{Write}
use Rattle.log_definitions.specs.Serial.{Committed, committed_in, ops_of, begun_of, ended_of}
use Rattle.log_definitions.proofs.Members.{member}
use Rattle.point_laws.specs.Snapshot.{Point, snapshot, commit, StandsBefore}
use Rattle.point_laws.proofs.{Intervals.place, Orders.before_place, Orders.lo_snapshot, Orders.lo_commit}
use Rattle.level_laws.specs.Seen.{WritesKey}
use Rattle.level_refutations.specs.declared.evidence.{TxnAt.TxnAt, OpAt.OpAt}
use Rattle.level_refutations.specs.declared.evidence.Step.TheVariants as hop_step
use Rattle.level_refutations.specs.Places.{txn_at, is_same, is_of_initial}
use Rattle.level_refutations.specs.{Edges.op_of, Laws.Stands}
use Rattle.level_refutations.proofs.Standing.{standing, session_is, one_node, in_session, within}
use Rattle.level_refutations.proofs.{Steps.same_at, Steps.ends_of_step, Sights.External, Sights.external_at}
use Rattle.point_refutations.specs.declared.refutation.PointAt.TheVariants.{Snapshot, Commit}
use Rattle.point_refutations.specs.declared.refutation.Since.TheVariants as since
use Rattle.point_refutations.specs.declared.refutation.Why.TheVariants as why
use Rattle.point_refutations.specs.declared.refutation.Step.TheVariants.{Shown, Forced, Later}
use Rattle.point_refutations.specs.declared.refutation.{PointAt.PointAt, Since.Since, Why.Why, Edge.Edge, Step.Step}
use Rattle.point_refutations.specs.Edges.{first_of, second_of, says_snapshot, is_order, is_later, is_by_step, is_found, is_since, is_why, is_edge, is_missed, ends_in_commit, edge_from, edge_to, txn_of, leads_on, is_way}
use Rattle.point_refutations.proofs.Found.{Given, begins, finds, writes_zero, finds_write, some_where, There, there, reader, writer, writer_of_key, same_reads}

-- ---- points of places
abbrev pub point_of : PointAt → ℕ → Point
point_of (Snapshot a) v = snapshot v
point_of (Commit a) v = commit v

-- the one stands before the other
pub record Comes (ss : List ClientSession) (g : Given ss) (p q : PointAt) : Type 0 where
  pub one : ℕ
  pub other : ℕ
  pub at_one : Stands ss (txn_of p) one
  pub at_other : Stands ss (txn_of q) other
  pub before : place g.points (point_of p one) < place g.points (point_of q other)

pub between : (ss : List ClientSession) (g : Given ss) (p q : PointAt) (u v : ℕ) → Comes ss g p q → Stands ss (txn_of p) u → Stands ss (txn_of q) v → place g.points (point_of p u) < place g.points (point_of q v)
between ss g p q u v c s r =
    subst (λ x. place g.points (point_of p x) < place g.points (point_of q v)) (one_node ss (txn_of p) c.one u g.sound g.learnt c.at_one s)
    (subst (λ y. place g.points (point_of p c.one) < place g.points (point_of q y)) (one_node ss (txn_of q) c.other v g.sound g.learnt c.at_other r) c.before)

-- a step: the one commits before the other takes its snapshot, or commits
abbrev later_point : Step → PointAt
later_point s = cond (says_snapshot s) (Snapshot (second_of s)) (Commit (second_of s))

abbrev pub StepComes : (ss : List ClientSession) → Given ss → Step → Type 0
StepComes ss g s = Comes ss g (Commit (first_of s)) (later_point s)

-- who takes his snapshot later commits later
to_commit : (ss : List ClientSession) (g : Given ss) (from to : TxnAt) → Comes ss g (Commit from) (Snapshot to) → Comes ss g (Commit from) (Commit to)
to_commit ss g from to c =
    let own = begins ss g c.other (within ss to c.other c.at_other) in
    record { one = c.one; other = c.other; at_one = c.at_one; at_other = c.at_other; before = (let first = c.before in omega (arith, first, own)) }

step_to_commit : (ss : List ClientSession) (g : Given ss) (s : Step) → StepComes ss g s → Comes ss g (Commit (first_of s)) (Commit (second_of s))
step_to_commit ss g (Shown first second edges) c = to_commit ss g first second c
step_to_commit ss g (Forced both against) c = to_commit ss g both.one.txn both.other.txn c
step_to_commit ss g (Later both against) c = c

-- ---- edges
-- from the commit of one node to the snapshot of another
commits_first : (ss : List ClientSession) (g : Given ss) (from to : TxnAt) (u v : ℕ) → Stands ss from u → Stands ss to v → StandsBefore g.points (commit u) (snapshot v) → Comes ss g (Commit from) (Snapshot to)
commits_first ss g from to u v s r before = record {
  one = u;
  other = v;
  at_one = s;
  at_other = r;
  before = before_place g.points (commit u) (snapshot v) (lo_commit u (within ss from u s).0) (lo_snapshot v (within ss to v r).0) before;
}

-- who goes on from a point is at one that does not stand before it
lead : (ss : List ClientSession) (g : Given ss) (p q : PointAt) (v : ℕ) → (0 < v) × (v ≤ length (committed_in ss)) → leads_on p q ≡ true → (txn_of p ≡ txn_of q) × (place g.points (point_of p v) ≤ place g.points (point_of q v))
lead ss g (Snapshot a) (Snapshot b) v is t = (same_at a b t, omega arith)
lead ss g (Snapshot a) (Commit b) v is t = let own = begins ss g v is in (same_at a b t, omega (arith, own))
lead ss g (Commit a) (Snapshot b) v is t = absurd (false≢true t)
lead ss g (Commit a) (Commit b) v is t = (same_at a b t, omega arith)

-- the way from node u leads to this one
record Leads (ss : List ClientSession) (g : Given ss) (from to : PointAt) (u : ℕ) : Type 0 where
  pub node : ℕ
  pub stands : Stands ss (txn_of to) node
  pub before : place g.points (point_of from u) ≤ place g.points (point_of to node)

module _ (ss : List ClientSession) (g : Given ss) (steps : List Step) (known : AllByRecursion (StepComes ss g) steps) where
  by_later : (k : ℕ) (from to : TxnAt) → is_later steps k from to ≡ true → Comes ss g (Commit from) (Commit to)
  by_later k from to t =
      let m = some_where (is_order from to) (slice_get steps k) t in
      let s = m.0 in
      let p = and_parts _ _ m.2 in
      let c = step_to_commit ss g s (member (StepComes ss g) steps s known (contains_at steps k s m.1)) in
      subst (λ a. Comes ss g (Commit a) (Commit to)) (same_at (first_of s) from p.0)
      (subst (λ b. Comes ss g (Commit (first_of s)) (Commit b)) (same_at (second_of s) to p.1) c)

  by_step : (k : ℕ) (from to : TxnAt) → is_by_step steps k from to ≡ true → Comes ss g (Commit from) (Snapshot to)
  by_step k from to t =
      let m = some_where (λ s. is_order from to s && says_snapshot s) (slice_get steps k) t in
      let s = m.0 in
      let both = and_parts (is_order from to s) (says_snapshot s) m.2 in
      let p = and_parts (is_same (first_of s) from) (is_same (second_of s) to) both.0 in
      let c = subst (λ b. Comes ss g (Commit (first_of s)) (cond b (Snapshot (second_of s)) (Commit (second_of s)))) both.1 (member (StepComes ss g) steps s known (contains_at steps k s m.1)) in
      subst (λ a. Comes ss g (Commit a) (Snapshot to)) (same_at (first_of s) from p.0)
      (subst (λ b. Comes ss g (Commit (first_of s)) (Snapshot b)) (same_at (second_of s) to p.1) c)

  -- what the read of node v finds is older than what node b writes
  older : (read : OpAt) (to : TxnAt) (v b : ℕ) (e : External ss read v) → Stands ss read.txn v → Stands ss to b → WritesKey ss b e.key → (found : Option OpAt) → is_found ss read found ≡ true → (reason : Since) → is_since ss steps read found to reason ≡ true → place g.points (snapshot v) < place g.points (commit b)
  older read to v b e s r w found is (since.ReadToo i) t =
      let p = and_parts _ _ t in
      let f = external_at ss (op_of to i) b p.0 r in
      let same = same_reads ss read (op_of to i) v b e f p.1 in
      let own = begins ss g b (within ss to b r) in
      elim (finds ss g read v e s) [
        | inl zero ↦ zero.1 b w
        | inr (u, is_u) ↦
            let wrote = subst (λ l. Contains (ops_of ss u) (Write l f.wid)) same.0 (subst (λ x. Contains (ops_of ss u) (Write e.key x)) same.1 is_u.writes) in
            let before = (finds_write ss g (op_of to i) b f r u wrote).before in
            is_u.last b w (omega (arith, before, own))
      ]
  older read to v b e s r w None is since.Initial t = elim (finds ss g read v e s) [
    | inl zero ↦ zero.1 b w
    | inr (u, is_u) ↦ absurd (writes_zero ss g.sound u e.key (subst (λ x. Contains (ops_of ss u) (Write e.key x)) (eqb-true e.wid 0 (ap (λ o. option_map_or is_of_initial o false) (sym e.stands) ∙ is)) is_u.writes))
  ]
  older read to v b e s r w (Some f) is since.Initial t = absurd (false≢true t)
  older read to v b e s r w None is (since.Step k) t = absurd (false≢true t)
  older read to v b e s r w (Some f) is (since.Step k) t =
      let u = writer ss f read v e g.learnt is in
      let before = between ss g (Commit f.txn) (Commit to) u.node b (by_later k f.txn to t) u.stands r in
      (finds_write ss g read v e s u.node u.wrote).last b w before

  why_comes : (from to : TxnAt) (reason : Why) → is_why ss steps from to reason ≡ true → Comes ss g (cond (is_missed reason) (Snapshot from) (Commit from)) (cond (ends_in_commit reason) (Commit to) (Snapshot to))
  why_comes from to why.Session t =
      let ends = ends_of_step ss from to hop_step.Session g.learnt t in
      let u = ends.0 in
      let v = ends.1 in
      let p = and_parts _ _ t in
      let q = and_parts _ _ p.1 in
      let index = eqb-true from.session to.session p.0 in
      let same = same_item ss to.session u.1.session v.1.session (ap (slice_get ss) (sym index) ∙ u.1.picked) v.1.picked in
      let less = in_session ss from to u.0 v.0 g.sound g.learnt u.1 v.1 index (ltb-true from.txn to.txn q.0) in
      let number = session_is ss from u.0 u.1 ∙ ap (λ (x : ClientSession). x.number) same ∙ sym (session_is ss to v.0 v.1) in
      commits_first ss g from to u.0 v.0 u.1 v.1 (g.is.sessions u.0 v.0 (within ss from u.0 u.1).0 less (within ss to v.0 v.1).1 number)
  why_comes from to why.Moments t =
      let m : There (λ (one other : Transaction). is_earlier one.ended other.begun) (txn_at ss from) (txn_at ss to) = there (λ (one other : Transaction). is_earlier one.ended other.begun) (txn_at ss from) (txn_at ss to) t in
      let u = standing ss from m.one g.learnt m.first in
      let v = standing ss to m.other g.learnt m.second in
      let ended : ended_of ss u.0 ≡ m.one.ended = ap (option_and_then (λ (c : Committed). c.ended)) u.1.node ∙ ap (λ (x : Transaction). x.ended) (same_Some u.1.txn m.one (sym u.1.found ∙ m.first)) in
      let begun : begun_of ss v.0 ≡ m.other.begun = ap (option_and_then (λ (c : Committed). c.begun)) v.1.node ∙ ap (λ (x : Transaction). x.begun) (same_Some v.1.txn m.other (sym v.1.found ∙ m.second)) in
      let is_u = within ss from u.0 u.1 in
      let is_v = within ss to v.0 v.1 in
      commits_first ss g from to u.0 v.0 u.1 v.1
      (g.is.moments u.0 v.0 is_u.0 is_u.1 is_v.0 is_v.1 (ap (λ o. is_earlier o (begun_of ss v.0)) ended ∙ ap (is_earlier m.one.ended) begun ∙ m.so))
  why_comes from to (why.Read write read) t =
      let p = and_parts _ _ t in
      let r = reader ss (op_of to read) g.learnt p.0 in
      let w = writer ss (op_of from write) (op_of to read) r.node r.read g.learnt p.1 in
      record { one = w.node; other = r.node; at_one = w.stands; at_other = r.stands; before = (finds_write ss g (op_of to read) r.node r.read r.stands w.node w.wrote).before }
  why_comes from to (why.Step k) t = by_step k from to t
  why_comes from to (why.Later k) t = by_later k from to t
  why_comes from to (why.Missed m) t =
      let read = op_of from m.read in
      let p = and_parts _ _ (and_parts _ _ t).1 in
      let q = and_parts _ _ p.1 in
      let k = and_parts _ _ q.1 in
      let r = reader ss read g.learnt p.0 in
      let w = writer_of_key ss (op_of to m.write) read r.node r.read g.learnt k.0 in
      record {
        one = r.node;
        other = w.1.node;
        at_one = r.stands;
        at_other = w.1.stands;
        before = older read to r.node w.1.node r.read r.stands w.1.stands (w.0, w.1.wrote) m.found q.0 m.since k.1;
      }

  edge_comes : (e : Edge) → is_edge ss steps e ≡ true → Comes ss g (edge_from e) (edge_to e)
  edge_comes e t = why_comes e.from e.to e.why t

  way_on : (from : PointAt) (edges : List Edge) (to : PointAt) (u : ℕ) → Stands ss (txn_of from) u → is_way ss steps from edges to ≡ true → Leads ss g from to u
  way_on from [] to u s t =
      let l = lead ss g from to u (within ss (txn_of from) u s) t in
      record { node = u; stands = subst (λ at. Stands ss at u) l.0 s; before = l.1 }
  way_on from (e ∷ edges) to u s t =
      let p = and_parts _ _ t in
      let q = and_parts _ _ p.0 in
      let first = lead ss g from (edge_from e) u (within ss (txn_of from) u s) q.0 in
      let c = edge_comes e q.1 in
      let less = between ss g (edge_from e) (edge_to e) u c.other c (subst (λ at. Stands ss at u) first.0 s) c.at_other in
      let rest = way_on (edge_to e) edges to c.other c.at_other p.1 in
      record { node = rest.node; stands = rest.stands; before = omega (arith, first.1, less, rest.before) }

  pub way_leads : (from : PointAt) (edges : List Edge) (to : PointAt) (u v : ℕ) → Stands ss (txn_of from) u → Stands ss (txn_of to) v → is_way ss steps from edges to ≡ true → place g.points (point_of from u) ≤ place g.points (point_of to v)
  way_leads from edges to u v s r t =
      let l = way_on from edges to u s t in
      subst (λ x. place g.points (point_of from u) ≤ place g.points (point_of to x)) (one_node ss (txn_of to) l.node v g.sound g.learnt l.stands r) l.before

  -- one of some edges
  pub way_comes : (from : PointAt) (e : Edge) (edges : List Edge) (to : PointAt) → is_way ss steps from (e ∷ edges) to ≡ true → Comes ss g from to
  way_comes from e edges to t =
      let p = and_parts _ _ t in
      let q = and_parts _ _ p.0 in
      let c = edge_comes e q.1 in
      let first = lead ss g from (edge_from e) c.one (within ss (txn_of (edge_from e)) c.one c.at_one) q.0 in
      let mid = c.before in
      let rest = way_on (edge_to e) edges to c.other c.at_other p.1 in
      record { one = c.one; other = rest.node; at_one = subst (λ at. Stands ss at c.one) (sym first.0) c.at_one; at_other = rest.stands; before = omega (arith, first.1, mid, rest.before) }
