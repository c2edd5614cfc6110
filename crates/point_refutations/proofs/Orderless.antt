-- Where a refutation is right, the points have no order.
use Rattle.std.proofs.Common.{◌≡◌, ◌≢◌, ◌⊎◌, ℕ, ◌<◌, ◌≤◌, Bool, true, false, not, ◌==◌, ◌&&◌, List, [], ◌∷◌, ◌++◌, length, Option, Some, None, sym, ap, ◌∙◌, subst, inl, inr, arith, append_assoc, append-nil}
use Rattle.std.specs.List.{AllByRecursion, Contains}
use Rattle.std.proofs.lemmas.{Bool.and_parts, Bool.false≢true, Bool.not-true, Slice.Eq.bytes_eq-Decides}
use Rattle.session_log.specs.Text.{ClientSession}
use Rattle.session_log.specs.declared.session.{Op.Op, Op.TheVariants.Read, Op.TheVariants.Write}
use Rattle.serializability.proofs.Places.{each_from_append}
use Rattle.log_definitions.specs.Serial.{ops_of}
use Rattle.log_laws.specs.Logs.{IsSoundLog, IsLearntLog}
use Rattle.point_laws.specs.Snapshot.{snapshot, commit, HasPointOrder}
use Rattle.point_laws.proofs.{Intervals.place, Nodes.is_node, Orders.before_place, Orders.lo_snapshot, Orders.lo_commit}
use Rattle.level_laws.specs.Seen.{WritesKey}
use Rattle.level_refutations.specs.declared.evidence.TxnAt.{TxnAt}
use Rattle.level_refutations.specs.{Places.op_at, Places.is_same, Laws.Stands}
use Rattle.level_refutations.proofs.{Standing.one_node, Standing.within, Steps.same_at, Steps.nodes_apart, Steps.has_op, Steps.node_of_op}
use Rattle.point_refutations.specs.declared.refutation.PointAt.TheVariants.{Snapshot, Commit}
use Rattle.point_refutations.specs.declared.refutation.Step.TheVariants.{Shown, Forced, Later}
use Rattle.point_refutations.specs.declared.refutation.Ending.TheVariants.{Circle, Neither}
use Rattle.point_refutations.specs.declared.refutation.{PointAt.PointAt, Both.Both, Overwritten.Overwritten, Edge.Edge, Step.Step, Ending.Ending, Refutation.Refutation}
use Rattle.point_refutations.specs.Edges.{edge_from, txn_of, is_way, is_simple, is_simple_way}
use Rattle.point_refutations.specs.Refuted.{writes_same, is_both, is_overwritten, is_against_by, is_step, are_steps, is_circle, is_ending, is_refuted}
use Rattle.point_refutations.proofs.Found.{Given, begins, one_commits, finds_write, there, reader, writer, writer_of_key}
use Rattle.point_refutations.proofs.Ways.{point_of, Comes, between, StepComes, way_comes, way_leads}

-- ---- two that write one key
record Twice (ss : List ClientSession) (both : Both) : Type 0 where
  pub key : List ℕ
  pub one : ℕ
  pub other : ℕ
  pub at_one : Stands ss both.one.txn one
  pub at_other : Stands ss both.other.txn other
  pub apart : one ≢ other
  pub writes_one : WritesKey ss one key
  pub writes_other : WritesKey ss other key

twice : (ss : List ClientSession) (both : Both) → IsSoundLog ss → IsLearntLog ss → is_both ss both ≡ true → Twice ss both
twice ss both sound learnt t =
    let p = and_parts (not (is_same both.one.txn both.other.txn)) _ t in
    let w = there writes_same (op_at ss both.one) (op_at ss both.other) p.1 in
    go (not-true (is_same both.one.txn both.other.txn) p.0) w.one w.other w.first w.second w.so
  where
    go : is_same both.one.txn both.other.txn ≡ false → (x y : Op) → op_at ss both.one ≡ Some x → op_at ss both.other ≡ Some y → writes_same x y ≡ true → Twice ss both
    go d (Read key wid) y e f same = absurd (false≢true same)
    go d (Write key wid) (Read k w) e f same = absurd (false≢true same)
    go d (Write key wid) (Write k w) e f same =
        let u = node_of_op ss both.one (Write key wid) learnt e in
        let v = node_of_op ss both.other (Write k w) learnt f in
        let keys = (bytes_eq-Decides key k).0 same in
        record {
          key = key;
          one = u.0;
          other = v.0;
          at_one = u.1;
          at_other = v.1;
          apart = nodes_apart ss both.one.txn both.other.txn u.0 v.0 sound u.1 v.1 d;
          writes_one = (wid, has_op ss both.one (Write key wid) u.0 u.1 e);
          writes_other = (w, has_op ss both.other (Write key w) v.0 v.1 (f ∙ ap (λ l. Some (Write l w)) (sym keys)));
        }

-- where keys are locked, the one commits before the other takes its snapshot
one_first : (ss : List ClientSession) (g : Given ss) (both : Both) → g.locked ≡ true → (b : Twice ss both) → (place g.points (commit b.one) < place g.points (snapshot b.other)) ⊎ (place g.points (commit b.other) < place g.points (snapshot b.one))
one_first ss g both locked b =
    let u = (is_node ss b.one (Write b.key b.writes_one.0) b.writes_one.1).0 in
    let v = (is_node ss b.other (Write b.key b.writes_other.0) b.writes_other.1).0 in
    elim (g.is.writers locked b.one b.other b.key b.writes_one.0 b.writes_other.0 b.apart b.writes_one.1 b.writes_other.1) [
      | inl first ↦ inl (before_place g.points (commit b.one) (snapshot b.other) (lo_commit b.one u) (lo_snapshot b.other v) first)
      | inr second ↦ inr (before_place g.points (commit b.other) (snapshot b.one) (lo_commit b.other v) (lo_snapshot b.one u) second)
    ]

-- ---- over steps that hold
module _ (ss : List ClientSession) (g : Given ss) (steps : List Step) (known : AllByRecursion (StepComes ss g) steps) where
  -- why the late one cannot commit before this point of the other one, which does not commit before that
  not_first : (late other : TxnAt) (point : PointAt) (x : Option Overwritten) (edges : List Edge) (l o : ℕ) → Stands ss late l → Stands ss other o → Stands ss (txn_of point) o → place g.points (point_of point o) ≤ place g.points (commit o) → is_against_by ss steps late other point x edges ≡ true → place g.points (commit l) < place g.points (point_of point o) → ⊥
  not_first late other point None edges l o at_l at_o at_p own t lt =
      let p = and_parts (is_simple edges) (is_way ss steps point edges (Commit late)) t in
      let way = way_leads ss g steps known point edges (Commit late) o l at_p at_l p.1 in
      omega (arith, lt, way)
  not_first late other point (Some x) edges l o at_l at_o at_p own t lt =
      let p = and_parts (is_overwritten ss late other x) (is_simple_way ss steps (Commit other) edges (Snapshot x.read.txn)) t in
      let simple = and_parts (is_simple edges) (is_way ss steps (Commit other) edges (Snapshot x.read.txn)) p.1 in
      let e = and_parts _ _ p.0 in
      let n = and_parts _ _ e.1 in
      let k = and_parts _ _ n.1 in
      let m = and_parts _ _ k.1 in
      let r = reader ss x.read g.learnt e.0 in
      let f = writer ss x.found x.read r.node r.read g.learnt n.0 in
      let w = writer_of_key ss x.write x.read r.node r.read g.learnt k.0 in
      let is_l = one_node ss late f.node l g.sound g.learnt (subst (λ at. Stands ss at f.node) (same_at x.found.txn late m.0) f.stands) at_l in
      let is_o = one_node ss other w.1.node o g.sound g.learnt (subst (λ at. Stands ss at w.1.node) (same_at x.write.txn other (and_parts _ _ m.1).0) w.1.stands) at_o in
      let wrote = subst (λ v. Contains (ops_of ss v) (Write r.read.key r.read.wid)) is_l f.wrote in
      let over = subst (λ v. WritesKey ss v r.read.key) is_o (w.0, w.1.wrote) in
      let missed = (finds_write ss g x.read r.node r.read r.stands l wrote).last o over (omega (arith, lt, own)) in
      let seen = way_leads ss g steps known (Commit other) edges (Snapshot x.read.txn) o r.node at_o r.stands simple.1 in
      omega (arith, missed, seen)

  -- before its snapshot
  not_before : (late other : TxnAt) (x : Option Overwritten) (edges : List Edge) (l o : ℕ) → Stands ss late l → Stands ss other o → is_against_by ss steps late other (Snapshot other) x edges ≡ true → place g.points (commit l) < place g.points (snapshot o) → ⊥
  not_before late other x edges l o at_l at_o t lt =
      let own = begins ss g o (within ss other o at_o) in
      not_first late other (Snapshot other) x edges l o at_l at_o at_o (omega (arith, own)) t lt

  shown : (first second : TxnAt) (edges : List Edge) → not (length edges == 0) && is_simple_way ss steps (Commit first) edges (Snapshot second) ≡ true → Comes ss g (Commit first) (Snapshot second)
  shown first second [] t = absurd (false≢true t)
  shown first second (e ∷ edges) t = way_comes ss g steps known (Commit first) e edges (Snapshot second) (and_parts (is_simple (e ∷ edges)) _ (and_parts _ _ t).1).1

  step_comes : (s : Step) → is_step g.locked ss steps s ≡ true → StepComes ss g s
  step_comes (Shown first second edges) t = shown first second edges.items (and_parts _ _ (and_parts _ _ t).1).1
  step_comes (Forced both against) t =
      let p = and_parts _ _ t in
      let q = and_parts _ _ p.1 in
      let b = twice ss both g.sound g.learnt q.0 in
      elim (one_first ss g both p.0 b) [
        | inl first ↦ record { one = b.one; other = b.other; at_one = b.at_one; at_other = b.at_other; before = first }
        | inr second ↦ absurd (not_before both.other.txn both.one.txn against.overwritten against.edges.items b.other b.one b.at_other b.at_one q.1 second)
      ]
  step_comes (Later both against) t =
      let q = and_parts _ _ t in
      let b = twice ss both g.sound g.learnt q.0 in
      elim (one_commits ss g b.one b.other (within ss both.one.txn b.one b.at_one) (within ss both.other.txn b.other b.at_other).0 b.apart) [
        | inl first ↦ record { one = b.one; other = b.other; at_one = b.at_one; at_other = b.at_other; before = first }
        | inr second ↦ absurd (not_first both.other.txn both.one.txn (Commit both.one.txn) against.overwritten against.edges.items b.other b.one b.at_other b.at_one b.at_one (omega arith) q.1 second)
      ]

  no_circle : (edges : List Edge) → is_circle ss steps edges ≡ true → ⊥
  no_circle [] t = false≢true t
  no_circle (e ∷ edges) t =
      let c = way_comes ss g steps known (edge_from e) e edges (edge_from e) (and_parts (is_simple (e ∷ edges)) _ t).1 in
      let again = between ss g (edge_from e) (edge_from e) c.one c.one c c.at_one c.at_one in
      omega (arith, again)

  no_end : (ending : Ending) → is_ending g.locked ss steps ending ≡ true → ⊥
  no_end (Circle edges) t = no_circle edges.items t
  no_end (Neither both not_one not_other) t =
      let p = and_parts _ _ t in
      let q = and_parts _ _ p.1 in
      let a = and_parts _ _ q.1 in
      let b = twice ss both g.sound g.learnt q.0 in
      elim (one_first ss g both p.0 b) [
        | inl first ↦ not_before both.one.txn both.other.txn not_one.overwritten not_one.edges.items b.one b.other b.at_one b.at_other a.0 first
        | inr second ↦ not_before both.other.txn both.one.txn not_other.overwritten not_other.edges.items b.other b.one b.at_other b.at_one a.1 second
      ]

all_come : (ss : List ClientSession) (g : Given ss) (earlier steps : List Step) → AllByRecursion (StepComes ss g) earlier → are_steps g.locked ss earlier steps ≡ true → AllByRecursion (StepComes ss g) (earlier ++ steps)
all_come ss g earlier [] known t = subst (AllByRecursion (StepComes ss g)) (sym (append-nil earlier)) known
all_come ss g earlier (s ∷ steps) known t =
    let p = and_parts _ _ t in
    let more = each_from_append (StepComes ss g) earlier (s ∷ []) known (step_comes ss g earlier known s p.0, tt) in
    subst (AllByRecursion (StepComes ss g)) (append_assoc earlier (s ∷ []) steps) (all_come ss g (earlier ++ s ∷ []) steps more p.1)

pub no_order : (locked : Bool) (ss : List ClientSession) (r : Refutation) → is_refuted locked ss r ≡ true → IsSoundLog ss → IsLearntLog ss → HasPointOrder locked ss → ⊥
no_order locked ss r t sound learnt (points, is) =
    let g : Given ss = record { locked = locked; points = points; is = is; sound = sound; learnt = learnt } in
    let p = and_parts _ _ t in
    no_end ss g r.steps.items (all_come ss g [] r.steps.items tt p.0) r.ending (and_parts _ _ p.1).0
