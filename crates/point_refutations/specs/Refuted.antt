-- Refutations by points that are right.
use Rattle.std.specs.Prelude.{ℕ, ◌==◌, ◌&&◌, ◌||◌, Bool, true, false, not, List, [], ◌∷◌, ◌++◌, length, Option, None, Some}
use Rattle.std.specs.{List.list_any, List.list_all, List.range_with_len, Str.bytes_eq}
use Rattle.session_log.specs.Text.{ClientSession}
use Rattle.session_log.specs.declared.session.{Op.Op, Op.TheVariants.Write}
use Rattle.level_refutations.specs.declared.evidence.TxnAt.{TxnAt}
use Rattle.level_refutations.specs.Places.{txn_at, op_at, is_same, is_named, is_external, is_of_key}
use Rattle.point_refutations.specs.declared.refutation.PointAt.TheVariants.{Snapshot, Commit}
use Rattle.point_refutations.specs.declared.refutation.{Both.Both, Overwritten.Overwritten, Against.Against, PointAt.PointAt, Since.Since, Why.Why, Edge.Edge, Step.Step, Ending.Ending, Refutation.Refutation}
use Rattle.point_refutations.specs.declared.refutation.Since.TheVariants as since
use Rattle.point_refutations.specs.declared.refutation.Why.TheVariants as why
use Rattle.point_refutations.specs.declared.refutation.Step.TheVariants.{Shown, Forced, Later}
use Rattle.point_refutations.specs.declared.refutation.Ending.TheVariants.{Circle, Neither}
use Rattle.point_refutations.specs.Edges.{both_are, edge_from, is_simple_way}

-- ---- two that write one key

abbrev pub writes_same : Op → Op → Bool
writes_same (Write key wid) (Write k w) = bytes_eq key k
writes_same _ _ = false

-- two transactions, and a write of one key by each
abbrev pub is_both : List ClientSession → Both → Bool
is_both ss b = not (is_same b.one.txn b.other.txn)
    && both_are writes_same (op_at ss b.one) (op_at ss b.other)

-- the operation and one of these write one key
abbrev pub writes_too : Op → List Op → Bool
writes_too op others = list_any (writes_same op) others

-- one of these and one of those do
abbrev pub write_some : List Op → List Op → Bool
write_some ops others = list_any (λ op. writes_too op others) ops

-- two transactions that write some key
abbrev pub are_writers : List ClientSession → TxnAt → TxnAt → Bool
are_writers ss one other = not (is_same one other)
    && both_are (λ t u. write_some t.ops u.ops) (txn_at ss one) (txn_at ss other)

-- ---- why one cannot commit before the other takes its snapshot, or commits

-- an external read of another transaction finds what the late one writes, and the other one writes
-- its key
abbrev pub is_overwritten : List ClientSession → TxnAt → TxnAt → Overwritten → Bool
is_overwritten ss late other o = is_external ss o.read && (is_named ss o.found o.read
    && (is_of_key ss o.write o.read && (is_same o.found.txn late
    && (is_same o.write.txn other && not (is_same o.read.txn other)))))

-- before this point of the other one
abbrev pub is_against_by : List ClientSession → List Step → TxnAt → TxnAt → PointAt
    → Option Overwritten → List Edge → Bool
is_against_by ss steps late other point None edges = is_simple_way ss steps point edges (Commit late)
is_against_by ss steps late other point (Some o) edges = is_overwritten ss late other o
    && is_simple_way ss steps (Commit other) edges (Snapshot o.read.txn)

abbrev pub is_against : List ClientSession → List Step → TxnAt → TxnAt → PointAt → Against → Bool
is_against ss steps late other point a = is_against_by ss steps late other point a.overwritten
    a.edges.items

-- ---- steps, and what they lead to

-- behind these steps; of two that write one key; where keys are not locked, only that the one commits
-- before the other commits
abbrev pub is_step : Bool → List ClientSession → List Step → Step → Bool
is_step locked ss earlier (Shown first second edges) = locked && (are_writers ss first second
    && (not (length edges.items == 0)
    && is_simple_way ss earlier (Commit first) edges.items (Snapshot second)))
is_step locked ss earlier (Forced both against) = locked && (is_both ss both
    && is_against ss earlier both.other.txn both.one.txn (Snapshot both.one.txn) against)
is_step locked ss earlier (Later both against) = is_both ss both
    && is_against ss earlier both.other.txn both.one.txn (Commit both.one.txn) against

-- each over the ones before it
abbrev pub are_steps : Bool → List ClientSession → List Step → List Step → Bool
are_steps locked ss earlier [] = true
are_steps locked ss earlier (s ∷ steps) = is_step locked ss earlier s
    && are_steps locked ss (earlier ++ s ∷ []) steps

-- the edges lead from a point to itself, and pass no point twice
abbrev pub is_circle : List ClientSession → List Step → List Edge → Bool
is_circle ss steps [] = false
is_circle ss steps (e ∷ edges) = is_simple_way ss steps (edge_from e) (e ∷ edges) (edge_from e)

-- or neither of two can commit first
abbrev pub is_ending : Bool → List ClientSession → List Step → Ending → Bool
is_ending locked ss steps (Circle edges) = is_circle ss steps edges.items
is_ending locked ss steps (Neither both not_one not_other) = locked && (is_both ss both
    && (is_against ss steps both.one.txn both.other.txn (Snapshot both.other.txn) not_one
    && is_against ss steps both.other.txn both.one.txn (Snapshot both.one.txn) not_other))

-- ---- what rests on a step

abbrev pub is_since_step : ℕ → Since → Bool
is_since_step k (since.Step i) = i == k
is_since_step k _ = false

-- by step k
abbrev pub rests_on : ℕ → Why → Bool
rests_on k (why.Step i) = i == k
rests_on k (why.Later i) = i == k
rests_on k (why.Missed m) = is_since_step k m.since
rests_on k _ = false

abbrev pub some_rests_on : ℕ → List Edge → Bool
some_rests_on k edges = list_any (λ e. rests_on k e.why) edges

abbrev pub step_rests_on : ℕ → Step → Bool
step_rests_on k (Shown first second edges) = some_rests_on k edges.items
step_rests_on k (Forced both against) = some_rests_on k against.edges.items
step_rests_on k (Later both against) = some_rests_on k against.edges.items

abbrev pub one_rests_on : ℕ → List Step → Bool
one_rests_on k steps = list_any (step_rests_on k) steps

abbrev pub ending_rests_on : ℕ → Ending → Bool
ending_rests_on k (Circle edges) = some_rests_on k edges.items
ending_rests_on k (Neither both not_one not_other) = some_rests_on k not_one.edges.items
    || some_rests_on k not_other.edges.items

-- the ending or one of these steps rests on step k
abbrev pub is_needed : List Step → Ending → ℕ → Bool
is_needed steps ending k = ending_rests_on k ending || one_rests_on k steps

-- on each of them
abbrev pub are_needed : List Step → Ending → Bool
are_needed steps ending = list_all (is_needed steps ending) (range_with_len 0 (length steps))

-- it shows that the points have no order, where keys are locked or not
abbrev pub is_refuted : Bool → List ClientSession → Refutation → Bool
is_refuted locked ss r = are_steps locked ss [] r.steps.items
    && (is_ending locked ss r.steps.items r.ending && are_needed r.steps.items r.ending)
