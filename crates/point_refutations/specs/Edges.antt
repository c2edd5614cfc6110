-- Edges between the points of transactions: the commit of one before the snapshot of another, or, by
-- a step that says no more, before its commit; or the snapshot of one that misses a write before the
-- commit of the other.
use Rattle.std.specs.Prelude.{ℕ, ◌==◌, ◌&&◌, ◌||◌, Bool, true, false, not, is_some, List, [], ◌∷◌, if◌then◌else◌, slice_get, Option, None, Some}
use Rattle.std.specs.{List.list_any, Option.option_map_or, Str.bytes_eq}
use Rattle.session_log.specs.{Moments.is_earlier, Text.ClientSession}
use Rattle.session_log.specs.declared.session.{Op.Op, Op.TheVariants.Read}
use Rattle.level_refutations.specs.declared.evidence.{TxnAt.TxnAt, OpAt.OpAt}
use Rattle.level_refutations.specs.Places.{txn_at, op_at, is_same, is_named, is_external, is_of_key}
use Rattle.level_refutations.specs.{Places.names_initial, Edges.is_session_step, Edges.op_of}
use Rattle.point_refutations.specs.declared.refutation.{Missed.Missed, Edge.Edge, PointAt.PointAt, Since.Since, Why.Why, Step.Step}
use Rattle.point_refutations.specs.declared.refutation.PointAt.TheVariants.{Snapshot, Commit}
use Rattle.point_refutations.specs.declared.refutation.Since.TheVariants as since
use Rattle.point_refutations.specs.declared.refutation.Why.TheVariants as why
use Rattle.point_refutations.specs.declared.refutation.Step.TheVariants.{Shown, Forced, Later}

-- ---- steps

-- the transaction that commits before the other one takes its snapshot, or commits
abbrev pub first_of : Step → TxnAt
first_of (Shown first second edges) = first
first_of (Forced both against) = both.one.txn
first_of (Later both against) = both.one.txn

abbrev pub second_of : Step → TxnAt
second_of (Shown first second edges) = second
second_of (Forced both against) = both.other.txn
second_of (Later both against) = both.other.txn

-- the other one takes its snapshot later, and does not only commit later
abbrev pub says_snapshot : Step → Bool
says_snapshot (Later both against) = false
says_snapshot _ = true

abbrev pub is_order : TxnAt → TxnAt → Step → Bool
is_order from to s = is_same (first_of s) from && is_same (second_of s) to

-- step k says of the two that the one commits before the other
abbrev pub is_later : List Step → ℕ → TxnAt → TxnAt → Bool
is_later steps k from to = option_map_or (is_order from to) (slice_get steps k) false

-- and before the other takes its snapshot
abbrev pub is_by_step : List Step → ℕ → TxnAt → TxnAt → Bool
is_by_step steps k from to = option_map_or (λ s. is_order from to s && says_snapshot s)
    (slice_get steps k) false

-- ---- what a read finds

-- the read names the write, or the initial value
abbrev pub is_found : List ClientSession → OpAt → Option OpAt → Bool
is_found ss read None = names_initial ss read
is_found ss read (Some write) = is_named ss write read

-- both are there, and stand so
abbrev pub both_are : {A : Type 0} → (A → A → Bool) → Option A → Option A → Bool
both_are f (Some one) (Some other) = f one other
both_are f _ _ = false

abbrev pub reads_same : Op → Op → Bool
reads_same (Read key wid) (Read k w) = bytes_eq key k && (wid == w)
reads_same _ _ = false

-- both are reads of one key under one identity
abbrev pub is_same_read : List ClientSession → OpAt → OpAt → Bool
is_same_read ss one other = both_are reads_same (op_at ss one) (op_at ss other)

-- what the read finds is older than what this transaction writes: it is the initial value, or an
-- external read of the transaction finds it too, or its writer commits before by a step
abbrev pub is_since : List ClientSession → List Step → OpAt → Option OpAt → TxnAt → Since → Bool
is_since ss steps read found to since.Initial = not (is_some found)
is_since ss steps read found to (since.ReadToo i) = is_external ss (op_of to i)
    && is_same_read ss read (op_of to i)
is_since ss steps read found to (since.Step k) = option_map_or (λ w. is_later steps k w.txn to)
    found false

-- an external read, what it finds, and a write of its key that is newer
abbrev pub misses_by : List ClientSession → List Step → OpAt → Option OpAt → OpAt → Since → Bool
misses_by ss steps read found write since = is_external ss read && (is_found ss read found
    && (is_of_key ss write read && is_since ss steps read found write.txn since))

-- nobody misses his own write
abbrev pub misses : List ClientSession → List Step → TxnAt → TxnAt → Missed → Bool
misses ss steps from to m = not (is_same from to)
    && misses_by ss steps (op_of from m.read) m.found (op_of to m.write) m.since

-- ---- edges

-- the log or a step shows it; by moments, if the one ended before the other began
abbrev pub is_why : List ClientSession → List Step → TxnAt → TxnAt → Why → Bool
is_why ss steps from to why.Session = is_session_step ss from to
is_why ss steps from to why.Moments =
    both_are (λ one other. is_earlier one.ended other.begun) (txn_at ss from) (txn_at ss to)
is_why ss steps from to (why.Read write read) = is_external ss (op_of to read)
    && is_named ss (op_of from write) (op_of to read)
is_why ss steps from to (why.Step k) = is_by_step steps k from to
is_why ss steps from to (why.Later k) = is_later steps k from to
is_why ss steps from to (why.Missed m) = misses ss steps from to m

abbrev pub is_edge : List ClientSession → List Step → Edge → Bool
is_edge ss steps e = is_why ss steps e.from e.to e.why

abbrev pub is_missed : Why → Bool
is_missed (why.Missed m) = true
is_missed _ = false

abbrev pub ends_in_commit : Why → Bool
ends_in_commit (why.Later k) = true
ends_in_commit w = is_missed w

abbrev pub edge_from : Edge → PointAt
edge_from e = if is_missed e.why then Snapshot e.from else Commit e.from

abbrev pub edge_to : Edge → PointAt
edge_to e = if ends_in_commit e.why then Commit e.to else Snapshot e.to

-- ---- ways

abbrev pub txn_of : PointAt → TxnAt
txn_of (Snapshot at) = at
txn_of (Commit at) = at

-- who is at the one point goes on from the other: the same, or from a snapshot to its own commit
abbrev pub leads_on : PointAt → PointAt → Bool
leads_on (Commit a) (Snapshot b) = false
leads_on p q = is_same (txn_of p) (txn_of q)

-- the edges lead from the one point to the other
abbrev pub is_way : List ClientSession → List Step → PointAt → List Edge → PointAt → Bool
is_way ss steps from [] to = leads_on from to
is_way ss steps from (e ∷ edges) to = (leads_on from (edge_from e) && is_edge ss steps e)
    && is_way ss steps (edge_to e) edges to

-- ---- ways that pass no point twice

abbrev pub is_same_point : PointAt → PointAt → Bool
is_same_point (Snapshot a) (Snapshot b) = is_same a b
is_same_point (Commit a) (Commit b) = is_same a b
is_same_point _ _ = false

-- both begin at one point, or both end at one
abbrev pub meets : Edge → Edge → Bool
meets one other = is_same_point (edge_from one) (edge_from other)
    || is_same_point (edge_to one) (edge_to other)

abbrev pub is_simple : List Edge → Bool
is_simple [] = true
is_simple (e ∷ edges) = not (list_any (meets e) edges) && is_simple edges

abbrev pub is_simple_way : List ClientSession → List Step → PointAt → List Edge → PointAt → Bool
is_simple_way ss steps from edges to = is_simple edges && is_way ss steps from edges to
