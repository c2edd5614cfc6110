-- The arrows of a refutation by points: each leads from a point of one transaction to a point of another.
use Rattle.std.specs.Prelude.{ℕ, ◌+◌, ◌-◌, ◌^◌, min, List, ◌++◌, codes, decimal, Option, None, Some}
use Rattle.std.specs.List.{flat_map}
use Rattle.session_log.specs.Text.{ClientSession}
use Rattle.log_lines.specs.Rows.{Table}
use Rattle.level_refutations.specs.declared.evidence.TxnAt.{TxnAt}
use Rattle.point_refutations.specs.declared.refutation.PointAt.TheVariants.{Snapshot, Commit}
use Rattle.point_refutations.specs.declared.refutation.Since.TheVariants as since
use Rattle.point_refutations.specs.declared.refutation.Why.TheVariants as why
use Rattle.point_refutations.specs.declared.refutation.Step.TheVariants.{Shown, Forced, Later}
use Rattle.point_refutations.specs.declared.refutation.Ending.TheVariants.{Circle, Neither}
use Rattle.point_refutations.specs.declared.refutation.{PointAt.PointAt, Since.Since, Why.Why, Edge.Edge, Overwritten.Overwritten, Against.Against, Step.Step, Ending.Ending, Refutation.Refutation}
use Rattle.point_refutations.specs.Edges.{edge_from, edge_to}
use Rattle.tell_evidence.specs.Sentences.{name_text}
use Rattle.part_graphs.specs.Arrows.{session_look, read_look, anti_dependency_look, version_order_look, ends_text}

-- the number under which a step is told
abbrev pub number_of : ℕ → ℕ
number_of k = min (k + 1) (2 ^ 64 - 1)

-- of step 0: `forced [1]`
unfoldable pub forced_look : ℕ → List ℕ
forced_look k = codes "forced [" ++ (decimal (number_of k) ++ codes "]\" color=\"orange")

abbrev pub missed_look : Since → List ℕ
missed_look since.Initial = version_order_look
missed_look (since.ReadToo i) = anti_dependency_look
missed_look (since.Step k) = forced_look k

abbrev pub why_look : Why → List ℕ
why_look why.Session = session_look
why_look why.Moments = codes "moments\" color=\"purple"
why_look (why.Read write read) = read_look
why_look (why.Step k) = forced_look k
why_look (why.Later k) = forced_look k
why_look (why.Missed m) = missed_look m.since

module _ (table : Table) (ss : List ClientSession) where
  -- `"1.1":commit -> "2.1":snapshot [label="session" color="black"];`
  abbrev pub edge_arrow : Edge → List ℕ
  edge_arrow e = ends_text table ss (edge_from e) (edge_to e) ++ codes " [label=\""
      ++ why_look e.why ++ codes "\"];\n"

  abbrev pub way_arrows : List Edge → List ℕ
  way_arrows edges = flat_map edge_arrow edges

  -- ---- why one cannot commit first

  -- `if 1.1 commits first`
  unfoldable pub supposed_look : TxnAt → List ℕ
  supposed_look first = codes " [label=\"if " ++ (name_text table ss first
      ++ codes " commits first\" color=\"gray\"];\n")

  abbrev pub supposed_arrow : TxnAt → PointAt → PointAt → List ℕ
  supposed_arrow first from to = ends_text table ss from to ++ supposed_look first

  -- if the first one commits first, then before this point of the other; and the snapshot of who reads
  -- what the first one wrote is taken before the commit of who wrote over that
  abbrev pub supposition : TxnAt → PointAt → Option Overwritten → List ℕ
  supposition first point None = supposed_arrow first (Commit first) point
  supposition first point (Some o) = supposed_arrow first (Snapshot o.read.txn) (Commit o.write.txn)

  -- and the edges that close the circle
  abbrev pub against_arrows : TxnAt → PointAt → Against → List ℕ
  against_arrows first point a = supposition first point a.overwritten ++ way_arrows a.edges.items

  -- ---- steps, and what they lead to

  abbrev pub step_arrows : Step → List ℕ
  step_arrows (Shown first second edges) = way_arrows edges.items
  step_arrows (Forced both against) = against_arrows both.other.txn (Snapshot both.one.txn) against
  step_arrows (Later both against) = against_arrows both.other.txn (Commit both.one.txn) against

  abbrev pub ending_arrows : Ending → List ℕ
  ending_arrows (Circle edges) = way_arrows edges.items
  ending_arrows (Neither both not_one not_other) =
      against_arrows both.one.txn (Snapshot both.other.txn) not_one
      ++ against_arrows both.other.txn (Snapshot both.one.txn) not_other

  abbrev pub refutation_arrows : Refutation → List ℕ
  refutation_arrows r = ending_arrows r.ending ++ flat_map step_arrows r.steps.items
