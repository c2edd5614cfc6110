-- Lines of edges between points, of steps, and of what they lead to. Transactions have their names in
-- the log, as `2.7`; operations stand with their lines.
use Rattle.std.specs.Prelude.{ℕ, ◌+◌, ◌-◌, ◌^◌, min, List, [], ◌∷◌, ◌++◌, if◌then◌else◌, codes, decimal}
use Rattle.std.specs.{Prelude.unwrap_or, Prelude.option_and_then, Prelude.Option, Prelude.None, Prelude.Some, List.flat_map, Option.option_map_or}
use Rattle.session_log.specs.Text.{ClientSession}
use Rattle.log_lines.specs.Rows.{Table}
use Rattle.level_refutations.specs.declared.evidence.{TxnAt.TxnAt, OpAt.OpAt}
use Rattle.level_refutations.specs.{Places.txn_at, Places.is_same, Edges.op_of}
use Rattle.point_refutations.specs.declared.refutation.PointAt.TheVariants.{Snapshot, Commit}
use Rattle.point_refutations.specs.declared.refutation.Since.TheVariants as since
use Rattle.point_refutations.specs.declared.refutation.Why.TheVariants as why
use Rattle.point_refutations.specs.declared.refutation.Step.TheVariants.{Shown, Forced, Later}
use Rattle.point_refutations.specs.declared.refutation.{PointAt.PointAt, Since.Since, Why.Why, Edge.Edge, Both.Both, Overwritten.Overwritten, Against.Against, Step.Step}
use Rattle.point_refutations.specs.Edges.{edge_from, edge_to}
use Rattle.tell_evidence.specs.Rows.{number_at, begin_of, end_of, line_of, key_at, wid_at}
use Rattle.tell_evidence.specs.Sentences.{name_text, in_line, does_text, wrote_text}

-- the number under which a step is told
abbrev pub number_of : ℕ → ℕ
number_of k = min (k + 1) (2 ^ 64 - 1)

-- the moment that a transaction states, and 0 where it states none
abbrev pub ended_at : List ClientSession → TxnAt → ℕ
ended_at ss at = unwrap_or (option_and_then (λ t. t.ended) (txn_at ss at)) 0

abbrev pub begun_at : List ClientSession → TxnAt → ℕ
begun_at ss at = unwrap_or (option_and_then (λ t. t.begun) (txn_at ss at)) 0

abbrev pub does_words : TxnAt → TxnAt → List ℕ
does_words from to = if is_same from to then codes " writes itself only later" else codes " wrote"

-- what stands before the lines of a way that is part of something
abbrev pub indent : List ℕ
indent = codes "    "

-- ` both write x `
unfoldable pub both_key : List ClientSession → Both → List ℕ
both_key ss b = codes " both write " ++ (key_at ss b.one ++ codes " ")

-- `(lines 4 and 9)`
unfoldable pub both_lines : Table → Both → List ℕ
both_lines table b = codes "(lines " ++ (decimal (line_of table b.one) ++ (codes " and "
    ++ (decimal (line_of table b.other) ++ codes ")")))

unfoldable pub so_line : List ℕ
so_line = codes ", so one of them commits before the other takes its snapshot\n"

module _ (table : Table) (ss : List ClientSession) where
  -- ---- reasons

  -- what is read: ` of 3.1`, or that it is the initial value
  abbrev pub found_text : Option OpAt → List ℕ
  found_text None = codes ", the initial value"
  found_text (Some write) = codes " of " ++ name_text table ss write.txn

  -- why that is older than a write: `, and 3.1 wrote x 2 (line 7)`; `, and 3.1, which reads it too,
  -- overwrites it with 2 (line 7)`; `, which by [1] comes before 2, which 3.1 wrote (line 7)`
  unfoldable pub since_text : OpAt → Since → List ℕ
  since_text write since.Initial = codes ", and " ++ does_text table ss (codes " wrote ") write
  since_text write (since.ReadToo i) = codes ", and " ++ (name_text table ss write.txn
      ++ (codes ", which reads it too, overwrites it with " ++ (decimal (wid_at ss write)
      ++ in_line (line_of table write))))
  since_text write (since.Step k) = codes ", which by [" ++ (decimal (number_of k)
      ++ (codes "] comes before " ++ (decimal (wid_at ss write) ++ wrote_text table ss write)))

  -- `session 1`; `1.1 ended at 4 (line 9), 2.1 began at 5 (line 11)`; `2.1 reads x 1 (line 6), which
  -- 1.1 wrote (line 3)`; `by [1]`; `3.1 reads x 1 (line 6) of 1.1`, and why that is older than what the
  -- other one writes
  unfoldable pub reason_text : TxnAt → TxnAt → Why → List ℕ
  reason_text from to why.Session = codes "session " ++ decimal (number_at ss from.session)
  reason_text from to why.Moments = name_text table ss from ++ (codes " ended at "
      ++ (decimal (ended_at ss from) ++ (in_line (end_of table from) ++ (codes ", "
      ++ (name_text table ss to ++ (codes " began at " ++ (decimal (begun_at ss to)
      ++ (codes " (line " ++ (decimal (begin_of table to) ++ codes ")")))))))))
  reason_text from to (why.Read write read) = does_text table ss (codes " reads ") (op_of to read)
      ++ (codes ", which " ++ (name_text table ss from ++ (does_words from to
      ++ in_line (line_of table (op_of from write)))))
  reason_text from to (why.Step k) = codes "by [" ++ (decimal (number_of k) ++ codes "]")
  reason_text from to (why.Later k) = codes "by [" ++ (decimal (number_of k) ++ codes "]")
  reason_text from to (why.Missed m) = does_text table ss (codes " reads ") (op_of from m.read)
      ++ found_text m.found ++ since_text (op_of to m.write) m.since

  -- ---- edges

  -- `1.1's commit`
  unfoldable pub point_text : PointAt → List ℕ
  point_text (Snapshot at) = name_text table ss at ++ codes "'s snapshot"
  point_text (Commit at) = name_text table ss at ++ codes "'s commit"

  -- `1.1's commit before 2.1's snapshot: session 1`
  abbrev pub edge_text : List ℕ → Edge → List ℕ
  edge_text indent e = indent ++ point_text (edge_from e) ++ codes " before "
      ++ point_text (edge_to e) ++ codes ": " ++ reason_text e.from e.to e.why ++ codes "\n"

  -- a line for each
  abbrev pub way_text : List ℕ → List Edge → List ℕ
  way_text indent edges = flat_map (edge_text indent) edges

  -- ---- why one cannot commit first

  -- `3.1's snapshot comes after 1.1's commit, but 3.1 reads x 2 (line 9) of 2.1, which 1.1 would have
  -- overwritten with 3 (line 4):`
  unfoldable pub overwritten_text : Overwritten → List ℕ
  overwritten_text o = indent ++ (name_text table ss o.read.txn ++ (codes "'s snapshot comes after "
      ++ (name_text table ss o.write.txn ++ (codes "'s commit, but "
      ++ (does_text table ss (codes " reads ") o.read ++ (codes " of "
      ++ (name_text table ss o.found.txn ++ (codes ", which " ++ (name_text table ss o.write.txn
      ++ (codes " would have overwritten with " ++ (decimal (wid_at ss o.write)
      ++ (in_line (line_of table o.write) ++ codes ":\n"))))))))))))

  abbrev pub against_text : Against → List ℕ
  against_text a = option_map_or overwritten_text a.overwritten [] ++ way_text indent a.edges.items

  -- ---- steps

  -- `[1] `
  abbrev pub bracket_text : ℕ → List ℕ
  bracket_text k = codes "[" ++ (decimal (number_of k) ++ codes "] ")

  -- `[1] 1.1's commit before `
  unfoldable pub lead_text : ℕ → TxnAt → List ℕ
  lead_text k first = codes "[" ++ (decimal (number_of k) ++ (codes "] "
      ++ (name_text table ss first ++ codes "'s commit before ")))

  -- `[1] 1.1's commit before 2.1's snapshot:`
  abbrev pub head_text : ℕ → TxnAt → PointAt → List ℕ
  head_text k first p = lead_text k first ++ point_text p ++ codes ":"

  -- one edge stands in the line itself
  abbrev pub shown_text : ℕ → TxnAt → TxnAt → List Edge → List ℕ
  shown_text k first second (e ∷ []) = bracket_text k ++ edge_text [] e
  shown_text k first second edges = head_text k first (Snapshot second) ++ codes "\n"
      ++ way_text indent edges

  -- `, and 2.1 cannot commit first:`
  unfoldable pub other_text : TxnAt → List ℕ
  other_text at = codes ", and " ++ (name_text table ss at ++ codes " cannot commit first:\n")

  -- before this point of the other one
  abbrev pub forced_text : ℕ → Both → PointAt → Against → List ℕ
  forced_text k both p against = head_text k both.one.txn p ++ both_key ss both
      ++ both_lines table both ++ other_text both.other.txn ++ against_text against

  abbrev pub step_text : ℕ → Step → List ℕ
  step_text k (Shown first second edges) = shown_text k first second edges.items
  step_text k (Forced both against) = forced_text k both (Snapshot both.other.txn) against
  step_text k (Later both against) = forced_text k both (Commit both.other.txn) against

  -- of steps, the first of which has index k
  abbrev pub steps_text : ℕ → List Step → List ℕ
  steps_text k [] = []
  steps_text k (s ∷ steps) = step_text k s ++ steps_text (k + 1) steps

  -- ---- two of which neither can commit first

  -- `1.1 cannot commit first:`
  unfoldable pub cannot_line : TxnAt → List ℕ
  cannot_line at = name_text table ss at ++ codes " cannot commit first:\n"

  abbrev pub cannot_text : TxnAt → Against → List ℕ
  cannot_text at a = cannot_line at ++ against_text a

  -- `1.1 and 2.1`
  unfoldable pub two_text : Both → List ℕ
  two_text b = name_text table ss b.one.txn ++ (codes " and " ++ name_text table ss b.other.txn)

  -- `1.1 and 2.1 both write x (lines 4 and 9), so one of them commits before the other takes its
  -- snapshot`, and why neither does
  abbrev pub neither_text : Both → Against → Against → List ℕ
  neither_text b not_one not_other = two_text b ++ both_key ss b ++ both_lines table b ++ so_line
      ++ cannot_text b.one.txn not_one ++ cannot_text b.other.txn not_other
