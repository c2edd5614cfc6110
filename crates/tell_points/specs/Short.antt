-- What closes in a sentence or two: what each transaction saw of another one, and what not.
use Rattle.std.specs.Prelude.{ℕ, ◌+◌, ◌&&◌, not, nat_lt, Bool, false, List, [], ◌∷◌, ◌++◌, length, if◌then◌else◌, codes, decimal, slice_get, Option, None, Some}
use Rattle.std.specs.Option.{option_map_or}
use Rattle.session_log.specs.Text.{ClientSession}
use Rattle.log_lines.specs.Rows.{Table}
use Rattle.level_refutations.specs.declared.evidence.{TxnAt.TxnAt, OpAt.OpAt}
use Rattle.level_refutations.specs.{Places.is_of_key, Edges.op_of}
use Rattle.point_refutations.specs.declared.refutation.Since.TheVariants as since
use Rattle.point_refutations.specs.declared.refutation.Why.TheVariants as why
use Rattle.point_refutations.specs.declared.refutation.Step.TheVariants.{Forced, Later}
use Rattle.point_refutations.specs.declared.refutation.Ending.TheVariants.{Circle, Neither}
use Rattle.point_refutations.specs.declared.refutation.{Since.Since, Why.Why, Edge.Edge, Both.Both, Overwritten.Overwritten, Against.Against, Step.Step, Ending.Ending}
use Rattle.point_refutations.specs.Edges.{is_missed, both_are, is_same_read}
use Rattle.tell_evidence.specs.{Rows.key_at, Sentences.name_text}
use Rattle.tell_points.specs.Lines.{number_of}

-- ---- what an edge says

-- ` (by [1])`
abbrev pub number_text : ℕ → List ℕ
number_text k = codes " (by [" ++ (decimal (number_of k) ++ codes "])")

-- `did not see 1.1's x`
unfoldable pub missed_text : Table → List ClientSession → TxnAt → OpAt → List ℕ
missed_text table ss at read = codes "did not see " ++ (name_text table ss at ++ (codes "'s "
    ++ key_at ss read))

-- the key that both write, where a step is forced
abbrev pub did_text : List ClientSession → Option Step → List ℕ
did_text ss (Some (Forced both against)) = codes "wrote " ++ key_at ss both.one
did_text ss (Some (Later both against)) = codes "wrote " ++ key_at ss both.one
did_text ss _ = codes "came"

abbrev pub since_number : Since → List ℕ
since_number (since.Step k) = number_text k
since_number _ = []

-- of whom an edge says it
abbrev pub whose : Edge → TxnAt
whose e = if is_missed e.why then e.from else e.to

-- behind an edge that misses a write or not; what a transaction did not see goes on what is said of it
abbrev pub link_text : Table → List ClientSession → Option Bool → Edge → List ℕ
link_text table ss None e = name_text table ss (whose e) ++ codes " "
link_text table ss (Some missed) e = if not missed && is_missed e.why then codes ", but "
    else codes "; " ++ (name_text table ss (whose e) ++ codes " ")

-- whether the last of these edges, behind that one, misses a write
abbrev pub missed_last : Option Bool → List Edge → Option Bool
missed_last before [] = before
missed_last before (e ∷ edges) = missed_last (Some (is_missed e.why)) edges

-- what a read would find, if the other one committed later, as an edge
abbrev pub overwritten_edge : Overwritten → Edge
overwritten_edge o = record {
  from = o.read.txn;
  to = o.write.txn;
  why = why.Missed (record {
    read = o.read.op;
    found = Some o.found;
    write = o.write.op;
    since = since.Initial;
  });
}

-- ---- how it is told

-- a way of more edges is not told in a sentence
abbrev pub are_few : ℕ → Bool
are_few count = nat_lt 0 count && nat_lt count 7

abbrev pub count_of : Option Overwritten → ℕ
count_of None = 0
count_of (Some o) = 1

abbrev pub is_short : Against → Bool
is_short a = are_few (length a.edges.items + count_of a.overwritten)

-- the read of a way of one edge, if it misses a write
abbrev pub read_of : TxnAt → Why → Option OpAt
read_of from (why.Missed m) = Some (op_of from m.read)
read_of from _ = None

abbrev pub only_read : List Edge → Option OpAt
only_read (e ∷ []) = read_of e.from e.why
only_read _ = None

-- both read one version and overwrite it
abbrev pub are_lost : List ClientSession → Against → Against → Bool
are_lost ss not_one not_other = both_are (is_same_read ss) (only_read not_one.edges.items)
    (only_read not_other.edges.items)

-- and what is told as lost is a version of the key that both write
abbrev pub is_lost_key : List ClientSession → Both → Against → Bool
is_lost_key ss b not_one = option_map_or (is_of_key ss b.one) (only_read not_one.edges.items) false

abbrev pub is_lost : List ClientSession → Both → Against → Against → Bool
is_lost ss b not_one not_other = are_lost ss not_one not_other && is_lost_key ss b not_one

-- what follows from a circle of three edges or more
abbrev pub conclusion : List Edge → List ℕ
conclusion edges = if nat_lt 2 (length edges)
    then codes "; no order of snapshots and commits has all of this" else []

unfoldable pub short_lost : Table → List ClientSession → Both → List ℕ
short_lost table ss b = codes "in short: " ++ (name_text table ss b.one.txn ++ (codes " and "
    ++ (name_text table ss b.other.txn ++ (codes " read one version of " ++ (key_at ss b.one
    ++ codes " and both overwrote it; neither saw the other's\n")))))

-- `. If 1.1 came first, `
unfoldable pub if_text : Table → List ClientSession → TxnAt → List ℕ
if_text table ss at = codes ". If " ++ (name_text table ss at ++ codes " came first, ")

-- `in short: 1.1 and 2.1 both wrote x`
unfoldable pub both_wrote_text : Table → List ClientSession → Both → List ℕ
both_wrote_text table ss b = codes "in short: " ++ (name_text table ss b.one.txn ++ (codes " and "
    ++ (name_text table ss b.other.txn ++ (codes " both wrote " ++ key_at ss b.one))))

module _ (table : Table) (ss : List ClientSession) (steps : List Step) where
  -- of the transaction to which it leads; of the one from which it does, where that misses a write:
  -- `came after 1.1 in its session`, `began after 1.1 ended`, `saw 1.1's x`, `wrote x after 1.1 (by
  -- [1])`, `did not see 1.1's x`
  unfoldable pub said_text : TxnAt → TxnAt → Why → List ℕ
  said_text from to why.Session = codes "came after " ++ (name_text table ss from
      ++ codes " in its session")
  said_text from to why.Moments = codes "began after " ++ (name_text table ss from
      ++ codes " ended")
  said_text from to (why.Read write read) = codes "saw " ++ (name_text table ss from
      ++ (codes "'s " ++ key_at ss (op_of to read)))
  said_text from to (why.Step k) = did_text ss (slice_get steps k)
      ++ (codes " after " ++ (name_text table ss from ++ number_text k))
  said_text from to (why.Later k) = did_text ss (slice_get steps k)
      ++ (codes " after " ++ (name_text table ss from ++ number_text k))
  said_text from to (why.Missed m) = missed_text table ss to (op_of from m.read)
      ++ since_number m.since

  -- ---- sentences

  unfoldable pub part_text : Option Bool → Edge → List ℕ
  part_text before e = link_text table ss before e ++ said_text e.from e.to e.why

  abbrev pub sentence_text : Option Bool → List Edge → List ℕ
  sentence_text before [] = []
  sentence_text before (e ∷ edges) = part_text before e
      ++ sentence_text (Some (is_missed e.why)) edges

  abbrev pub overwritten_part : Option Bool → Option Overwritten → List ℕ
  overwritten_part before None = []
  overwritten_part before (Some o) = part_text before (overwritten_edge o)

  abbrev pub against_sentence : Against → List ℕ
  against_sentence a = sentence_text None a.edges.items
      ++ overwritten_part (missed_last None a.edges.items) a.overwritten

  -- ---- in short
  abbrev pub short_circle : List Edge → List ℕ
  short_circle edges = if are_few (length edges) then codes "in short: "
      ++ sentence_text None edges ++ conclusion edges ++ codes "\n" else []

  -- and what would be so, if the one came first, and if the other did
  abbrev pub short_both : Both → Against → Against → List ℕ
  short_both b not_one not_other = both_wrote_text table ss b ++ if_text table ss b.one.txn
      ++ against_sentence not_one ++ if_text table ss b.other.txn ++ against_sentence not_other
      ++ codes "\n"

  abbrev pub short_neither : Both → Against → Against → List ℕ
  short_neither b not_one not_other = if is_lost ss b not_one not_other then short_lost table ss b
      else (if is_short not_one && is_short not_other then short_both b not_one not_other else [])

  abbrev pub short_text : Ending → List ℕ
  short_text (Circle edges) = short_circle edges.items
  short_text (Neither both not_one not_other) = short_neither both not_one not_other
