-- How evidence against a level is told: in a sentence, and then each edge with its lines.
use Rattle.std.specs.Prelude.{ℕ, ◌==◌, ◌&&◌, Bool, List, [], ◌∷◌, ◌++◌, length, codes, decimal, if◌then◌else◌}
use Rattle.session_log.specs.Text.{ClientSession}
use Rattle.session_log.specs.declared.session.Outcome.{Outcome}
use Rattle.session_log.specs.declared.session.Outcome.TheVariants.{Commit, Abort, Unknown}
use Rattle.log_lines.specs.Rows.{Table}
use Rattle.level_refutations.specs.declared.evidence.{TxnAt.TxnAt, OpAt.OpAt, Overlooked.Overlooked, Edge.Edge, Fault.Fault, Why.Why, Evidence.Evidence}
use Rattle.level_refutations.specs.declared.evidence.Edge.TheVariants as edge
use Rattle.level_refutations.specs.declared.evidence.Why.TheVariants as why
use Rattle.level_refutations.specs.declared.evidence.Evidence.TheVariants as evidence
use Rattle.level_refutations.specs.Edges.{op_of, edge_from, edge_to}
use Rattle.tell_evidence.specs.Rows.{end_of, outcome_at, line_of, key_at, wid_at}
use Rattle.tell_evidence.specs.Sentences.{name_text, in_line, version_text, does_text, wrote_text, hop_line, path_lines, stands_behind, reads_it}

-- ---- reads that overlook a write

abbrev pub sight_lines : Table → List ClientSession → Overlooked → List ℕ
sight_lines table ss o = path_lines table ss o.write o.path.items

-- by which path a read sees the other write, what it names, and which of the two is the earlier:
-- `so this level needs the x of 1.3 to be older than the x of 1.2`
unfoldable pub forced_text : Table → List ClientSession → Overlooked → OpAt → List ℕ
forced_text table ss o found =
    sight_lines table ss o ++ (does_text table ss (codes " reads ") o.read
    ++ (wrote_text table ss found ++ (codes "\nso this level needs "
    ++ (version_text table ss o.write ++ (codes " to be older than "
    ++ (version_text table ss found ++ codes "\n"))))))

-- a read overlooks a write that its own transaction reads too
abbrev pub is_read_too : Overlooked → Bool
is_read_too o = (length o.path.items == 1) && reads_it o.write o.path.items

-- `in short: 2.7 reads two versions of x: that of 1.3, and the older one of 1.2`
unfoldable pub short_twice : Table → List ClientSession → Overlooked → OpAt → List ℕ
short_twice table ss o found =
    codes "in short: " ++ (name_text table ss o.read.txn ++ (codes " reads two versions of "
    ++ (key_at ss o.read ++ (codes ": that of " ++ (name_text table ss o.write.txn
    ++ (codes ", and the older one of " ++ (name_text table ss found.txn ++ codes "\n")))))))

-- `in short: 2.7 sees 1.3, which wrote x, but reads the older x of 1.2`
unfoldable pub short_sight : Table → List ClientSession → Overlooked → OpAt → List ℕ
short_sight table ss o found =
    codes "in short: " ++ (name_text table ss o.read.txn ++ (stands_behind o.path.items
    ++ (name_text table ss o.write.txn ++ (codes ", which wrote " ++ (key_at ss o.write
    ++ (codes ", but reads the older " ++ (key_at ss found ++ (codes " of "
    ++ (name_text table ss found.txn ++ codes "\n")))))))))

-- one of these
abbrev pub short_forced : Table → List ClientSession → Overlooked → OpAt → List ℕ
short_forced table ss o found = if is_read_too o then short_twice table ss o found
    else short_sight table ss o found

-- ---- a read of the initial value that overlooks a write

-- `in short: 2.7 sees 1.3, which wrote x, but reads the initial value of x`
unfoldable pub short_initial : Table → List ClientSession → Overlooked → List ℕ
short_initial table ss o =
    codes "in short: " ++ (name_text table ss o.read.txn ++ (stands_behind o.path.items
    ++ (name_text table ss o.write.txn ++ (codes ", which wrote " ++ (key_at ss o.write
    ++ (codes ", but reads the initial value of " ++ (key_at ss o.read ++ codes "\n")))))))

-- by which path it sees the write, what it names, and what it should name:
-- `so 2.7 should read the x of 1.3 or a later one`
unfoldable pub lines_initial : Table → List ClientSession → Overlooked → List ℕ
lines_initial table ss o =
    sight_lines table ss o ++ (does_text table ss (codes " reads ") o.read
    ++ (codes ", the initial value\nso " ++ (name_text table ss o.read.txn
    ++ (codes " should read " ++ (version_text table ss o.write
    ++ codes " or a later one\n")))))

abbrev pub initial_text : Table → List ClientSession → Overlooked → List ℕ
initial_text table ss o = short_initial table ss o ++ lines_initial table ss o

-- ---- circles

abbrev pub edge_text : Table → List ClientSession → Edge → List ℕ
edge_text table ss (edge.Known hop) = hop_line table ss hop
edge_text table ss (edge.Forced o found) = forced_text table ss o found

abbrev pub edges_text : Table → List ClientSession → List Edge → List ℕ
edges_text table ss [] = []
edges_text table ss (e ∷ edges) = edge_text table ss e ++ edges_text table ss edges

-- these words, and `1.3 comes before 1.2`
unfoldable pub before_text : Table → List ClientSession → List ℕ → Edge → List ℕ
before_text table ss words e = words ++ (name_text table ss (edge_from e)
    ++ (codes " comes before " ++ name_text table ss (edge_to e)))

abbrev pub behind_and : Table → List ClientSession → List Edge → List ℕ
behind_and table ss [] = []
behind_and table ss (e ∷ edges) = before_text table ss (codes ", and ") e
    ++ behind_and table ss edges

-- the clash: `so 1.3 comes before 1.2, and 1.2 comes before 1.3`
abbrev pub clash_text : Table → List ClientSession → List Edge → List ℕ
clash_text table ss [] = []
clash_text table ss (e ∷ edges) = before_text table ss (codes "so ") e ++ behind_and table ss edges
    ++ codes "\n"

-- where no edge is forced
unfoldable pub short_hops : Table → List ClientSession → Edge → List ℕ
short_hops table ss e = codes "in short: by sessions and reads alone "
    ++ (name_text table ss (edge_from e) ++ codes " comes before itself\n")

abbrev pub short_known : Table → List ClientSession → List Edge → List ℕ
short_known table ss [] = []
short_known table ss (e ∷ edges) = short_hops table ss e

-- in a sentence: by the first of these edges that is forced, or of all where there is none
abbrev pub short_by : Table → List ClientSession → List Edge → List Edge → List ℕ
short_by table ss all [] = short_known table ss all
short_by table ss all (edge.Known hop ∷ edges) = short_by table ss all edges
short_by table ss all (edge.Forced o found ∷ edges) = short_forced table ss o found

abbrev pub circle_text : Table → List ClientSession → List Edge → List ℕ
circle_text table ss edges = short_by table ss edges edges ++ edges_text table ss edges
    ++ clash_text table ss edges

-- ---- faults

-- ` reads what 1.1 wrote, which did not commit`
unfoldable pub short_aborted : Table → List ClientSession → TxnAt → List ℕ
short_aborted table ss at = codes " reads what " ++ (name_text table ss at
    ++ codes " wrote, which did not commit\n")

-- in a sentence
abbrev pub short_why : Table → List ClientSession → Why → List ℕ
short_why table ss (why.MissesOwn write) = codes " does not read its own last write\n"
short_why table ss why.Unwritten = codes " reads what nobody wrote\n"
short_why table ss (why.Aborted write) = short_aborted table ss write.txn
short_why table ss (why.Overwritten write later) =
    codes " reads a version that its writer overwrote before committing\n"
short_why table ss (why.OwnLater write) = codes " reads what it writes itself only later\n"

-- `, and 2.1 was aborted (line 5)`
unfoldable pub outcome_text : Table → List ClientSession → TxnAt → Outcome → List ℕ
outcome_text table ss at Commit = []
outcome_text table ss at Abort = codes ", and " ++ (name_text table ss at ++ (codes " was aborted"
    ++ in_line (end_of table at)))
outcome_text table ss at Unknown = codes ", and the outcome of " ++ (name_text table ss at
    ++ (codes " is unknown" ++ in_line (end_of table at)))

-- what is wrong with the read: `, but wrote x 7 before (line 8)`,
-- `, which 2.1 wrote (line 4), and 2.1 was aborted (line 5)`,
-- `, which 2.1 wrote (line 4) and overwrote with 6 (line 5)`,
-- or `, which it writes itself only later (line 10)`
unfoldable pub why_text : Table → List ClientSession → OpAt → Why → List ℕ
why_text table ss read (why.MissesOwn write) =
    codes ", but wrote " ++ (key_at ss (op_of read.txn write) ++ (codes " "
    ++ (decimal (wid_at ss (op_of read.txn write)) ++ (codes " before"
    ++ in_line (line_of table (op_of read.txn write))))))
why_text table ss read why.Unwritten = codes ", which nobody wrote"
why_text table ss read (why.Aborted write) = wrote_text table ss write
    ++ outcome_text table ss write.txn (outcome_at ss write.txn)
why_text table ss read (why.Overwritten write later) =
    wrote_text table ss write ++ (codes " and overwrote with "
    ++ (decimal (wid_at ss (op_of write.txn later))
    ++ in_line (line_of table (op_of write.txn later))))
why_text table ss read (why.OwnLater write) = codes ", which it writes itself only later"
    ++ in_line (line_of table (op_of read.txn write))

unfoldable pub short_fault : Table → List ClientSession → OpAt → List ℕ → List ℕ
short_fault table ss read words = codes "in short: " ++ (name_text table ss read.txn ++ (words
    ++ does_text table ss (codes " reads ") read))

abbrev pub fault_text : Table → List ClientSession → Fault → List ℕ
fault_text table ss fault = short_fault table ss fault.read (short_why table ss fault.why)
    ++ why_text table ss fault.read fault.why ++ codes "\n"

-- ---- the whole
abbrev pub evidence_text : Table → List ClientSession → Evidence → List ℕ
evidence_text table ss (evidence.Fault fault) = fault_text table ss fault
evidence_text table ss (evidence.Circle edges) = circle_text table ss edges.items
evidence_text table ss (evidence.Initial o) = initial_text table ss o
