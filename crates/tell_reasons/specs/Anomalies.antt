-- How an anomaly is told: the reads that show it, who wrote what they name, and what their
-- transactions did with the key besides. Operations count from 0.
use Rattle.std.specs.Prelude.{ℕ, ◌+◌, ◌-◌, ◌&&◌, ◌==◌, Bool, List, [], ◌++◌, drop, position, codes, decimal, slice_get, Option, None, Some, nat_lt, if◌then◌else◌}
use Rattle.std.specs.Option.{option_map, option_map_or}
use Rattle.std.specs.Str.{bytes_eq}
use Rattle.session_log.specs.Text.{key_of, is_write}
use Rattle.session_log.specs.declared.session.Op.{Op}
use Rattle.session_log.specs.declared.session.Outcome.{Outcome}
use Rattle.session_log.specs.declared.session.Outcome.TheVariants.{Commit, Abort, Unknown}
use Rattle.serializability.specs.declared.anomaly.Anomaly.{Anomaly}
use Rattle.serializability.specs.declared.anomaly.Anomaly.TheVariants as anomaly
use Rattle.log_definitions.specs.Numbers.{log_of}
use Rattle.order_text.specs.Text.{name_text}
use Rattle.log_lines.specs.Rows.{TxnRow, line_at}
use Rattle.log_lines.specs.Placed.{table_in, op_line_in}
use Rattle.log_lines.specs.declared.placed.PlacedHistory.{PlacedHistory}
use Rattle.tell_reasons.specs.Reasons.{named, in_line, op_at, op_in_line, key_text, op_wid, does_text, key_bytes, key_and_wid}
use Rattle.tell_reasons.specs.Versions.{left_at, read_at, written_before, other_before}
use Rattle.tell_reasons.specs.Writes.{OpOf, first_op, is_write_as}

-- a write of the key
abbrev pub is_write_of : List ℕ → Op → Bool
is_write_of key op = is_write op && bytes_eq key (key_of op)

-- the place of the first that passes behind place i
abbrev pub next_position : {X : Type 0} → (X → Bool) → List X → ℕ → Option ℕ
next_position passes xs i = option_map (λ more. i + 1 + more) (position passes (drop (i + 1) xs))

-- ---- who wrote what a read names
-- the transaction wrote the key again, at this place
unfoldable pub overwrote_text : List Op → TxnRow → Option ℕ → List ℕ
overwrote_text ops row again = option_map_or (λ i. codes " and overwrote with "
    ++ decimal (op_wid (slice_get ops i)) ++ in_line (line_at row i)) again []

-- it is not committed
abbrev pub outcome_text : Outcome → ℕ → List ℕ
outcome_text Commit line = []
outcome_text Abort line = codes " and aborted" ++ in_line line
outcome_text Unknown line = codes ", whose outcome is unknown" ++ in_line line

-- the read in this line stands in the transaction that begins at line `begin`, in front of its
-- write in line `written`, or it does not
abbrev pub verb_text : ℕ → ℕ → ℕ → List ℕ
verb_text read begin written = if nat_lt begin read && nat_lt read written then
    codes " writes itself only later" else codes " wrote"

-- what stands in line `read` was written by this operation
abbrev pub wrote_text : ℕ → List ℕ → OpOf → List ℕ
wrote_text read key w =
    codes ", which " ++ name_text (w.session, w.row.place)
    ++ verb_text read w.row.begin (line_at w.row w.i) ++ in_line (line_at w.row w.i)
    ++ overwrote_text w.txn.ops w.row (next_position (is_write_of key) w.txn.ops w.i)
    ++ outcome_text w.txn.outcome w.row.end

-- nobody wrote the identity to this key, but this operation to another one
abbrev pub elsewhere_text : List ℕ → OpOf → List ℕ
elsewhere_text key w =
    codes ", which no transaction wrote to " ++ key ++ codes "; "
    ++ name_text (w.session, w.row.place) ++ codes " wrote "
    ++ key_and_wid (slice_get w.txn.ops w.i) ++ in_line (line_at w.row w.i)

-- by the write of the identity to this key, or else the first one to any
abbrev pub written_text : ℕ → List ℕ → Option OpOf → Option OpOf → List ℕ
written_text read key (Some w) any = wrote_text read key w
written_text read key None (Some w) = elsewhere_text key w
written_text read key None None = codes ", which no transaction wrote"

-- who wrote what the read in line `read` names, this identity of this key
unfoldable pub writer_text : PlacedHistory → ℕ → List ℕ → ℕ → List ℕ
writer_text log read key wid = if wid == 0 then codes ", the initial value" else
    written_text read key (first_op (is_write_as (Some key) wid) log.history.now (table_in log))
    (first_op (is_write_as None wid) log.history.now (table_in log))

-- ---- a read
-- the line of operation i of node v, in these words, and who wrote what it names
unfoldable pub read_text : PlacedHistory → ℕ → List ℕ → ℕ → List ℕ
read_text log v reads i =
    does_text log v reads i
    ++ writer_text log (op_line_in log v i) (key_text (op_at log.history.now v i))
    (op_wid (op_at log.history.now v i)) ++ codes "\n"

-- behind what the transaction did with the key before: this write, else this read, else nothing
abbrev pub then_read_text : PlacedHistory → ℕ → Option ℕ → Option ℕ → ℕ → List ℕ
then_read_text log v (Some write) other i = (does_text log v (codes " writes ") write ++ codes "\n")
    ++ read_text log v (codes " then reads ") i
then_read_text log v None (Some other) i = read_text log v (codes " reads ") other
    ++ read_text log v (codes " then reads ") i
then_read_text log v None None i = read_text log v (codes " reads ") i

-- a read that is an anomaly, operation i of node v, behind the latest write of the key before it, else
-- behind its first read that names another identity
unfoldable pub bad_read_text : PlacedHistory → ℕ → ℕ → List ℕ
bad_read_text log v i = then_read_text log v (written_before log.history.now v i)
    (other_before log.history.now v i) i

-- ---- a lost update
-- node v writes the key last at operation i
abbrev pub overwrites_text : PlacedHistory → ℕ → ℕ → List ℕ
overwrites_text log v i = named log v ++ (codes " overwrites it with "
    ++ (decimal (op_wid (op_at log.history.now v i)) ++ (op_in_line log v i ++ codes "\n")))

-- its first read of key number x, and its last write of it
unfoldable pub update_text : PlacedHistory → ℕ → ℕ → List ℕ
update_text log x v =
    option_map_or (read_text log v (codes " reads ")) (read_at log.history.now x v) []
    ++ option_map_or (overwrites_text log v) (left_at log.history.now x v) []

-- which of two nodes did not see what the other wrote: of one session the second, else both
unfoldable pub unseen_text : PlacedHistory → ℕ → ℕ → List ℕ
unseen_text log a b =
    if (log_of log.history.now).session a == (log_of log.history.now).session b
    then named log b ++ (codes " did not see " ++ (named log a ++ codes "'s\n"))
    else codes "neither saw the other's\n"

-- two updates of key number x: in a sentence, and of each its first read and its last write
unfoldable pub both_text : PlacedHistory → ℕ → ℕ → ℕ → List ℕ
both_text log x a b = codes "in short: " ++ (named log a ++ (codes " and " ++ (named log b
    ++ (codes " read one version of " ++ (key_bytes log.history.now x
    ++ codes " and both overwrote it; ")))))

unfoldable pub updates_text : PlacedHistory → ℕ → ℕ → ℕ → List ℕ
updates_text log x a b =
    both_text log x a b ++ unseen_text log a b ++ update_text log x a ++ update_text log x b

-- ---- an anomaly, whose operations count from 1
abbrev pub anomaly_text : PlacedHistory → Anomaly → List ℕ
anomaly_text log (anomaly.Read kind v op) = bad_read_text log v (op - 1)
anomaly_text log (anomaly.LostUpdate x u a b) = updates_text log x a b
