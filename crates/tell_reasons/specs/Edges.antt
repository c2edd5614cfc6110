-- How it is told why one node stands before another, in a line.
use Rattle.std.specs.Prelude.{ℕ, ◌==◌, if◌then◌else◌, List, ◌++◌, codes, decimal, unwrap_or}
use Rattle.tell_reasons.specs.declared.why.Why.{Why}
use Rattle.tell_reasons.specs.declared.why.Why.TheVariants as why
use Rattle.log_definitions.specs.Serial.{begun_of, ended_of}
use Rattle.log_definitions.specs.Numbers.{log_of}
use Rattle.log_lines.specs.Placed.{begin_in, end_line_in}
use Rattle.reasons.specs.declared.reason.Reason.{Reason}
use Rattle.reasons.specs.declared.reason.Reason.TheVariants as reason
use Rattle.tell_reasons.specs.Reasons.{named, op_at, op_in_line, op_wid, in_line, key_and_wid, reads_text, wrote_text}
use Rattle.tell_reasons.specs.Versions.{behind_text, held_text, version_text, whose_text}
use Rattle.log_lines.specs.declared.placed.PlacedHistory.{PlacedHistory}

-- whether operation i of node v names the initial value itself, or an update of it
abbrev pub origin_text : PlacedHistory → ℕ → ℕ → List ℕ
origin_text log v i = if op_wid (op_at log.history.now v i) == 0 then codes ", the initial value"
    else behind_text log 0 v i

abbrev pub reason_text : PlacedHistory → ℕ → ℕ → Reason → List ℕ
reason_text log a b reason.Session = codes "session " ++ decimal ((log_of log.history.now).session a)
reason_text log a b (reason.Read written read) = reads_text log b read ++ wrote_text log a written
reason_text log a b (reason.Overwritten read overwrites) =
    reads_text log a read ++ whose_text log a read ++ codes ", and " ++ named log b
    ++ codes ", which reads it too, overwrites it with "
    ++ decimal (op_wid (op_at log.history.now b overwrites)) ++ op_in_line log b overwrites
reason_text log a b (reason.Initial read begins) =
    reads_text log a read ++ origin_text log a read ++ codes ", and " ++ named log b
    ++ codes " wrote " ++ key_and_wid (op_at log.history.now b begins)
    ++ op_in_line log b begins
reason_text log a b reason.Moments =
    named log a ++ codes " ended at " ++ decimal (unwrap_or (ended_of log.history.now a) 0)
    ++ in_line (end_line_in log a) ++ codes ", " ++ named log b ++ codes " began at "
    ++ decimal (unwrap_or (begun_of log.history.now b) 0) ++ in_line (begin_in log b)

-- the log shows it; or what a has of the key of this order, by a step, or by supposition, comes before
-- what b wrote of it: `7.1 reads y 3 (line 30) of 3.1, which by [1] comes before 4, which 4.1 wrote
-- (line 15)`
abbrev pub because_text : PlacedHistory → ℕ → ℕ → Why → List ℕ
because_text log a b (why.Known r) = reason_text log a b r
because_text log a b (why.Forced number o) = held_text log o.key o.first a
    ++ (codes ", which by [" ++ decimal number) ++ (codes "] comes before " ++ version_text log o.key b)
because_text log a b (why.Chosen o) = held_text log o.key o.first a
    ++ (codes ", which by supposition comes before " ++ version_text log o.key b)

abbrev pub why_text : PlacedHistory → ℕ → ℕ → Why → List ℕ
why_text log a b w = (named log a ++ codes " before " ++ named log b ++ codes ": ")
    ++ because_text log a b w ++ codes "\n"
