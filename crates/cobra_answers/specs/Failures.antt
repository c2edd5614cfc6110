-- How a command's end shows in the sink's count of failures, and in the program's exit status.
use Rattle.std.specs.Prelude.{ℕ, Result, Ok, Err}
use Rattle.output.specs.Sinks.{one_more}
use Rattle.cobra_answers.specs.declared.status.Status.{Status}
use Rattle.cobra_answers.specs.declared.status.Status.TheVariants.{Done, NotSerializable, Unknown}
use Rattle.cobra_answers.specs.declared.fault.Fault.{Fault}
use Rattle.cobra_answers.specs.declared.fault.Fault.TheVariants.{Device, Memory}
use Rattle.cobra_answers.specs.declared.source.ReadFault.{ReadFault}
use Rattle.cobra_answers.specs.declared.source.ReadFault.TheVariants as read
use Rattle.cobra_answers.specs.declared.stop.Stop.{Stop}
use Rattle.cobra_answers.specs.declared.stop.Stop.TheVariants.{Refused, Input}

-- the sink failed in this call exactly where it is refused for that
abbrev pub failures_after : ℕ → Result Status Fault → ℕ
failures_after before (Ok s) = before
failures_after before (Err (Device written)) = one_more before
failures_after before (Err _) = before

abbrev pub code_of : Status → ℕ
code_of Done = 0
code_of NotSerializable = 1
code_of Unknown = 3

-- how a source that was not read to its end stops the program
abbrev pub read_stop : ReadFault → Stop
read_stop read.Device = Input
read_stop read.Memory = Refused Memory
