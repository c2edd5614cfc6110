-- The code and the line of each fault.
use Rattle.std.specs.Prelude.{ℕ, List, codes, Option, Some, None}
use Rattle.session_log.specs.declared.fault.Limit.{Limit}
use Rattle.session_log.specs.declared.fault.Limit.TheVariants as limit
use Rattle.session_log.specs.declared.fault.LogFault.{LogFault}
use Rattle.session_log.specs.declared.fault.LogFault.TheVariants as fault

abbrev pub limit_code : Limit → List ℕ
limit_code limit.LogBytes = codes "L7 log-bytes"
limit_code limit.Sessions = codes "L7 sessions"
limit_code limit.Operations = codes "L7 operations"
limit_code limit.Committed = codes "L7 committed"
limit_code limit.Keys = codes "L7 keys"

-- the code, and of a limit its name
abbrev pub code_of : LogFault → List ℕ
code_of (fault.BadLine line) = codes "L1"
code_of (fault.SessionTwice line) = codes "L2"
code_of (fault.OutsideTransaction line) = codes "L3"
code_of (fault.OpenTransaction line) = codes "L4"
code_of (fault.WriteZero line) = codes "L5"
code_of (fault.WriteTwice line) = codes "L6"
code_of (fault.OverLimit which) = limit_code which
code_of fault.Memory = codes "L8"
code_of (fault.UnknownNotLast line) = codes "L9"
code_of (fault.EndsBeforeBegin line) = codes "L10"

-- the line, where there is one
abbrev pub line_of : LogFault → Option ℕ
line_of (fault.BadLine line) = Some line
line_of (fault.SessionTwice line) = Some line
line_of (fault.OutsideTransaction line) = Some line
line_of (fault.OpenTransaction line) = Some line
line_of (fault.WriteZero line) = Some line
line_of (fault.WriteTwice line) = Some line
line_of (fault.OverLimit which) = None
line_of fault.Memory = None
line_of (fault.UnknownNotLast line) = Some line
line_of (fault.EndsBeforeBegin line) = Some line
