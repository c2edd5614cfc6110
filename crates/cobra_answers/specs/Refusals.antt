-- The line that is printed of a refusal, without its line feed, and its exit status.
use Rattle.std.specs.Prelude.{ℕ, Bool, true, false, if◌then◌else◌, List, [], ◌++◌, codes, decimal}
use Rattle.std.specs.Prelude.{Option, Some, None}
use Rattle.session_log.specs.Codes.{code_of, line_of}
use Rattle.session_log.specs.declared.fault.LogFault.{LogFault}
use Rattle.session_log.specs.declared.fault.LogFault.TheVariants as log
use Rattle.polygraph.specs.declared.fault.PolyFault.{PolyFault}
use Rattle.polygraph.specs.declared.fault.PolyFault.TheVariants as poly
use Rattle.order_cnf.specs.declared.fault.CnfFault.{CnfFault}
use Rattle.order_cnf.specs.declared.fault.CnfFault.TheVariants as cnf
use Rattle.dimacs.specs.declared.answer.AnswerFault.{AnswerFault}
use Rattle.dimacs.specs.declared.answer.AnswerFault.TheVariants as answer
use Rattle.order_text.specs.declared.fault.OrderFault.{OrderFault}
use Rattle.order_text.specs.declared.fault.OrderFault.TheVariants as order
use Rattle.cobra_answers.specs.declared.fault.Fault.{Fault}
use Rattle.cobra_answers.specs.declared.fault.Fault.TheVariants as fault
use Rattle.cobra_answers.specs.declared.stop.Stop.{Stop}
use Rattle.cobra_answers.specs.declared.stop.Stop.TheVariants.{Refused, Words, Input, Output}

-- the fault of a polygraph that has too many choices, as a command tells it
abbrev pub poly_refusal : PolyFault → Fault
poly_refusal poly.TooManyChoices = fault.Formula cnf.TooManyChoices
poly_refusal poly.Memory = fault.Memory

abbrev pub memory_line : List ℕ
memory_line = codes "out of memory"

abbrev pub input_line : List ℕ
input_line = codes "device failed: input"

abbrev pub output_line : List ℕ
output_line = codes "device failed: output"

-- the line, where there is one
abbrev pub line_told : Option ℕ → List ℕ
line_told None = []
line_told (Some line) = codes " line " ++ decimal line

abbrev pub is_memory : LogFault → Bool
is_memory log.Memory = true
is_memory _ = false

abbrev pub log_refusal : LogFault → List ℕ
log_refusal f = if is_memory f then memory_line
    else codes "refused: " ++ code_of f ++ line_told (line_of f)

abbrev pub formula_refusal : CnfFault → List ℕ
formula_refusal cnf.TooManyChoices = codes "refused: G1"
formula_refusal cnf.TooManyForPlain = codes "refused: G2"
formula_refusal cnf.FormulaTooLarge = codes "refused: G3"
formula_refusal cnf.Memory = memory_line

abbrev pub answer_refusal : AnswerFault → List ℕ
answer_refusal (answer.BadLine line) = codes "refused: M1 line " ++ decimal line
answer_refusal (answer.TwoStatus line) = codes "refused: M2 line " ++ decimal line
answer_refusal answer.NoStatus = codes "refused: M3"
answer_refusal (answer.OutOfRange line) = codes "refused: M4 line " ++ decimal line
answer_refusal (answer.BothSigns line) = codes "refused: M5 line " ++ decimal line
answer_refusal answer.Unclosed = codes "refused: M6"
answer_refusal answer.Memory = memory_line
answer_refusal answer.TooLong = codes "refused: M8"

abbrev pub order_refusal : OrderFault → List ℕ
order_refusal (order.BadLine line) = codes "refused: O1 line " ++ decimal line
order_refusal (order.NoSuchTransaction line) = codes "refused: O2 line " ++ decimal line
order_refusal order.TooLong = codes "refused: O3"
order_refusal order.Memory = memory_line

-- a code, and a transaction by the number of its session and its place there
abbrev pub at_transaction : List ℕ → ℕ → ℕ → List ℕ
at_transaction code session place = code ++ decimal session ++ codes "." ++ decimal place

abbrev pub refusal : Fault → List ℕ
refusal (fault.Log f) = log_refusal f
refusal (fault.Formula f) = formula_refusal f
refusal (fault.Answer f) = answer_refusal f
refusal (fault.NotAModel clause) = codes "refused: E1 clause " ++ decimal clause
refusal (fault.Order f) = order_refusal f
refusal fault.NotAPermutation = codes "refused: P1"
refusal (fault.SessionOrder session place) = at_transaction (codes "refused: P2 ") session place
refusal (fault.MomentOrder session place) = at_transaction (codes "refused: P5 ") session place
refusal (fault.ReadMismatch session place op) = at_transaction
    (codes "refused: P3 ") session place ++ codes " op " ++ decimal op
refusal (fault.Device written) = output_line
refusal fault.Memory = memory_line

-- the line of a call that ends without an answer
abbrev pub stop_line : Stop → List ℕ
stop_line (Refused f) = refusal f
stop_line Words = codes "error: invalid UTF-8 was detected in one or more arguments"
stop_line Input = input_line
stop_line Output = output_line

-- ---- exit statuses: 2 for refused input, 4 for want of memory, 5 for a failed device
abbrev pub refusal_status : Fault → ℕ
refusal_status (fault.Log log.Memory) = 4
refusal_status (fault.Formula cnf.Memory) = 4
refusal_status (fault.Answer answer.Memory) = 4
refusal_status (fault.Order order.Memory) = 4
refusal_status (fault.Device written) = 5
refusal_status fault.Memory = 4
refusal_status _ = 2

abbrev pub stop_status : Stop → ℕ
stop_status (Refused f) = refusal_status f
stop_status Words = 2
stop_status Input = 5
stop_status Output = 5
