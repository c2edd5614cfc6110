-- Why a call ends without an answer: the line that says so, and the exit status.
use Rattle.std.specs.Prelude.{◌≡◌, ◌≢◌, ◌⊎◌, ℕ, List, ◌++◌, codes, string_bytes, String, Result, Ok, Err}
use Rattle.std.specs.declared.alloc.Global.{Global}
use Rattle.session_log.specs.declared.fault.LogFault.{LogFault}
use Rattle.session_log.specs.declared.fault.LogFault.TheVariants.{Memory}
use Rattle.long_log_definitions.specs.declared.limits.TheConstants.{MAX_LONG_LOG_BYTES}
use Rattle.fault_words.specs.Codes.{IsRefusalLine}
use Rattle.output.specs.Sinks.{one_more}
use Rattle.proof_text.specs.Refusals.{proof_refusal, proof_status}
use Rattle.cobra_answers.specs.declared.fault.Fault.TheVariants as fault
use Rattle.cobra_answers.specs.declared.stop.Stop.TheVariants as stop
use Rattle.cobra_answers.specs.Failures.{failures_after}
use Rattle.cobra_answers.specs.Refusals.{stop_line, stop_status}
use Rattle.refute_command.specs.declared.refusal.Refusal.{Refusal}
use Rattle.refute_command.specs.declared.refusal.Refusal.TheVariants as refusal
use Rattle.cobra_calls.specs.declared.ending.Ending.{Ending}
use Rattle.cobra_calls.specs.declared.ending.Ending.TheVariants.{Stop, Proof, Told}

abbrev pub out_of_memory : Ending
out_of_memory = Stop (stop.Refused fault.Memory)

-- a refusal of `refute`
abbrev pub ending_of : Refusal → Ending
ending_of (refusal.Command f) = Stop (stop.Refused f)
ending_of (refusal.Proof e) = Proof e

-- a line with its status, where there was memory for it
abbrev pub told_as : {E : Type 0} → Result (String Global) E → ℕ → Ending
told_as (Ok line) status = Told line status
told_as (Err e) status = out_of_memory

-- the line of an ending, without its line feed
abbrev pub line_of : Ending → List ℕ
line_of (Stop s) = stop_line s
line_of (Proof e) = proof_refusal e
line_of (Told line status) = string_bytes line

abbrev pub status_of : Ending → ℕ
status_of (Stop s) = stop_status s
status_of (Proof e) = proof_status e
status_of (Told line status) = status

-- ---- lines that are told

-- such a line is told with this status, or memory was refused
abbrev pub IsToldSo : (List ℕ → Type 0) → ℕ → Ending → Type 0
IsToldSo Says status (Stop s) = s ≡ stop.Refused fault.Memory
IsToldSo Says status (Proof e) = ⊥
IsToldSo Says status (Told line told) = Says (string_bytes line) × (told ≡ status)

-- why a long log of this name is refused
abbrev pub IsRefusedBy : List ℕ → LogFault → List ℕ → Type 0
IsRefusedBy name f line = (f ≢ Memory) × IsRefusalLine MAX_LONG_LOG_BYTES name f line

abbrev pub IsLogRefusal : List ℕ → LogFault → Ending → Type 0
IsLogRefusal name f e = IsToldSo (IsRefusedBy name f) 2 e

-- this line, of words that ask for what there is not
abbrev pub IsUsage : List ℕ → Ending → Type 0
IsUsage text e = IsToldSo (λ line. line ≡ text) 2 e

-- the line of a file or a directory of this name that cannot be read or written; the reason is free
abbrev pub IsUnusableLine : List ℕ → List ℕ → Type 0
IsUnusableLine name line = (why : List ℕ) × (line ≡ name ++ (codes ": " ++ why))

abbrev pub IsUnusable : List ℕ → Ending → Type 0
IsUnusable name e = IsToldSo (IsUnusableLine name) 5 e

-- ---- devices

-- how many calls of the output failed, after a call of the program that ends so
abbrev pub failures_by : ℕ → Ending → ℕ
failures_by before (Stop (stop.Refused f)) = failures_after before (Err f)
failures_by before (Stop stop.Output) = one_more before
failures_by before _ = before

-- the output failed in this call exactly where it is told that it did
abbrev pub output_failures : {T : Type 0} → ℕ → Result T Ending → ℕ
output_failures before (Ok x) = before
output_failures before (Err e) = failures_by before e

-- memory was refused; or a read failed, of which there were so many before and after, and it is told
abbrev pub IsReadFailure : (Ending → Type 0) → ℕ → ℕ → Ending → Type 0
IsReadFailure IsTold before after e =
    (e ≡ out_of_memory) ⊎ (IsTold e × (after ≡ one_more before))

abbrev pub IsUnread : ℕ → ℕ → Ending → Type 0
IsUnread before after e = IsReadFailure (λ told. told ≡ Stop stop.Input) before after e
