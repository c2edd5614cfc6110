-- What the call of a request does, given the bytes of the log and of the file that the request names
-- beside it: what is told, and how the call ends.
use Rattle.std.specs.Prelude.{◌≡◌, ℕ, Bool, true, false, List, Option, option_map, unwrap_or, codes}
use Rattle.session_log.specs.Text.{ClientSession}
use Rattle.session_log.specs.Version.{version_of}
use Rattle.cobra_answers.specs.Answers.{IsTold, IsRefused}
use Rattle.cobra_answers.specs.declared.status.Status.{Status}
use Rattle.cobra_answers.specs.declared.status.Status.TheVariants.{Done}
use Rattle.cobra_answers.specs.declared.fault.Fault.{Fault}
use Rattle.cobra_answers.specs.declared.stop.Stop.TheVariants as stop
use Rattle.cobra_cli.specs.Checked.{IsVerdict, IsUndecided}
use Rattle.cobra_cli.specs.Explained.{IsExplanation}
use Rattle.cobra_cli.specs.Commands as cli
use Rattle.refute_command.specs.Refuted as refute
use Rattle.solve_command.specs.Solved as solve
use Rattle.split_command.specs.Told as split
use Rattle.census_command.specs.Told as census
use Rattle.proof_text.specs.declared.fault.ProofFault.{ProofFault}
use Rattle.cobra_words.specs.declared.request.Request.{Request}
use Rattle.cobra_words.specs.declared.request.Command.{Command}
use Rattle.cobra_words.specs.declared.request.Command.TheVariants as command
use Rattle.cobra_calls.specs.declared.ending.Ending.{Ending}
use Rattle.cobra_calls.specs.declared.ending.Ending.TheVariants as ending
use Rattle.cobra_calls.specs.Splits.{IsSplitEnding}
use Rattle.cobra_calls.specs.Censuses.{IsCensusEnding}
use Rattle.cobra_calls.specs.Explains.{IsExplainEnding}

-- the bytes that a call reads: those of the log, and those of the file that the request names beside
-- it (a solver's answer, a proof, an order)
pub record Reads : Type 0 where
  pub log : List ℕ
  pub named : List ℕ

-- the name of the log
abbrev pub log_name : Request → List ℕ
log_name r = unwrap_or (option_map (λ s. s.now) r.log) (codes "-")

-- the commands that read a log that is not long
abbrev pub is_plain : Command → Bool
is_plain command.Encode = true
is_plain (command.Decode model) = true
is_plain (command.Refute proof) = true
is_plain (command.Solve conflicts) = true
is_plain command.Check = true
is_plain (command.Verify order) = true
is_plain command.Stats = true
is_plain (command.Explain format) = true
is_plain (command.Audit words) = false
is_plain command.Split = true
is_plain command.Census = true

-- ---- what a command says of the sessions of a log: how it ends, and its text
abbrev pub Says : Command → Request → Reads → List ClientSession → Status → List ℕ → Type 0
Says command.Encode r read = cli.IsEncoding r.plain
Says (command.Decode model) r read = cli.IsDecoding r.plain read.named
Says (command.Refute proof) r read = refute.IsRefutation r.plain read.named
Says (command.Solve conflicts) r read = solve.IsSolution r.plain conflicts
Says command.Check r read = IsVerdict r.budget
Says (command.Verify order) r read = cli.IsVerified read.named
Says command.Stats r read = cli.IsCounting r.plain (version_of read.log)
Says (command.Explain format) r read = IsExplanation r.budget (version_of read.log) format
Says (command.Audit words) r read = λ _ _ _. ⊥
Says command.Split r read = λ _ _ _. ⊥
Says command.Census r read = λ _ _ _. ⊥

-- why it says nothing of them
abbrev pub Refuses : Command → Request → Reads → Fault → List ClientSession → Type 0
Refuses command.Encode r read = cli.HasNoFormula r.plain
Refuses (command.Decode model) r read = cli.IsNotDecoded r.plain read.named
Refuses (command.Refute proof) r read = refute.HasNoFormula r.plain
Refuses (command.Solve conflicts) r read = solve.HasNoFormula r.plain
Refuses command.Check r read = IsUndecided
Refuses (command.Verify order) r read = cli.IsNotVerified read.named
Refuses command.Stats r read = cli.HasNoFormula r.plain
Refuses (command.Explain format) r read = IsUndecided
Refuses (command.Audit words) r read = λ _ _. ⊥
Refuses command.Split r read = λ _ _. ⊥
Refuses command.Census r read = λ _ _. ⊥

-- ---- what a call does that ends with an answer
abbrev pub IsDoneBy : Command → Request → Reads → Option (List ℕ) → Option (List ℕ) → Status
    → Type 0
IsDoneBy command.Split r read old new status = split.IsTold read.log old new × (status ≡ Done)
IsDoneBy command.Census r read old new status = census.IsTold read.log old new status
IsDoneBy c r read old new status = IsTold (Says c r read) read.log old new status

abbrev pub IsDone : Request → Reads → Option (List ℕ) → Option (List ℕ) → Status → Type 0
IsDone r read old new status = IsDoneBy r.command r read old new status

-- ---- what a call does that ends without one
-- the proof of a call of `refute` is refused
abbrev pub IsProofEnding : Command → Request → Reads → Option (List ℕ) → Option (List ℕ)
    → ProofFault → Type 0
IsProofEnding (command.Refute proof) r read old new e =
    refute.IsRefusedForProof r.plain read.named read.log old new e
IsProofEnding _ r read old new e = ⊥

abbrev pub IsEndedBy : Command → Request → Reads → Option (List ℕ) → Option (List ℕ) → Ending
    → Type 0
IsEndedBy command.Split r read old new e = IsSplitEnding (log_name r) read.log old new e
IsEndedBy command.Census r read old new e = IsCensusEnding (log_name r) read.log old new e
IsEndedBy (command.Explain format) r read old new e =
    IsExplainEnding (log_name r) read.log r.budget format old new e
IsEndedBy c r read old new (ending.Stop (stop.Refused f)) =
    IsRefused (Says c r read) (Refuses c r read) read.log old new f
IsEndedBy c r read old new (ending.Proof e) = IsProofEnding c r read old new e
IsEndedBy c r read old new _ = ⊥

abbrev pub IsEnded : Request → Reads → Option (List ℕ) → Option (List ℕ) → Ending → Type 0
IsEnded r read old new e = IsEndedBy r.command r read old new e
