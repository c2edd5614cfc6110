-- What a call of the program leaves in the world, and its exit status, by its words.
use Rattle.std.specs.Prelude.{◌≡◌, ℕ, List, map, string_bytes, Option, None, Some, Result, Ok, Err, Vec, String}
use Rattle.std.specs.IoError.{error_kind}
use Rattle.std.specs.declared.alloc.Global.{Global}
use Rattle.std.specs.declared.io.Error.{Error}
use Rattle.std.specs.declared.io.ErrorKind.{ErrorKind}
use Rattle.std.specs.declared.io.ErrorKind.TheVariants.{OutOfMemory}
use Rattle.std.specs.declared.time.Instant.{Instant}
use Rattle.clap.specs.Values.{kind_of}
use Rattle.cobra_answers.specs.declared.stop.Stop.TheVariants as stop
use Rattle.cobra_words.specs.Asked.{IsRead}
use Rattle.cobra_words.specs.declared.request.Request.{Request}
use Rattle.cobra_words.specs.declared.request.Command.{Command}
use Rattle.cobra_words.specs.declared.request.Command.TheVariants as command
use Rattle.cobra_words.specs.declared.request.Words.{Words}
use Rattle.cobra_words.specs.declared.request.Words.TheVariants.{Request as Asked, Shown}
use Rattle.cobra_calls.specs.declared.ending.Ending.{Ending}
use Rattle.cobra_calls.specs.declared.ending.Ending.TheVariants.{Stop}
use Rattle.cobra_calls.specs.Endings.{out_of_memory}
use Rattle.cobra_calls.specs.Worlds.{IsAnswered, AreReads}
use Rattle.cobra_program.specs.Left.{Left, EndsBefore, IsNothingDone, IsUntouched}
use Rattle.cobra_program.specs.Texts.{IsShown}
use Rattle.cobra_program.specs.Audits.{IsAuditAnswered}

-- how a call ends whose words cannot be had
abbrev pub words_ending : ErrorKind → Ending
words_ending OutOfMemory = out_of_memory
words_ending _ = Stop stop.Words

-- what a request asks for is done: `audit` writes files, no other command does
abbrev pub IsServedBy : Command → Option Instant → Request → Left → ℕ → Type 0
IsServedBy (command.Audit words) start r c status = IsAuditAnswered start r words c status
IsServedBy _ start r c status = IsAnswered r c.seen status × (c.later_files ≡ c.files)

-- and no more was read than the log and the file that the command names, each once
abbrev pub IsServed : Option Instant → Request → Left → ℕ → Type 0
IsServed start r c status = IsServedBy r.command start r c status
    × AreReads r.command c.reads c.later_reads

-- what words ask for that were read so: a request is served, or a text is shown; or there is neither,
-- and nothing is told
abbrev pub IsFollowed : Option Instant → Option Words → Left → ℕ → Type 0
IsFollowed start None c status = IsUntouched c × (status ≡ 2)
IsFollowed start (Some (Asked r)) c status = IsServed start r c status
IsFollowed start (Some (Shown text)) c status =
    IsShown (kind_of text) c.seen status × IsNothingDone c

-- a call with these words, of which the first is the program's name
pub data IsCall (start : Option Instant) (words : List (List ℕ)) (c : Left) (status : ℕ)
    : Type 0 where
  by_words : (read : Option Words) → IsRead words read → IsFollowed start read c status
      → IsCall start words c status
  by_memory : EndsBefore out_of_memory c status → IsCall start words c status

-- a call that began then, with its words, or why they cannot be had
abbrev pub IsProgram : Option Instant → Result (Vec (String Global) Global) Error → Left → ℕ
    → Type 0
IsProgram start (Ok words) c status = IsCall start (map string_bytes words.items) c status
IsProgram start (Err e) c status = EndsBefore (words_ending (error_kind e)) c status
