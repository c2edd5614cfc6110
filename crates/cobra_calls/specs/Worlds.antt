-- What a call reads of the world, and what it leaves there.
use Rattle.std.specs.Prelude.{◌≡◌, ◌⊎◌, ℕ, ◌+◌, List, [], ◌∷◌, ◌++◌, take, ⊤, Option, Some, None, Bool, true, false, if◌then◌else◌, Result, Ok, Err}
use Rattle.std.specs.Borrow.{Bor}
use Rattle.std.specs.Io.KnownBytes.{Keeps, Appends}
use Rattle.output.specs.Sinks.{one_more}
use Rattle.session_log.specs.declared.limits.TheConstants.{MAX_LOG_BYTES}
use Rattle.long_log_definitions.specs.declared.limits.TheConstants.{MAX_LONG_LOG_BYTES}
use Rattle.dimacs.specs.declared.read.TheConstants.{MAX_ANSWER_BYTES}
use Rattle.order_text.specs.declared.read.TheConstants.{MAX_ORDER_BYTES}
use Rattle.proof_text.specs.declared.TheConstants.{MAX_PROOF_BYTES}
use Rattle.cobra_answers.specs.Failures.{code_of}
use Rattle.cobra_answers.specs.declared.status.Status.{Status}
use Rattle.cobra_answers.specs.declared.stop.Stop.TheVariants as stop
use Rattle.cobra_words.specs.declared.request.Request.{Request}
use Rattle.cobra_words.specs.declared.request.Command.{Command}
use Rattle.cobra_words.specs.declared.request.Command.TheVariants as command
use Rattle.cobra_calls.specs.declared.ending.Ending.{Ending}
use Rattle.cobra_calls.specs.declared.ending.Ending.TheVariants as ending
pub use Rattle.cobra_calls.specs.Handed.{TellsFront}
use Rattle.cobra_calls.specs.Calls.{Reads, log_name, IsDone, IsEnded}
use Rattle.cobra_calls.specs.declared.world.Unread.{Unread}
use Rattle.cobra_calls.specs.declared.world.Unread.TheVariants as unread
use Rattle.cobra_calls.specs.Endings.{line_of, status_of, failures_by, IsUnusable, IsUnread, IsReadFailure}

-- the bytes of files by their names, where they are known
abbrev pub Held : Type 0
Held = List ℕ → Option (List ℕ)

-- ---- one text

-- the bytes, or of more than the limit one more than that
abbrev pub IsReadUpTo : Option (List ℕ) → ℕ → List ℕ → Type 0
IsReadUpTo None limit text = ⊤
IsReadUpTo (Some bytes) limit text = text ≡ take (limit + 1) bytes

-- ---- what a call reads

-- the bytes of the file of this name, or of standard input
abbrev pub source_of : Option (List ℕ) → Held → Option (Bor (List ℕ)) → Option (List ℕ)
source_of given held None = given
source_of given held (Some name) = held name.now

abbrev pub bytes_of : Option (List ℕ) → Held → Request → Option (List ℕ)
bytes_of given held r = source_of given held r.log

abbrev pub is_long : Command → Bool
is_long (command.Audit words) = true
is_long command.Split = true
is_long command.Census = true
is_long _ = false

abbrev pub limit_of : Command → ℕ
limit_of c = if is_long c then MAX_LONG_LOG_BYTES else MAX_LOG_BYTES

-- the log of the request
abbrev pub IsLogRead : Request → Option (List ℕ) → Held → List ℕ → Type 0
IsLogRead r given held log = IsReadUpTo (bytes_of given held r) (limit_of r.command) log

-- the file that the command names beside it; nothing, where it names none
abbrev pub IsNamedRead : Command → Held → List ℕ → Type 0
IsNamedRead (command.Decode model) held named = IsReadUpTo (held model.now) MAX_ANSWER_BYTES named
IsNamedRead (command.Refute proof) held named = IsReadUpTo (held proof.now) MAX_PROOF_BYTES named
IsNamedRead (command.Verify order) held named = IsReadUpTo (held order.now) MAX_ORDER_BYTES named
IsNamedRead _ held named = named ≡ []

-- it names one
abbrev pub names_file : Command → Bool
names_file (command.Decode model) = true
names_file (command.Refute proof) = true
names_file (command.Verify order) = true
names_file _ = false

-- how many reads there were, behind that of the file that the command names, where it names one
abbrev pub with_named : Command → ℕ → ℕ
with_named (command.Decode model) before = one_more before
with_named (command.Refute proof) before = one_more before
with_named (command.Verify order) before = one_more before
with_named _ before = before

-- so many calls read before and after: the log was read once, and then the file that the command
-- names, where the log could be read; and nothing else
abbrev pub AreReads : Command → ℕ → ℕ → Type 0
AreReads c before after = (after ≡ one_more before) ⊎ (after ≡ with_named c (one_more before))

pub record IsReading (r : Request) (given : Option (List ℕ)) (held : Held) (read : Reads) : Type 0 where
  pub log : IsLogRead r given held read.log
  pub named : IsNamedRead r.command held read.named

-- how many reads failed after one that gave this
abbrev pub failures_with : ℕ → Unread → ℕ
failures_with before unread.Memory = before
failures_with before (unread.Device why) = one_more before

abbrev pub read_failures : {T : Type 0} → ℕ → Result T Unread → ℕ
read_failures before (Ok text) = before
read_failures before (Err why) = failures_with before why

-- how a call ends whose log could not be read; so many reads failed before and after
abbrev pub IsUnreadAs : Bool → List ℕ → ℕ → ℕ → Ending → Type 0
IsUnreadAs true name before after e = IsReadFailure (IsUnusable name) before after e
IsUnreadAs false name before after e = IsUnread before after e

abbrev pub IsLogUnread : Request → ℕ → ℕ → Ending → Type 0
IsLogUnread r before after e = IsUnreadAs (is_long r.command) (log_name r) before after e

-- ---- what a call leaves

-- the call of a request ends so: it told what it has to, and handed it on
pub record IsAnswer (r : Request) (given : Option (List ℕ)) (held : Held) (old new : Option (List ℕ))
    (s : Status) : Type 0 where
  pub read : Reads
  pub reading : IsReading r given held read
  pub between : Option (List ℕ)
  pub done : IsDone r read old between s
  pub handed : Keeps between new

-- Why a call ends without an answer: its log or the file beside it could not be read, and nothing
-- was told; or the command says so; or what it told could not be handed on. So many reads failed
-- before and after.
pub data IsEnding (r : Request) (given : Option (List ℕ)) (held : Held) (before after : ℕ)
    (old new : Option (List ℕ)) (e : Ending) : Type 0 where
  no_log : IsLogUnread r before after e → new ≡ old → IsEnding r given held before after old new e
  no_file : names_file r.command ≡ true → IsUnread before after e → new ≡ old → IsEnding r given held before after old new e
  by_command : (read : Reads) → IsReading r given held read → IsEnded r read old new e
      → after ≡ before → IsEnding r given held before after old new e
  by_output : (s : Status) → IsAnswer r given held old new s → e ≡ ending.Stop stop.Output
      → after ≡ before → IsEnding r given held before after old new e

-- the line of an ending was told, or its first bytes and the device failed
pub data IsLineTold (lines later : Option (List ℕ)) (is_broken : Bool) (e : Ending) : Type 0 where
  whole : Appends lines later (line_of e ++ 10 ∷ []) → IsLineTold lines later is_broken e
  cut : TellsFront lines later (line_of e ++ 10 ∷ []) → is_broken ≡ true
      → IsLineTold lines later is_broken e

-- what is outside of the program, before and after a call
pub record Seen : Type 0 where
  pub given : Option (List ℕ)
  pub held : Held
  -- how many reads failed
  pub before : ℕ
  pub after : ℕ
  pub old : Option (List ℕ)
  pub new : Option (List ℕ)
  -- how many calls of the output failed
  pub failures : ℕ
  pub later_failures : ℕ
  pub lines : Option (List ℕ)
  pub later : Option (List ℕ)
  -- what was told was handed on
  pub is_through : Bool
  -- standard error failed
  pub is_broken : Bool

-- The call of a request, by its exit status: with an answer, and then no device failed and nothing is
-- told on standard error; or without one, and then a line there says why, and the output failed
-- exactly where that line says so.
pub data IsAnswered (r : Request) (w : Seen) (status : ℕ) : Type 0 where
  by_answer : (s : Status) → IsAnswer r w.given w.held w.old w.new s → w.is_through ≡ true
      → w.after ≡ w.before → w.later_failures ≡ w.failures
      → w.later ≡ w.lines → status ≡ code_of s → IsAnswered r w status
  by_ending : (e : Ending) → IsEnding r w.given w.held w.before w.after w.old w.new e
      → w.later_failures ≡ failures_by w.failures e
      → IsLineTold w.lines w.later w.is_broken e → status ≡ status_of e
      → IsAnswered r w status
