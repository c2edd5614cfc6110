-- A text that is shown in place of a call. Its words are free, since no contract of `clap` says them.
use Rattle.std.specs.Prelude.{◌≡◌, ℕ, Bool, true, false, List, Option}
use Rattle.std.specs.Io.KnownBytes.{Appends}
use Rattle.output.specs.Sinks.{one_more}
use Rattle.clap.specs.declared.error.kind.ErrorKind.{ErrorKind}
use Rattle.clap.specs.declared.error.kind.ErrorKind.TheVariants.{DisplayHelp, DisplayVersion}
use Rattle.cobra_answers.specs.declared.stop.Stop.TheVariants as stop
use Rattle.cobra_calls.specs.declared.ending.Ending.TheVariants.{Stop}
use Rattle.cobra_calls.specs.Endings.{out_of_memory}
use Rattle.cobra_calls.specs.Handed.{IsHandedOn, TellsFront}
use Rattle.cobra_calls.specs.Worlds.{Seen}
use Rattle.cobra_program.specs.Left.{NoReadFailed, IsSilent, EndsFor, EndsAtOnce}

-- help or the version is asked for: else the words are no call
abbrev pub is_asked_for : ErrorKind → Bool
is_asked_for DisplayHelp = true
is_asked_for DisplayVersion = true
is_asked_for _ = false

-- a text is on standard error, whole, or its first bytes and the device failed
pub data IsTextTold (text : List ℕ) (lines later : Option (List ℕ)) (is_broken : Bool) : Type 0 where
  whole : Appends lines later text → IsTextTold text lines later is_broken
  cut : TellsFront lines later text → is_broken ≡ true → IsTextTold text lines later is_broken

-- What was asked for is on the output alone, and was handed on: status 0. Or the output failed at it,
-- and a line says so. Why words are no call is on standard error alone: status 2. Or memory was
-- refused.
pub data IsShown (kind : ErrorKind) (w : Seen) (status : ℕ) : Type 0 where
  answered : (text : List ℕ) → is_asked_for kind ≡ true → NoReadFailed w → IsHandedOn w.old w.new text
      → w.is_through ≡ true → w.later_failures ≡ w.failures → w.later ≡ w.lines → status ≡ 0
      → IsShown kind w status
  cut_short : (text : List ℕ) → is_asked_for kind ≡ true → NoReadFailed w → TellsFront w.old w.new text
      → w.later_failures ≡ one_more w.failures → EndsFor (Stop stop.Output) w status
      → IsShown kind w status
  refused : (text : List ℕ) → is_asked_for kind ≡ false → NoReadFailed w → IsSilent w
      → IsTextTold text w.lines w.later w.is_broken → status ≡ 2 → IsShown kind w status
  by_memory : EndsAtOnce out_of_memory w status → IsShown kind w status
