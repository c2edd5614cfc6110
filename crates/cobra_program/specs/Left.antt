-- What a call of the program leaves in the world.
use Rattle.std.specs.Prelude.{◌≡◌, ℕ}
use Rattle.cobra_calls.specs.declared.ending.Ending.{Ending}
use Rattle.cobra_calls.specs.Endings.{status_of}
use Rattle.cobra_calls.specs.Files.{Disk}
use Rattle.cobra_calls.specs.Worlds.{Seen, IsLineTold}

-- the world, the files that are written, and how many calls read, before and after a call
pub record Left : Type 0 where
  pub seen : Seen
  pub files : Disk
  pub later_files : Disk
  pub reads : ℕ
  pub later_reads : ℕ

-- no read failed
abbrev pub NoReadFailed : Seen → Type 0
NoReadFailed w = w.after ≡ w.before

-- nothing was told on the output
pub record IsSilent (w : Seen) : Type 0 where
  pub bytes : w.new ≡ w.old
  pub failures : w.later_failures ≡ w.failures

-- a line on standard error says why the call ends, and the status is that line's
pub record EndsFor (e : Ending) (w : Seen) (status : ℕ) : Type 0 where
  pub told : IsLineTold w.lines w.later w.is_broken e
  pub code : status ≡ status_of e

-- that is all
pub record EndsAtOnce (e : Ending) (w : Seen) (status : ℕ) : Type 0 where
  pub reads : NoReadFailed w
  pub silent : IsSilent w
  pub ends : EndsFor e w status

-- nothing was read, and no file was written
pub record IsNothingDone (c : Left) : Type 0 where
  pub reads : c.later_reads ≡ c.reads
  pub files : c.later_files ≡ c.files

-- and this too
pub record EndsBefore (e : Ending) (c : Left) (status : ℕ) : Type 0 where
  pub ends : EndsAtOnce e c.seen status
  pub nothing : IsNothingDone c

-- and nothing is told
pub record IsUntouched (c : Left) : Type 0 where
  pub reads : NoReadFailed c.seen
  pub silent : IsSilent c.seen
  pub lines : c.seen.later ≡ c.seen.lines
  pub nothing : IsNothingDone c
