-- A text that is going out through a piece.
use Rattle.std.specs.Prelude.{◌≡◌, ℕ, ◌<◌, ◌≤◌, List, ◌++◌, length, take, drop, Option}
use Rattle.std.specs.Io.KnownBytes.{Appends}
use Rattle.output.specs.declared.fault.WriteFault.{WriteFault}

-- of the whole text the first `written` bytes went out, then come those of the piece, and the rest
-- is still to be made
pub record IsUnderWay (old new : Option (List ℕ)) (written : ℕ)
    (piece rest whole : List ℕ) : Type 0 where
  pub within : written ≤ length whole
  pub out : Appends old new (take written whole)
  pub waits : drop written whole ≡ piece ++ rest

-- the first bytes of the text went out, as many as the fault says, and not all of them
pub record IsCutOff (old new : Option (List ℕ)) (fault : WriteFault) (whole : List ℕ) : Type 0 where
  pub within : fault.written < length whole
  pub out : Appends old new (take fault.written whole)
