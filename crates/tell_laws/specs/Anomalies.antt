-- What the text of a reported anomaly speaks of.
use Rattle.std.specs.Prelude.{◌≡◌, ℕ, List, Option, Some}
use Rattle.session_log.specs.Text.{ClientSession}
use Rattle.session_log.specs.declared.session.Op.{Op}
use Rattle.session_log.specs.declared.session.Op.TheVariants.{Read}
use Rattle.tell_reasons.specs.Reasons.{op_at}
use Rattle.tell_reasons.specs.Versions.{left_at, read_at}

abbrev pub IsRead : Option Op → Type 0
IsRead op = (key : List ℕ) × (wid : ℕ) × (op ≡ Some (Read key wid))

-- node v has a first read of key number x, and a last write of it
pub record DoesUpdate (ss : List ClientSession) (x v : ℕ) : Type 0 where
  pub read : ℕ
  pub write : ℕ
  pub first : read_at ss x v ≡ Some read
  pub last : left_at ss x v ≡ Some write
  pub reads : IsRead (op_at ss v read)
