-- Where the bytes of a key lie.
use Rattle.std.specs.Prelude.{ℕ, List}
use Rattle.session_log.specs.declared.key_bytes.Place.{Place}
use Rattle.session_log.specs.declared.key_bytes.Place.TheVariants.{Here, Apart}

-- the bytes at a place
abbrev pub bytes_at : Place → List ℕ
bytes_at (Here bytes) = bytes
bytes_at (Apart bytes) = bytes.value
