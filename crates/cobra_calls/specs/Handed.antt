-- Texts that are told, and handed on.
use Rattle.std.specs.Prelude.{ℕ, List, take, Option}
use Rattle.std.specs.Io.KnownBytes.{Keeps, Appends}

-- no more than the first bytes of the text were told
abbrev pub TellsFront : Option (List ℕ) → Option (List ℕ) → List ℕ → Type 0
TellsFront old new text = (n : ℕ) × Appends old new (take n text)

-- a text was told, and handed on
pub record IsHandedOn (old new : Option (List ℕ)) (text : List ℕ) : Type 0 where
  pub between : Option (List ℕ)
  pub told : Appends old between text
  pub handed : Keeps between new
