-- What a source gives.
use Rattle.std.specs.Prelude.{◌≡◌, ℕ, ◌+◌, ◌<◌, ◌≤◌, List, ◌++◌, length, Option}
use Rattle.std.specs.Io.KnownBytes.{Consumes, IsAtEnd}

-- these bytes were taken from the source's front, where its bytes are known
pub record Takes (old new : Option (List ℕ)) (bytes : List ℕ) : Type 0 where
  pub front : Consumes old new bytes

-- nothing is left of the source, where its bytes are known
pub record IsSpent (rest : Option (List ℕ)) : Type 0 where
  pub empty : IsAtEnd rest

-- one call, with a buffer of this size, took bytes and put them behind the text: none only at the
-- end
pub record TakesPiece (old new : Option (List ℕ)) (size : ℕ) (before after : List ℕ) : Type 0 where
  pub bytes : List ℕ
  pub taken : Takes old new bytes
  pub text : after ≡ before ++ bytes
  pub most : length bytes ≤ size
  pub last : length bytes ≡ 0 → 0 < size → IsSpent new

-- the text was taken from the source's front, and is all of it, or is longer than the limit by one
-- byte
pub record IsReadWhole (old new : Option (List ℕ)) (limit : ℕ) (text : List ℕ) : Type 0 where
  pub taken : Takes old new text
  pub most : length text ≤ limit + 1
  pub whole : length text ≤ limit → IsSpent new

-- at most so many bytes were taken from the source's front
pub record IsReadInPart (old new : Option (List ℕ)) (count : ℕ) : Type 0 where
  pub bytes : List ℕ
  pub taken : Takes old new bytes
  pub most : length bytes ≤ count
