-- Files that are written beside the output.
use Rattle.std.specs.Prelude.{◌≡◌, ℕ, List, [], ◌∷◌, ◌++◌, take, Option, None, Some}
use Rattle.output.specs.Sinks.{one_more}

-- its name and its bytes
abbrev pub File : Type 0
File = List ℕ × List ℕ

-- the files that were written, where they are known, and how many calls failed
pub record Disk : Type 0 where
  pub files : Option (List File)
  pub failures : ℕ

-- known files grow by these
abbrev pub Grows : Option (List File) → Option (List File) → List File → Type 0
Grows None new fs = Unit {0}
Grows (Some xs) None fs = ⊥
Grows (Some xs) (Some ys) fs = ys ≡ xs ++ fs

-- these were written, and no call failed
pub record Adds (old new : Disk) (fs : List File) : Type 0 where
  pub files : Grows old.files new.files fs
  pub failures : new.failures ≡ old.failures

-- nothing, or the file's first bytes
abbrev pub IsBegun : File → List File → Type 0
IsBegun file [] = Unit {0}
IsBegun file (f ∷ []) = (f.0 ≡ file.0) × ((n : ℕ) × (f.1 ≡ take n file.1))
IsBegun file (f ∷ g ∷ fs) = ⊥

-- a call failed: of the file there is no more than its first bytes
pub record FailsAt (old new : Disk) (file : File) : Type 0 where
  pub begun : List File
  pub is : IsBegun file begun
  pub files : Grows old.files new.files begun
  pub failures : new.failures ≡ one_more old.failures
