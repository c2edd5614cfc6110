-- What is known of the operations that are still to be split.
use Rattle.std.specs.Prelude.{◌≡◌, ℕ, ◌+◌, ◌≤◌, ◌<◌, ◌^◌, IsTrue, List, [], ◌∷◌, length, max}
use Rattle.std.specs.List.{AllByRecursion}
use Rattle.session_log.specs.declared.session.Op.{Op}
use Rattle.log_definitions.specs.WellFormed.{written}
use Rattle.session_log.specs.Text.{key_of}
use Rattle.point_laws.specs.Split.{Locks}
use Rattle.splitting.specs.Locks.{most_marks, longest, largest}
use Rattle.splitting.specs.Names.{name_by, lock_by}
use Rattle.splitting.specs.declared.names.Names.{Names}
use Rattle.splitting.specs.declared.survey.Survey.{Survey}

-- what there was, and what these operations add to it
pub record Finds (old : Survey) (ops : List Op) (new : Survey) : Type 0 where
  pub marks : new.marks ≡ max old.marks (most_marks ops)
  pub longest : new.longest ≡ max old.longest (longest ops)
  pub largest : new.largest ≡ max old.largest (largest ops)
  pub writes : new.writes ≡ old.writes + length (written ops)

-- Locks with these names are keys, and so many identities are left above the last one.
pub record Fit (names : Names) (last : ℕ) (ops : List Op) : Type 0 where
  pub keys : AllByRecursion (λ o. names.marks + length (name_by names (key_of o)) ≤ 64) ops
  pub identities : last + length (written ops) < 2 ^ 64

-- these writes give the identities behind this one, in their order
abbrev pub GiveBehind : Locks → ℕ → List ℕ → Type 0
GiveBehind locks last [] = Unit {0}
GiveBehind locks last (wid ∷ wids) = (locks.identity wid ≡ last + 1)
    × GiveBehind locks (last + 1) wids

-- so the locks of these operations are named
pub record AreNamed (locks : Locks) (names : Names) (last : ℕ) (ops : List Op) : Type 0 where
  pub keys : (key : List ℕ) → locks.key key ≡ lock_by names key
  pub identities : GiveBehind locks last (written ops)
  pub taken : IsTrue locks.taken
