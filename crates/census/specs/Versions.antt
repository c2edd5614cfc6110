-- Versions of keys in many sets, each for some identities, and there found by identity first.
use Rattle.std.specs.Prelude.{ℕ, ◌%◌, zero, suc, List, length, slice_get, Bool, false}
use Rattle.std.specs.Option.{option_map_or}
use Rattle.std.specs.Ordering.{nat_cmp, ordering_then}
use Rattle.std.specs.Cmp.Lexicographic.{slice_cmp}
use Rattle.std.specs.declared.cmp.Ordering.{Ordering}
use Rattle.std.specs.BTreeSet.{BTreeSet, contains_by}
use Rattle.census.specs.declared.versions.Versions.{Versions}
use denote.Ref.{Bor}

-- a version by its identity and then by its key
abbrev pub version_cmp : List ℕ → ℕ → ℕ × Bor (List ℕ) → Ordering
version_cmp key wid version = ordering_then (nat_cmp wid version.0)
    (slice_cmp nat_cmp key version.1.now)

-- a set has the version of this key with this identity
abbrev pub is_in : BTreeSet (ℕ × Bor (List ℕ)) → List ℕ → ℕ → Bool
is_in set key wid = contains_by (version_cmp key wid) set

-- which of so many sets is for an identity
abbrev pub place_in : ℕ → ℕ → ℕ
place_in zero wid = 0
place_in (suc n) wid = wid % suc n

-- the version of this key with this identity is among them
unfoldable pub has_version : Versions → List ℕ → ℕ → Bool
has_version versions key wid = option_map_or (λ set. is_in set key wid)
    (slice_get versions.sets.items (place_in (length versions.sets.items) wid)) false
