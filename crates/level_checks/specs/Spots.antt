-- Where keys were written, each key by the root of its writes.
use Rattle.std.specs.Prelude.{◌≡◌, ℕ, true, List, Some, slice_get}
use Rattle.std.specs.Ordering.{nat_cmp, ordering_then}
use Rattle.std.specs.declared.cmp.Ordering.{Ordering}
use Rattle.std.specs.BTreeSet.{BTreeSet, contains}
use Rattle.level_checks.specs.declared.trail.Passed.{Passed}
use Rattle.level_checks.specs.declared.noted.Noted.{Noted}

-- a root, the index of a session, and a position
abbrev pub Spot : Type 0
Spot = ℕ × ℕ × ℕ

abbrev pub spot_cmp : Spot → Spot → Ordering
spot_cmp x y = ordering_then (ordering_then (nat_cmp x.0 y.0) (nat_cmp x.1 y.1)) (nat_cmp x.2 y.2)

-- each write is noted
pub record AreNoted (entries : List Passed) (spots : BTreeSet Spot) : Type 0 where
  pub each : (i : ℕ) (e : Passed) → slice_get entries i ≡ Some e
      → contains spot_cmp spots (e.root, e.session, e.position) ≡ true

-- the same, if that is kept
abbrev pub AreKept : List Passed → Noted → Type 0
AreKept entries noted = noted.is_kept ≡ true → AreNoted entries noted.spots
