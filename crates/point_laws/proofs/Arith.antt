-- Numbers of points.
use Rattle.point_laws.proofs.Prelude.{◌≡◌, ◌≢◌, ◌⊎◌, refl, inl, inr, zero, suc, ap, ℕ, ◌*◌, ◌<◌, ◌≤◌, arith, Point, snapshot, commit, number}

pub same_commit : (u v : ℕ) → number (commit u) ≡ number (commit v) → u ≡ v
same_commit u v e = omega (arith, e)

pub same_snapshot : (u v : ℕ) → 0 < v → number (snapshot u) ≡ number (snapshot v) → u ≡ v
same_snapshot u v lo e = omega (arith, e)

pub snapshot_commit : (u v : ℕ) → 0 < v → number (snapshot u) ≢ number (commit v)
snapshot_commit u v lo e = omega (arith, e)

pub commit_snapshot : (u v : ℕ) → 0 < v → number (commit u) ≢ number (snapshot v)
commit_snapshot u v lo e = omega (arith, e)

pub node_of_commit : (v : ℕ) → 0 < number (commit v) → 0 < v
node_of_commit v lo = omega (arith, lo)

pub node_of_snapshot : (v : ℕ) → 0 < number (snapshot v) → 0 < v
node_of_snapshot v lo = omega (arith, lo)

-- the node of a point
abbrev pub point_node : Point → ℕ
point_node (snapshot v) = v
point_node (commit v) = v

-- a point is known by its number
pub point_of_number : (p q : Point) → 0 < point_node q → number p ≡ number q → p ≡ q
point_of_number (snapshot u) (snapshot v) lo e = ap snapshot (same_snapshot u v lo e)
point_of_number (snapshot u) (commit v) lo e = absurd (snapshot_commit u v lo e)
point_of_number (commit u) (snapshot v) lo e = absurd (commit_snapshot u v lo e)
point_of_number (commit u) (commit v) lo e = ap commit (same_commit u v e)

-- a point of nodes 1 to m
pub record IsOf (m : ℕ) (p : Point) : Type 0 where
  pub lo : 0 < point_node p
  pub hi : point_node p ≤ m

pub within : (m : ℕ) (p : Point) → IsOf m p → (0 < number p) × (number p ≤ 2 * m)
within m (snapshot v) h = let lo = h.lo in let hi = h.hi in (omega (arith, lo), omega (arith, lo, hi))
within m (commit v) h = let lo = h.lo in let hi = h.hi in (omega (arith, lo), omega (arith, lo, hi))

pub is_of : (m : ℕ) (p : Point) → 0 < number p → number p ≤ 2 * m → IsOf m p
is_of m (snapshot v) lo hi = record { lo = omega (arith, lo); hi = omega (arith, lo, hi) }
is_of m (commit v) lo hi = record { lo = omega (arith, lo); hi = omega (arith, lo, hi) }

-- ---- each number is that of a point
record Half (k : ℕ) : Type 0 where
  pub half : ℕ
  pub is : (2 * half ≡ k) ⊎ (suc (2 * half) ≡ k)

half_of : (k : ℕ) → Half k
half_of zero = record { half = 0; is = inl refl }
half_of (suc k) = let r = half_of k in elim r.is [
  | inl e ↦ record { half = r.half; is = inr (ap suc e) }
  | inr e ↦ record { half = suc r.half; is = inl (omega (arith, e)) }
]

pub record Numbered (k : ℕ) : Type 0 where
  pub point : Point
  pub is : number point ≡ k

pub point_at : (k : ℕ) → Numbered k
point_at k = let r = half_of k in elim r.is [
  | inl e ↦ record { point = commit r.half; is = e }
  | inr e ↦ record { point = snapshot (suc r.half); is = omega (arith, e) }
]

pub at_point : (n : ℕ) (p : Point) → IsOf n p → (point_at (number p)).point ≡ p
at_point n p h = point_of_number (point_at (number p)).point p h.lo (point_at (number p)).is
