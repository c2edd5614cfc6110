-- Some nodes stay, under numbers of their own: of a list of points those of these nodes are left, and stand as they stood.
use Rattle.point_laws.proofs.Prelude.{◌≡◌, ℕ, ◌*◌, ◌<◌, ◌≤◌, List, [], ◌∷◌, ◌++◌, map, Option, Some, None, refl, sym, ap, ◌∙◌, subst, inl, inr, arith, flat_map, Contains, option_map, behind, Op, Before, ListsOnce, Has, Apart, IsSublist}
use Rattle.point_laws.proofs.Prelude.{thinned_none, thinned_append, done, Point, snapshot, commit, number, StandsBefore}
use Rattle.point_laws.proofs.Arith.{point_at, at_point, point_node, point_of_number, IsOf, within, is_of}
use Rattle.point_laws.proofs.Spread.{Spreads, once_spread, before_spread}
use Rattle.point_laws.proofs.Parted.{of_some}
use Rattle.point_laws.proofs.Orders.{of_points}

-- ---- the nodes
-- Of nodes 1 to n some stay, as nodes 1 to m: node v of these is node (at v) of those, and back is the way back.
pub record AreKept (back : ℕ → Option ℕ) (at : ℕ → ℕ) (n m : ℕ) : Type 0 where
  pub to : (v : ℕ) → 0 < v → v ≤ m → (back (at v) ≡ Some v) × (0 < at v) × (at v ≤ n)
  pub from : (u v : ℕ) → back u ≡ Some v → (u ≡ at v) × (0 < v) × (v ≤ m)

abbrev pub placed : (ℕ → ℕ) → Point → Point
placed at (snapshot v) = snapshot (at v)
placed at (commit v) = commit (at v)

abbrev pub moved : (ℕ → Option ℕ) → Point → Option Point
moved back (snapshot u) = option_map snapshot (back u)
moved back (commit u) = option_map commit (back u)

pub went : {back : ℕ → Option ℕ} {at : ℕ → ℕ} {n m : ℕ} → AreKept back at n m → (p : Point) → IsOf m p → (moved back (placed at p) ≡ Some p) × (0 < point_node (placed at p)) × (point_node (placed at p) ≤ n)
went k (snapshot v) h = let r = k.to v h.lo h.hi in (ap (option_map snapshot) r.0, r.1, r.2)
went k (commit v) h = let r = k.to v h.lo h.hi in (ap (option_map commit) r.0, r.1, r.2)

pub record Came (at : ℕ → ℕ) (m : ℕ) (x p : Point) : Type 0 where
  pub is : x ≡ placed at p
  pub of : IsOf m p

pub came : {back : ℕ → Option ℕ} {at : ℕ → ℕ} {n m : ℕ} → AreKept back at n m → (x p : Point) → moved back x ≡ Some p → Came at m x p
came {back} {at} {n} {m} k (snapshot u) p e =
    let r = of_some snapshot (back u) p e in
    let s = k.from u r.0 r.1 in
    subst (Came at m (snapshot u)) r.2 (record { is = ap snapshot s.0; of = record { lo = s.1; hi = s.2 } })
came {back} {at} {n} {m} k (commit u) p e =
    let r = of_some commit (back u) p e in
    let s = k.from u r.0 r.1 in
    subst (Came at m (commit u)) r.2 (record { is = ap commit s.0; of = record { lo = s.1; hi = s.2 } })

-- ---- the points that are left
abbrev put : Option Point → List Point → List Point
put None points = points
put (Some p) points = p ∷ points

abbrev pub left_of : (ℕ → Option ℕ) → List Point → List Point
left_of back [] = []
left_of back (x ∷ points) = put (moved back x) (left_of back points)

-- their numbers, each in the place of its point
abbrev number_of : Option Point → List ℕ
number_of None = []
number_of (Some p) = number p ∷ []

abbrev left_numbers : (ℕ → Option ℕ) → ℕ → List ℕ
left_numbers back i = number_of (moved back (point_at i).point)

left_is : (back : ℕ → Option ℕ) (n : ℕ) (points : List Point) → ((x : Point) → Contains points x → IsOf n x) → map number (left_of back points) ≡ flat_map (left_numbers back) (map number points)
left_is back n [] h = refl
left_is back n (x ∷ points) h =
    let ih = left_is back n points (λ y c. h y (behind x points y c)) in
    put_numbers (moved back x) (left_of back points) ∙ ap (λ l. number_of (moved back x) ++ l) ih
    ∙ ap (λ p. number_of (moved back p) ++ flat_map (left_numbers back) (map number points)) (sym (at_point n x (h x (0, omega arith, refl))))
  where
    put_numbers : (o : Option Point) (ps : List Point) → map number (put o ps) ≡ number_of o ++ map number ps
    put_numbers None ps = refl
    put_numbers (Some p) ps = refl

-- what the number of a point that is left comes from
record FromLeft (back : ℕ → Option ℕ) (at : ℕ → ℕ) (m : ℕ) (x : Point) (y : ℕ) : Type 0 where
  pub point : Point
  pub of : IsOf m point
  pub is : number point ≡ y
  pub at_point : x ≡ placed at point

from_left : {back : ℕ → Option ℕ} {at : ℕ → ℕ} {n m : ℕ} → AreKept back at n m → (x : Point) (y : ℕ) → Has y (number_of (moved back x)) → FromLeft back at m x y
from_left {back} {at} {n} {m} k x y h = go (moved back x) refl h
  where
    go : (o : Option Point) → moved back x ≡ o → Has y (number_of o) → FromLeft back at m x y
    go None e none = absurd none
    go (Some p) e (inl same) = let c = came k x p e in record { point = p; of = c.of; is = same; at_point = c.is }
    go (Some p) e (inr none) = absurd none

has_left : {back : ℕ → Option ℕ} {at : ℕ → ℕ} {n m : ℕ} → AreKept back at n m → (p : Point) → IsOf m p → Has (number p) (left_numbers back (number (placed at p)))
has_left {back} {at} {n} k p h =
    let w = went k p h in
    let is : (point_at (number (placed at p))).point ≡ placed at p = at_point n (placed at p) (record { lo = w.1; hi = w.2 }) in
    subst (λ o. Has (number p) (number_of o)) (sym (ap (moved back) is ∙ w.0)) (inl refl)

spread_left : {back : ℕ → Option ℕ} {at : ℕ → ℕ} {n m : ℕ} → AreKept back at n m → Spreads (2 * n) (2 * m) (left_numbers back)
spread_left {back} {at} {n} {m} k = record {
  within = λ x y lo hi h. (let r = from_left k (point_at x).point y h in subst (λ j. (0 < j) × (j ≤ 2 * m)) r.is (within m r.point r.of));
  found = λ y lo hi. (let p = point_at y in
      let is = p.is in
      let of = is_of m p.point (omega (arith, is, lo)) (omega (arith, is, hi)) in
      let w = went k p.point of in
      let b = within n (placed at p.point) (record { lo = w.1; hi = w.2 }) in
      (number (placed at p.point), b.0, b.1, subst (λ j. Has j (left_numbers back (number (placed at p.point)))) p.is (has_left k p.point of)));
  one = λ a b y lo hi lo_b hi_b c d. (let r = from_left k (point_at a).point y c in
      let s = from_left k (point_at b).point y d in
      sym (point_at a).is ∙ ap number (r.at_point ∙ ap (placed at) (point_of_number r.point s.point s.of.lo (r.is ∙ sym s.is)) ∙ sym s.at_point) ∙ (point_at b).is);
  apart = λ x lo hi. apart (moved back (point_at x).point);
}
  where
    apart : (o : Option Point) → Apart (number_of o)
    apart None = tt
    apart (Some p) = ((λ none. none), tt)

pub once_left : {back : ℕ → Option ℕ} {at : ℕ → ℕ} {n m : ℕ} → AreKept back at n m → (points : List Point) → ListsOnce (2 * n) (map number points) → ListsOnce (2 * m) (map number (left_of back points))
once_left {back} {n = n} {m = m} k points once =
    subst (ListsOnce (2 * m)) (sym (left_is back n points (of_points n points once))) (once_spread (spread_left k) (map number points) once)

-- ---- as they stood
pub before_left : {back : ℕ → Option ℕ} {at : ℕ → ℕ} {n m : ℕ} → AreKept back at n m → (points : List Point) → ListsOnce (2 * n) (map number points) → (p q : Point) → IsOf m p → IsOf m q → StandsBefore points (placed at p) (placed at q) → StandsBefore (left_of back points) p q
before_left {back} {at} {n} {m} k points once p q hp hq before =
    let w = went k p hp in
    let v = went k q hq in
    let a = within n (placed at p) (record { lo = w.1; hi = w.2 }) in
    let b = within n (placed at q) (record { lo = v.1; hi = v.2 }) in
    subst (λ l. Before l (number p) (number q)) (sym (left_is back n points (of_points n points once)))
    (before_spread (spread_left k) (map number points) once (number (placed at p)) (number (placed at q)) (number p) (number q) a.0 a.1 b.0 b.1 (has_left k p hp) (has_left k q hq) before)

-- ---- what is done at them
pub ops_left : {back : ℕ → Option ℕ} {at : ℕ → ℕ} {n m : ℕ} → AreKept back at n m → (f g : Point → List Op) (points : List Point) → ((p : Point) → IsOf m p → IsSublist (f (placed at p)) (g p)) → IsSublist (flat_map f points) (flat_map g (left_of back points))
ops_left k f g [] h = done
ops_left {back} {at} {n} {m} k f g (x ∷ points) h = go (ops_left k f g points h) (moved back x) refl
  where
    go : IsSublist (flat_map f points) (flat_map g (left_of back points)) → (o : Option Point) → moved back x ≡ o → IsSublist (f x ++ flat_map f points) (flat_map g (put o (left_of back points)))
    go ih None e = thinned_append (λ a b. a ≡ b) (thinned_none (λ a b. a ≡ b) (f x)) ih
    go ih (Some p) e = let c = came k x p e in thinned_append (λ a b. a ≡ b) (subst (λ y. IsSublist (f y) (g p)) (sym c.is) (h p c.of)) ih
