-- Orders that keep the edges of a cube, and those that solve one.
use Rattle.cube_laws.proofs.Prelude.{◌≡◌, ◌⊎◌, ℕ, zero, suc, ◌+◌, ◌<◌, ◌≤◌, Bool, true, cond, eqb, ◌&&◌, List, [], ◌∷◌, ◌++◌, length, Some, refl, sym, ap, ◌∙◌, subst, inl, inr, arith, append_assoc, slice_get, nat_lt, AllByRecursion}
use Rattle.cube_laws.proofs.Prelude.{list_any, list_all, range_with_len, cases_eq, cases_lt, false≢true, and_parts, and_from, or_cases, or_left, or_right, ltb-true, eqb-true, length-append, same_Some, Edge, Choice, Polygraph, Keeps}
use Rattle.cube_laws.proofs.Prelude.{KeepsOne, Fits, Has, Apart, Has-split, Has-append_front, Has-append_back, Has-append_cases, each_of_append, each_from_append, IsDistinct-from_Apart, Has-from_any, any-from_Has, once_from, Apart_range}
use Rattle.cube_laws.proofs.Prelude.{Side, One, Two, same_side, sides_in, Cube, is_decided, edges_under, decides_all, lists_once, keeps_edges, is_solution}
use Rattle.std.proofs.lemmas.Cmp.{nat_eq_equiv}
use Rattle.std.proofs.lemmas.List.FromFn.{length-range_with_len}
use Rattle.std.proofs.lemmas.Map.Made.{length-le_from_is_member}
use Rattle.serializability.specs.Replay.{place_of, Before, ListsOnce}
use Rattle.serializability.proofs.Sources.{any_found, range-from_Has}
use Rattle.pruning_laws.specs.Forced.{edges_of, Sides, kept_from}
use Rattle.pruning_laws.specs.Ledger.{Entry as Decision}
use Rattle.pruning_laws.proofs.Ledgers.{same_is, same_itself}
use Rattle.pruning_laws.proofs.Pruned.{part_kept, part_of}
use Rattle.cube_laws.proofs.Nodes.{none-some, one_value, each_indexed}

-- ---- the sides of a cube
-- the order keeps the side of this decision
abbrev pub KeepsSide : Polygraph → List ℕ → Decision → Type 0
KeepsSide p order e = (h : Choice) → slice_get p.choices e.0 ≡ Some h → Keeps order (edges_of h e.1)

pub record KeepsCube (p : Polygraph) (order : List ℕ) (cube : Cube) : Type 0 where
  pub each : AllByRecursion (KeepsSide p order) cube

-- a side in the cube is one of its decisions
side_kept : (p : Polygraph) (order : List ℕ) (cube : Cube) → AllByRecursion (KeepsSide p order) cube → (c : ℕ) (side : Side) → sides_in cube c side ≡ true → KeepsSide p order (c, side)
side_kept p order [] k c side t = absurd (false≢true t)
side_kept p order (e ∷ cube) k c side t = elim (or_cases (eqb e.0 c && same_side e.1 side) (sides_in cube c side) t) [
  | inl a ↦ (let b = and_parts (eqb e.0 c) (same_side e.1 side) a in
      subst (KeepsSide p order) (λ i. (eqb-true e.0 c b.0 i, same_is e.1 side b.1 i)) k.0)
  | inr b ↦ side_kept p order cube k.1 c side b
]

-- an order that keeps each side in a set keeps the edges of the set
sides_kept : (sides : Sides) (order : List ℕ) (c : ℕ) (hs : List Choice) → ((k : ℕ) (h : Choice) (side : Side) → slice_get hs k ≡ Some h → sides (c + k) side ≡ true → Keeps order (edges_of h side)) → Keeps order (kept_from sides c hs)
sides_kept sides order c [] f = tt
sides_kept sides order c (h ∷ hs) f =
    let K : Edge → Type 0 = λ e. Before order e.0 e.1 in
    let z : c ≡ c + 0 = omega arith in
    each_from_append K (cond (sides c One) h.one [] ++ cond (sides c Two) h.two []) (kept_from sides (c + 1) hs)
    (each_from_append K (cond (sides c One) h.one []) (cond (sides c Two) h.two [])
    (part_kept order (sides c One) h.one (λ t. f 0 h One refl (subst (λ n. sides n One ≡ true) z t)))
    (part_kept order (sides c Two) h.two (λ t. f 0 h Two refl (subst (λ n. sides n Two ≡ true) z t))))
    (sides_kept sides order (c + 1) hs (λ k g side at t.
    (let n : c + 1 + k ≡ c + suc k = omega arith in f (suc k) g side at (subst (λ i. sides i side ≡ true) n t))))

pub cube_kept : (p : Polygraph) (order : List ℕ) (cube : Cube) → Keeps order p.known → KeepsCube p order cube → Keeps order (edges_under p cube)
cube_kept p order cube known k =
    each_from_append (λ (e : Edge). Before order e.0 e.1) p.known (kept_from (sides_in cube) 0 p.choices) known
    (sides_kept (sides_in cube) order 0 p.choices (λ n h side at t.
    (let z : 0 + n ≡ n = omega arith in
    side_kept p order cube k.each n side (subst (λ i. sides_in cube i side ≡ true) z t) h at)))

pub cube_opening : (p : Polygraph) (order : List ℕ) → KeepsCube p order []
cube_opening p order = record { each = tt }

pub cube_split : (p : Polygraph) (order : List ℕ) (cube : Cube) (c : ℕ) (side : Side) (h : Choice) → slice_get p.choices c ≡ Some h → Keeps order (edges_of h side) → KeepsCube p order cube → KeepsCube p order ((c, side) ∷ cube)
cube_split p order cube c side h at kept k = record {
  each = (λ g there. subst (λ (q : Choice). Keeps order (edges_of q side)) (one_value (slice_get p.choices c) h g at there) kept, k.each);
}

-- ---- an order that keeps the edges of a set keeps each side in it

first_kept : (sides : Sides) (order : List ℕ) (c : ℕ) (h : Choice) (side : Side) → Keeps order (cond (sides c One) h.one []) → Keeps order (cond (sides c Two) h.two []) → sides c side ≡ true → Keeps order (edges_of h side)
first_kept sides order c h One a b t = part_of order (sides c One) h.one t a
first_kept sides order c h Two a b t = part_of order (sides c Two) h.two t b

kept_each : (sides : Sides) (order : List ℕ) (c : ℕ) (hs : List Choice) → Keeps order (kept_from sides c hs) → (k : ℕ) (h : Choice) (side : Side) → slice_get hs k ≡ Some h → sides (c + k) side ≡ true → Keeps order (edges_of h side)
kept_each sides order c [] kept k h side at t = absurd (none-some h at)
kept_each sides order c (g ∷ hs) kept zero h side at t =
    let K : Edge → Type 0 = λ e. Before order e.0 e.1 in
    let a = each_of_append K (cond (sides c One) g.one [] ++ cond (sides c Two) g.two []) (kept_from sides (c + 1) hs) kept in
    let b = each_of_append K (cond (sides c One) g.one []) (cond (sides c Two) g.two []) a.0 in
    let z : c + 0 ≡ c = omega arith in
    subst (λ (q : Choice). Keeps order (edges_of q side)) (same_Some g h at) (first_kept sides order c g side b.0 b.1 (subst (λ n. sides n side ≡ true) z t))
kept_each sides order c (g ∷ hs) kept (suc k) h side at t =
    let K : Edge → Type 0 = λ e. Before order e.0 e.1 in
    let a = each_of_append K (cond (sides c One) g.one [] ++ cond (sides c Two) g.two []) (kept_from sides (c + 1) hs) kept in
    let n : c + suc k ≡ c + 1 + k = omega arith in
    kept_each sides order (c + 1) hs a.1 k h side at (subst (λ i. sides i side ≡ true) n t)

-- ---- a solution
tested_keeps : (order : List ℕ) (edges : List Edge) → keeps_edges order edges ≡ true → Keeps order edges
tested_keeps order [] t = tt
tested_keeps order (e ∷ edges) t =
    let p = and_parts (nat_lt (place_of (0 ∷ order) e.0) (place_of (0 ∷ order) e.1)) (keeps_edges order edges) t in
    (ltb-true _ _ p.0, tested_keeps order edges p.1)

all_in_range : (test : ℕ → Bool) (a n : ℕ) → list_all test (range_with_len a n) ≡ true → (v : ℕ) → a ≤ v → v < a + n → test v ≡ true
all_in_range test a zero t v lo hi = absurd (omega arith)
all_in_range test a (suc n) t v lo hi =
    let p = and_parts (test a) (list_all test (range_with_len (a + 1) n)) t in
    elim (cases_eq a v) [
      | inl e ↦ subst (λ u. test u ≡ true) e p.0
      | inr ne ↦ all_in_range test (a + 1) n p.1 v (omega (arith, ne)) (omega arith)
    ]

-- of a decided choice the cube has a side
pub decided_side : (cube : Cube) (c : ℕ) → is_decided cube c ≡ true → (side : Side) × (sides_in cube c side ≡ true)
decided_side [] c t = absurd (false≢true t)
decided_side (e ∷ cube) c t = elim (or_cases (eqb e.0 c) (is_decided cube c) t) [
  | inl a ↦ (e.1, or_left (eqb e.0 c && same_side e.1 e.1) (sides_in cube c e.1) (and_from (eqb e.0 c) (same_side e.1 e.1) a (same_itself e.1)))
  | inr b ↦ (let r = decided_side cube c b in (r.0, or_right (eqb e.0 c && same_side e.1 r.0) (sides_in cube c r.0) r.1))
]

one_of : (order : List ℕ) (h : Choice) (side : Side) → Keeps order (edges_of h side) → KeepsOne order h
one_of order h One k = inl k
one_of order h Two k = inr k

choices_kept : (p : Polygraph) (cube : Cube) (order : List ℕ) → decides_all p cube ≡ true → Keeps order (kept_from (sides_in cube) 0 p.choices) → AllByRecursion (KeepsOne order) p.choices
choices_kept p cube order all kept = each_indexed (KeepsOne order) p.choices (λ k h at.
    (let lt = within p.choices k h at in
    let d = decided_side cube k (all_in_range (is_decided cube) 0 (length p.choices) all k (omega arith) (omega (arith, lt))) in
    let z : k ≡ 0 + k = omega arith in
    one_of order h d.0 (kept_each (sides_in cube) order 0 p.choices kept k h d.0 at (subst (λ i. sides_in cube i d.0 ≡ true) z d.1))))
  where
    within : (hs : List Choice) (k : ℕ) (h : Choice) → slice_get hs k ≡ Some h → k < length hs
    within [] k h at = absurd (none-some h at)
    within (g ∷ hs) zero h at = omega arith
    within (g ∷ hs) (suc k) h at = let r = within hs k h at in omega (arith, r)

-- ---- as many nodes as there are, and each of them: each once, and no other
record Covers (n : ℕ) (xs : List ℕ) : Type 0 where
  pub each : (v : ℕ) → 0 < v → v ≤ n → Has v xs

covers_most : (n : ℕ) (xs : List ℕ) → Covers n xs → n ≤ length xs
covers_most n xs c =
    let most = length-le_from_is_member nat_eq_equiv (range_with_len 1 n) xs (IsDistinct-from_Apart (range_with_len 1 n) (Apart_range 1 n)) (λ q t.
    (let r = range-from_Has q 1 n (Has-from_any q (range_with_len 1 n) t) in
    any-from_Has q xs (c.each q (omega (arith, r.0)) (omega (arith, r.1))))) in
    omega (arith, most, length-range_with_len 1 n)

-- none can be left out
none_spare : (n v : ℕ) (front back : List ℕ) → length (front ++ v ∷ back) ≡ n → Covers n (front ++ back) → ⊥
none_spare n v front back long c =
    let most = covers_most n (front ++ back) c in
    let a = length-append front back in
    let b = length-append front (v ∷ back) in
    omega (arith, most, a, b, long)

without : (u v : ℕ) (front back : List ℕ) → (u ≡ v → ⊥) → Has u (front ++ v ∷ back) → Has u (front ++ back)
without u v front back ne h = elim (Has-append_cases u front (v ∷ back) h) [
  | inl a ↦ Has-append_front u front back a
  | inr b ↦ elim b [
    | inl same ↦ absurd (ne (sym same))
    | inr c ↦ Has-append_back u front back c
  ]
]

again : (u v : ℕ) (front back : List ℕ) → Has v (front ++ back) → Has u (front ++ v ∷ back) → Has u (front ++ back)
again u v front back there h = elim (cases_eq u v) [
  | inl e ↦ subst (λ w. Has w (front ++ back)) (sym e) there
  | inr ne ↦ without u v front back ne h
]

apart_from : (n : ℕ) (front xs : List ℕ) → length (front ++ xs) ≡ n → Covers n (front ++ xs) → Apart xs
apart_from n front [] long c = tt
apart_from n front (x ∷ xs) long c =
    let shape : (front ++ x ∷ []) ++ xs ≡ front ++ (x ∷ xs) = append_assoc front (x ∷ []) xs in (
      λ twice. none_spare n x front xs long (record { each = λ v lo hi. again v x front xs (Has-append_back x front xs twice) (c.each v lo hi) }),
      apart_from n (front ++ x ∷ []) xs (ap length shape ∙ long) (subst (Covers n) (sym shape) c),
    )

only_those : (n : ℕ) (order : List ℕ) → length order ≡ n → Covers n order → (v : ℕ) → Has v order → (v ≡ 0) ⊎ (n < v) → ⊥
only_those n order long c v h out =
    let s = Has-split v order h in
    let front = s.0 in let back = s.1.0 in let shape = s.1.1 in
    none_spare n v front back (ap length (sym shape) ∙ long) (record {
      each = λ u lo hi. without u v front back (λ e. elim out [ inl z ↦ omega (arith, z, e, lo) | inr g ↦ omega (arith, g, e, hi) ]) (subst (Has u) shape (c.each u lo hi));
    })

inside : (n : ℕ) (order : List ℕ) → length order ≡ n → Covers n order → (v : ℕ) → Has v order → (0 < v) × (v ≤ n)
inside n order long c v h = elim (cases_lt 0 v) [
  | inl lo ↦ elim (cases_lt n v) [
    | inl hi ↦ absurd (only_those n order long c v h (inr hi))
    | inr le ↦ (lo, le)
  ]
  | inr z ↦ absurd (only_those n order long c v h (inl (omega arith)))
]

has_tested : (v : ℕ) (xs : List ℕ) → list_any (λ w. eqb w v) xs ≡ true → Has v xs
has_tested v xs t = let r = any_found (λ w. eqb w v) xs t in subst (λ u. Has u xs) (eqb-true r.0 v r.1.0) r.1.1

pub once_tested : (n : ℕ) (order : List ℕ) → lists_once n order ≡ true → ListsOnce n order
once_tested n order t =
    let p = and_parts (eqb (length order) n) (list_all (λ v. list_any (λ w. eqb w v) order) (range_with_len 1 n)) t in
    let long = eqb-true (length order) n p.0 in
    let c : Covers n order = record { each = λ v lo hi. has_tested v order (all_in_range (λ u. list_any (λ w. eqb w u) order) 1 n p.1 v (omega arith) (omega arith)) } in
    once_from n order long (apart_from n [] order long c) (inside n order long c)

-- an order that solves a cube fits
pub solution_fits : (p : Polygraph) (cube : Cube) (order : List ℕ) → is_solution p cube order ≡ true → Fits p order
solution_fits p cube order t =
    let a = and_parts (decides_all p cube) (lists_once p.nodes order && keeps_edges order (edges_under p cube)) t in
    let b = and_parts (lists_once p.nodes order) (keeps_edges order (edges_under p cube)) a.1 in
    let k = each_of_append (λ (e : Edge). Before order e.0 e.1) p.known (kept_from (sides_in cube) 0 p.choices) (tested_keeps order (edges_under p cube) b.1) in
    record { once = once_tested p.nodes order b.0; known = k.0; choices = choices_kept p cube order a.0 k.1 }
