-- A binary search among items that are sorted by number.
use Rattle.session_history.proofs.Prelude.{◌≡◌, ℕ, zero, suc, ◌+◌, ◌<◌, ◌≤◌, Bool, true, false, eqb, ltb, cond, List, [], ◌∷◌, length, get_or, Option, None, Some, refl, sym, ap, ◌∙◌, subst, inl, inr, arith, add-one, map, cons_option}
use Rattle.session_history.proofs.Prelude.{AllByRecursion, HoldsAt, option_map, is_lt, ordering_index, nat_cmp_total, cases_eq, cases_lt, cases_Bool, le-ltb, eqb-true, eq-eqb, get_or-map, length-map, All-from_recursion}
use Rattle.session_history.proofs.Prelude.{searchable_from_sorted, pair_at, pairs}
use Rattle.std.specs.List.Sorted.{IsSortedBy, IsNonDecreasingBy, IsPartitionPoint}
use Rattle.std.specs.Ordering.{nat_cmp}
use Rattle.std.specs.declared.cmp.Ordering.TheVariants.{Less, Equal, Greater}

-- ---- numbers rise, from a on
abbrev Rises : {Y : Type 0} → ℕ → List (ℕ × Y) → Type 0
Rises a [] = Unit {0}
Rises a (p ∷ ps) = (a ≤ p.0) × Rises (p.0 + 1) ps

rises_weaker : {Y : Type 0} (a b : ℕ) (ps : List (ℕ × Y)) → a ≤ b → Rises b ps → Rises a ps
rises_weaker a b [] le h = tt
rises_weaker a b (p ∷ ps) le h = (omega (arith, le, h.0), h.1)

rises_one : {Y : Type 0} (a : ℕ) (o : Option Y) (ps : List (ℕ × Y)) → Rises (a + 1) ps → Rises a (cons_option (option_map (λ w. (a, w)) o) ps)
rises_one a None ps h = rises_weaker a (a + 1) ps (omega arith) h
rises_one a (Some w) ps h = (omega arith, h)

rises : {Y : Type 0} (g : ℕ → Option Y) (a n : ℕ) → Rises a (pairs g a n)
rises g a zero = tt
rises g a (suc n) = rises_one a (g a) (pairs g (a + 1) n) (rises g (a + 1) n)

rises_at : {Y : Type 0} (a : ℕ) (ps : List (ℕ × Y)) (k : ℕ) (d : ℕ × Y) → Rises a ps → k < length ps → a ≤ (get_or ps k d).0
rises_at a [] k d h lt = absurd (omega arith)
rises_at a (p ∷ ps) zero d h lt = h.0
rises_at a (p ∷ ps) (suc k) d h lt = let le = rises_at (p.0 + 1) ps k d h.1 (omega arith) in omega (arith, le, h.0)

rises_next : {Y : Type 0} (a : ℕ) (ps : List (ℕ × Y)) (k : ℕ) (d : ℕ × Y) → Rises a ps → suc k < length ps → (get_or ps k d).0 ≤ (get_or ps (suc k) d).0
rises_next a [] k d h lt = absurd (omega arith)
rises_next a (p ∷ ps) zero d h lt = let le = rises_at (p.0 + 1) ps zero d h.1 (omega arith) in omega (arith, le)
rises_next a (p ∷ ps) (suc k) d h lt = rises_next (p.0 + 1) ps k d h.1 (omega arith)

-- ---- each pair is of a number and what g gives
each_one : {Y : Type 0} (P : (ℕ × Y) → Type 0) (a : ℕ) (o : Option Y) (ps : List (ℕ × Y)) → ((w : Y) → o ≡ Some w → P (a, w)) → AllByRecursion P ps → AllByRecursion P (cons_option (option_map (λ w. (a, w)) o) ps)
each_one P a None ps h k = k
each_one P a (Some w) ps h k = (h w refl, k)

each_given : {Y : Type 0} (g : ℕ → Option Y) (a n : ℕ) → AllByRecursion (λ (p : ℕ × Y). g p.0 ≡ Some p.1) (pairs g a n)
each_given g a zero = tt
each_given {Y} g a (suc n) =
    each_one (λ (p : ℕ × Y). g p.0 ≡ Some p.1) a (g a) (pairs g (a + 1) n) (λ w e. e) (each_given g (a + 1) n)

-- a number with a value has its place
record PlaceOf {Y : Type 0} (x : ℕ) (ps : List (ℕ × Y)) : Type 0 where
  pub place : ℕ
  pub within : place < length ps
  pub stands : (d : ℕ × Y) → (get_or ps place d).0 ≡ x

one_place : {Y : Type 0} (x : ℕ) (o : Option (ℕ × Y)) (ps : List (ℕ × Y)) → PlaceOf x ps → PlaceOf x (cons_option o ps)
one_place x None ps h = h
one_place x (Some p) ps h = record { place = suc h.place; within = omega (arith, h.within); stands = h.stands }

here_place : {Y : Type 0} (x : ℕ) (w : Y) (o : Option Y) (ps : List (ℕ × Y)) → o ≡ Some w → PlaceOf x (cons_option (option_map (λ w. (x, w)) o) ps)
here_place x w None ps e = cc
here_place x w (Some y) ps e = record { place = 0; within = omega arith; stands = λ d. refl }

placed : {Y : Type 0} (g : ℕ → Option Y) (a n x : ℕ) (w : Y) → a ≤ x → x < a + n → g x ≡ Some w → PlaceOf x (pairs g a n)
placed g a zero x w lo hi e = absurd (omega arith)
placed g a (suc n) x w lo hi e =
    let rest = pairs g (a + 1) n in
    elim (cases_eq a x) [
      | inl same ↦ subst (λ k. PlaceOf x (cons_option (option_map (λ w. (k, w)) (g k)) rest)) (sym same) (here_place x w (g x) rest e)
      | inr ne ↦ one_place x (pair_at g a) rest (placed g (a + 1) n x w (omega (arith, ne)) (omega arith) e)
    ]

-- ---- numbers compared
not_less : (a b : ℕ) → b ≤ a → is_lt (nat_cmp a b) ≡ false
not_less a b le = rw (le-ltb a b le) (elim (cases_Bool (eqb a b)) [ inl e ↦ rw e refl | inr e ↦ rw e refl ])

same_is_equal : (a b : ℕ) → a ≡ b → nat_cmp a b ≡ Equal
same_is_equal a b e = rw (le-ltb a b (omega (arith, e)), eq-eqb a b e) refl

equal_tests : (s t : Bool) → cond s Less (cond t Equal Greater) ≡ Equal → t ≡ true
equal_tests true t e = cc
equal_tests false true e = refl
equal_tests false false e = cc

equal_is_same : (a b : ℕ) → nat_cmp a b ≡ Equal → a ≡ b
equal_is_same a b e = eqb-true a b (equal_tests (ltb a b) (eqb a b) e)

-- ---- items that stand for such pairs
module _ {X Y : Type 0} (g : ℕ → Option Y) (n : ℕ) (view : X → ℕ × Y) (items : List X) (are : map view items ≡ pairs g 0 n) where
  pair_is : (k : ℕ) (d : X) (e : ℕ × Y) → k < length items → get_or (pairs g 0 n) k e ≡ view (get_or items k d)
  pair_is k d e lt = ap (λ l. get_or l k e) (sym are) ∙ get_or-map view items k d e lt

  count : length (pairs g 0 n) ≡ length items
  count = ap length (sym are) ∙ length-map items view

  sorted : IsSortedBy (λ a b. is_lt (nat_cmp (view a).0 (view b).0)) items
  sorted k d lo lt =
      let ps = pairs g 0 n in
      let le = rises_next 0 ps k (view d) (rises g 0 n) (omega (arith, count)) in
      let first = ap (λ (p : ℕ × Y). p.0) (pair_is k d (view d) (omega arith)) in
      let second = ap (λ (p : ℕ × Y). p.0) (ap (λ j. get_or ps j (view d)) (sym (add-one k)) ∙ pair_is (k + 1) d (view d) lt) in
      not_less (view (get_or items (k + 1) d)).0 (view (get_or items k d)).0 (omega (arith, le, first, second))

  pub item_found : (x i : ℕ) (d : X) → i < length items → HoldsAt (λ y. nat_cmp (view y).0 x ≡ Equal) items i → Some (view (get_or items i d)).1 ≡ g x
  item_found x i d lt equal =
      let given = All-from_recursion (λ (p : ℕ × Y). g p.0 ≡ Some p.1) (pairs g 0 n) (each_given g 0 n) in
      let at = given i (view d) (omega (arith, lt, count)) in
      let pair = pair_is i d (view d) lt in
      let key : (view (get_or items i d)).0 ≡ x = equal_is_same (view (get_or items i d)).0 x (equal d) in
      let P : ℕ × Y → Type 0 = λ p. g p.0 ≡ Some p.1 in
      sym (subst P pair at) ∙ ap g key

  none_with : (x i : ℕ) (w : Y) (d : X) → x < n → g x ≡ Some w → (IsNonDecreasingBy (λ y. ordering_index (nat_cmp (view y).0 x)) items → IsPartitionPoint (λ y. nat_cmp (view y).0 x ≡ Less) (λ y. nat_cmp (view y).0 x ≡ Greater) items i) → ⊥
  none_with x i w d lt e search' =
      let parts = search' (searchable_from_sorted nat_cmp_total (λ y. (view y).0) items x sorted) in
      let at = placed g 0 n x w (omega arith) (omega arith) e in
      let within : at.place < length items = omega (arith, at.within, count) in
      let number : (view (get_or items at.place d)).0 ≡ x = sym (ap (λ (p : ℕ × Y). p.0) (pair_is at.place d (view d) within)) ∙ at.stands (view d) in
      let equal = same_is_equal (view (get_or items at.place d)).0 x number in
      elim (cases_lt at.place i) [
        | inl before ↦ let less = parts.0 at.place d (omega arith) before in let bad : Less ≡ Equal = sym less ∙ equal in cc
        | inr behind ↦ let greater = parts.1 at.place d behind within in let bad : Greater ≡ Equal = sym greater ∙ equal in cc
      ]

  none_among : (x i : ℕ) (w : Y) (xs : List X) → xs ≡ items → x < n → g x ≡ Some w → (IsNonDecreasingBy (λ y. ordering_index (nat_cmp (view y).0 x)) items → IsPartitionPoint (λ y. nat_cmp (view y).0 x ≡ Less) (λ y. nat_cmp (view y).0 x ≡ Greater) items i) → ⊥
  none_among x i w [] same lt e search' =
      let at = placed g 0 n x w (omega arith) (omega arith) e in
      let empty = ap length same in
      omega (arith, at.within, count, empty)
  none_among x i w (d ∷ xs) same lt e search' = none_with x i w d lt e search'

  absent_in : (x i : ℕ) (o : Option Y) → g x ≡ o → x < n → (IsNonDecreasingBy (λ y. ordering_index (nat_cmp (view y).0 x)) items → IsPartitionPoint (λ y. nat_cmp (view y).0 x ≡ Less) (λ y. nat_cmp (view y).0 x ≡ Greater) items i) → None ≡ g x
  absent_in x i None e lt search' = sym e
  absent_in x i (Some w) e lt search' = absurd (none_among x i w items refl lt e search')

  pub item_absent : (x i : ℕ) → x < n → (IsNonDecreasingBy (λ y. ordering_index (nat_cmp (view y).0 x)) items → IsPartitionPoint (λ y. nat_cmp (view y).0 x ≡ Less) (λ y. nat_cmp (view y).0 x ≡ Greater) items i) → None ≡ g x
  item_absent x i lt search' = absent_in x i (g x) refl lt search'
