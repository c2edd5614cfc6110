-- How a tree is visited, depth first, and that its leaves are told, up to the greatest number.
use Rattle.tell_trees.proofs.Prelude.{◌≡◌, ℕ, zero, suc, ◌+◌, ◌-◌, ◌*◌, ◌^◌, ◌<◌, ◌≤◌, Bool, cond, eqb, List, [], ◌∷◌, length, map, min, Option, None, Some, refl, sym, ap, ◌∙◌, subst, inl, inr, arith, ◌++◌, get_or, append_assoc, slice_get}
use Rattle.tell_trees.proofs.Prelude.{is_some, count_by, reverse, option_map_or, same_Some, slice_get_within, slice_get-get_or, same_item, some_at, Polygraph, Side, One, Two, Growth, Leaf, Inner, TreeNode, IsChild, IsRefutationTree}
use Rattle.tell_trees.proofs.Prelude.{ClientSession, without_runs, ChainOrder, Round, RoundView, round_view, Waiting, order_at, told_leaves, leaves_round, cycle_in, leaf_count, IsGrown, IsVisited, IsTreeOver, round_at, All, sum_by}
use Rattle.tell_trees.proofs.Prelude.{reverse-append, map-append, All-push, All-pop}
use Rattle.std.proofs.lemmas.Bool.{cases_eq}
use Rattle.std.proofs.lemmas.Bool.Decides.{nat_tests}
use Rattle.std.proofs.lemmas.List.Sums.{sum_by-cons, sum_by_push}
use Rattle.std.proofs.lemmas.Nat.{pow_pos, pow_below}
use Rattle.std.proofs.Math.Pow.{add-lt-pow}
use Rattle.cube_laws.specs.declared.tree.CubeDecision.{CubeDecision}
use Rattle.tell_trees.specs.declared.TheConstants.{MAX_LEAVES}
use Rattle.tell_trees.specs.Visits as visited

-- the sum over the children
abbrev pub over_children : Growth → (ℕ → ℕ) → ℕ
over_children (Leaf line) f = 0
over_children (Inner c first second) f = f first + f second

children_both : (g : Growth) (a b : ℕ → ℕ) → over_children g (λ k. a k + b k) ≡ over_children g a + over_children g b
children_both (Leaf line) a b = refl
children_both (Inner c first second) a b = omega arith

-- ---- sums over the leaves of some nodes, which are numbered from k
abbrev is_leaf : TreeNode → Bool
is_leaf x = is_some (cycle_in x.growth)

abbrev sum_of : (ℕ → ℕ) → ℕ → List TreeNode → ℕ
sum_of f k [] = 0
sum_of f k (x ∷ xs) = cond (is_leaf x) (f k) 0 + sum_of f (suc k) xs

sum_both : (f g h : ℕ → ℕ) (k : ℕ) (xs : List TreeNode) → ((j : ℕ) → j < k + length xs → f j ≡ g j + h j) → sum_of f k xs ≡ sum_of g k xs + sum_of h k xs
sum_both f g h k [] same = refl
sum_both f g h k (x ∷ xs) same = grind (arith, same k (omega arith), sum_both f g h (suc k) xs (λ j lt. same j (omega (arith, lt))))

sum_none : (f : ℕ → ℕ) (k : ℕ) (xs : List TreeNode) → ((j : ℕ) → k ≤ j → f j ≡ 0) → sum_of f k xs ≡ 0
sum_none f k [] none = refl
sum_none f k (x ∷ xs) none = grind (arith, none k (omega arith), sum_none f (suc k) xs (λ j le. none j (omega (arith, le))))

sum_ones : (f : ℕ → ℕ) (k : ℕ) (xs : List TreeNode) → ((j : ℕ) → j < k + length xs → f j ≡ 1) → sum_of f k xs ≡ count_by is_leaf xs
sum_ones f k [] one = refl
sum_ones f k (x ∷ xs) one =
    let rest = sum_ones f (suc k) xs (λ j lt. one j (omega (arith, lt))) in
    grind (arith, one k (omega arith), rest, sum_by-cons (λ (z : TreeNode). cond (is_leaf z) 1 0) x xs)

sum_one : (i j k : ℕ) (xs : List TreeNode) (x : TreeNode) → i ≡ k + j → slice_get xs j ≡ Some x → sum_of (λ n. cond (eqb i n) 1 0) k xs ≡ cond (is_leaf x) 1 0
sum_one i j k [] x e at = absurd (cc)
sum_one i zero k (y ∷ ys) x e at =
    let none = sum_none (λ n. cond (eqb i n) 1 0) (suc k) ys (λ n le. grind (arith, nat_tests)) in
    grind (arith, nat_tests, none, ap is_leaf (same_Some y x at))
sum_one i (suc j) k (y ∷ ys) x e at = grind (arith, nat_tests, sum_one i j (suc k) ys x (omega (arith, e)) at)

sum_children : (g : Growth) (f : ℕ → ℕ → ℕ) (k : ℕ) (xs : List TreeNode) → sum_of (λ j. over_children g (λ i. f i j)) k xs ≡ over_children g (λ i. sum_of (f i) k xs)
sum_children (Leaf line) f k xs = sum_none (λ j. 0) k xs (λ j le. refl)
sum_children (Inner c first second) f k xs = sum_both (λ j. f first j + f second j) (f first) (f second) k xs (λ j lt. refl)

-- ---- of the nodes of a tree
module _ (nodes : List TreeNode) where
  -- the parent of node j + 1
  abbrev up : ℕ → ℕ
  up j = option_map_or (λ (x : TreeNode). x.parent) (slice_get nodes (suc j)) 0

  -- 1 where node j is node i, or stands below it by less than so many steps
  abbrev above : ℕ → ℕ → ℕ → ℕ
  above zero i j = 0
  above (suc n) i zero = cond (eqb i 0) 1 0
  above (suc n) i (suc j) = cond (eqb i (suc j)) 1 0 + above n i (up j)

  -- so many leaves stand below a node, or are it
  abbrev leaves : ℕ → ℕ
  leaves i = sum_of (above (length nodes) i) 0 nodes

  module _ (p : Polygraph) (t : IsRefutationTree p nodes) where
    up_lower : (j : ℕ) (o : Option TreeNode) → slice_get nodes (suc j) ≡ o → option_map_or (λ (x : TreeNode). x.parent) o 0 ≤ j
    up_lower j None at = omega arith
    up_lower j (Some x) at = let b = t.below (suc j) x (omega arith) at in let before = b.before in omega (arith, before)

    root_above : (n j : ℕ) → j < n → above n 0 j ≡ 1
    root_above zero j lt = absurd (omega (arith, lt))
    root_above (suc n) zero lt = refl
    root_above (suc n) (suc j) lt = grind (arith, nat_tests, root_above n (up j) (omega (arith, lt, up_lower j (slice_get nodes (suc j)) refl)))

    -- the first node is no child, and each other one is a child of its parent alone
    none_first : (i : ℕ) (g : Growth) → IsGrown nodes i g → over_children g (λ k. cond (eqb k 0) 1 0) ≡ 0
    none_first i (Leaf line) h = refl
    none_first i (Inner c first second) h =
        let s = t.inner i h.node c first second h.here h.is in let one = s.one.later in let two = s.two.later in grind (arith, nat_tests, one, two)

    one_child : (i : ℕ) (g : Growth) → IsGrown nodes i g → (j : ℕ) (x : TreeNode) → slice_get nodes (suc j) ≡ Some x → over_children g (λ k. cond (eqb k (suc j)) 1 0) ≡ cond (eqb i x.parent) 1 0
    one_child i (Leaf line) h j x at =
        let b = t.below (suc j) x (omega arith) at in
        let other : i ≡ x.parent → ⊥ = λ e. (
        let same = same_item nodes x.parent h.node b.parent (ap (slice_get nodes) (sym e) ∙ h.here) b.here in
        let inner : Leaf line ≡ Inner b.choice b.first b.second = sym h.is ∙ ap (λ (z : TreeNode). z.growth) same ∙ b.split in
        absurd (cc)) in
        grind (arith, nat_tests, other)
    one_child i (Inner c first second) h j x at =
        let s = t.inner i h.node c first second h.here h.is in
        let is : (side : Side) (k : ℕ) → IsChild nodes i c side k → k ≡ suc j → (x.parent ≡ i) × (x.decision ≡ Some (record { choice = c; side = side })) = λ side k child e. (
        let same = same_item nodes (suc j) x child.node at (ap (slice_get nodes) (sym e) ∙ child.here) in
        (ap (λ (z : TreeNode). z.parent) same ∙ child.parent, ap (λ (z : TreeNode). z.decision) same ∙ child.decision)) in
        let apart : first ≡ suc j → second ≡ suc j → ⊥ = λ e f. (
        let sides : One ≡ Two = ap (λ (d : CubeDecision). d.side) (same_Some (record { choice = c; side = One }) (record { choice = c; side = Two }) (sym (is One first s.one e).1 ∙ (is Two second s.two f).1)) in
        absurd (cc)) in
        elim (cases_eq first (suc j)) [
          | inl e ↦ grind (arith, nat_tests, (is One first s.one e).0, apart e)
          | inr ne ↦ elim (cases_eq second (suc j)) [
            | inl e ↦ grind (arith, nat_tests, (is Two second s.two e).0)
            | inr other ↦ grind (arith, nat_tests, s.only (suc j) x (omega arith) at)
          ]
        ]

    -- a node other than node i stands below it if it stands below one of its children, or is it
    split_above : (n i j : ℕ) (g : Growth) → IsGrown nodes i g → j < length nodes → j < n → above n i j ≡ cond (eqb i j) 1 0 + over_children g (λ k. above n k j)
    split_above zero i j g h within lt = absurd (omega (arith, lt))
    split_above (suc n) i zero g h within lt = omega (arith, none_first i g h)
    split_above (suc n) i (suc j) g h within lt =
        let r = some_at nodes (suc j) within in
        let low = up_lower j (slice_get nodes (suc j)) refl in
        let parent = ap {B = ℕ} (λ (o : Option TreeNode). cond (eqb i (option_map_or (λ (z : TreeNode). z.parent) o 0)) 1 0) r.1 in
        omega (arith, one_child i g h j r.0 r.1, parent, split_above n i (up j) g h (omega (arith, within, low)) (omega (arith, lt, low)), children_both g (λ k. cond (eqb k (suc j)) 1 0) (λ k. above n k (up j)))

    -- ---- so many are told
    leaves_are : (i : ℕ) (g : Growth) → IsGrown nodes i g → leaves i ≡ cond (is_some (cycle_in g)) 1 0 + over_children g leaves
    leaves_are i g h =
        sum_both (above (length nodes) i) (λ j. cond (eqb i j) 1 0) (λ j. over_children g (λ k. above (length nodes) k j)) 0 nodes (λ j lt. split_above (length nodes) i j g h (omega (arith, lt)) (omega (arith, lt)))
        ∙ (λ z. sum_one i i 0 nodes h.node (omega arith) h.here z + sum_children g (above (length nodes)) 0 nodes z)
        ∙ ap (λ (x : Growth). cond (is_some (cycle_in x)) 1 0 + over_children g leaves) h.is

    module _ {ss : List ClientSession} {orders : List ChainOrder} where
      told_below : {decided : List ChainOrder} {i n k : ℕ} {rs : List RoundView} → IsVisited ss orders nodes i decided n k rs → n ≤ MAX_LEAVES → k ≡ min MAX_LEAVES (n + leaves i)
      told_below (visited.leaf i decided n line lt h) le = omega (arith, lt, leaves_are i (Leaf line) h)
      told_below (visited.split i decided n m k c first second one two h lt a b) le =
          let front = told_below a le in
          omega (arith, front, told_below b (omega (arith, front)), leaves_are i (Inner c first second) h)
      told_below (visited.left_out i decided) le = omega arith

      pub told_count : {last : ℕ} {rs : List RoundView} → IsVisited ss orders nodes 0 [] 0 last rs → last ≡ told_leaves (leaf_count nodes)
      told_count v = grind (arith, nat_tests, told_below v (omega arith), sum_ones (above (length nodes) 0) 0 nodes (λ j lt. root_above (length nodes) j (omega (arith, lt))))

-- at least so much is left to do, where these wait: children stand behind their parent
abbrev pub weight : List TreeNode → Waiting → ℕ
weight nodes w = 2 ^ (2 * (length nodes - w.node))

abbrev pub load : List TreeNode → List Waiting → ℕ
load nodes waiting = sum_by (weight nodes) waiting

module _ (ss : List ClientSession) (orders : List ChainOrder) (nodes : List TreeNode) where
  -- the nodes told so far, and then those of these nodes and of all below them, are the whole tree's
  abbrev pub Finishes : List Waiting → ℕ → List RoundView → Type 0
  Finishes [] n rs = IsVisited ss orders nodes 0 [] 0 n rs
  Finishes (w ∷ ws) n rs = (m : ℕ) (own : List RoundView) → IsVisited ss orders nodes w.node w.decided.items n m own → Finishes ws m (rs ++ own)

  -- where the walk stands: of the waiting nodes the last one is visited first
  pub record IsUnderway (waiting : List Waiting) (leaves : ℕ) (rounds : List Round) : Type 0 where
    pub within : All (λ w. w.node < length nodes) waiting
    pub few : leaves ≤ MAX_LEAVES
    pub told : List RoundView
    pub rounds_are : map round_view rounds ≡ leaves_round (leaf_count nodes) ∷ told
    pub whole : Finishes (reverse waiting) leaves told

  -- a node is taken, and what is told of it is put behind
  module _ (t : IsTreeOver (length orders) nodes) {waiting : List Waiting} (rest : List Waiting) (w : Waiting) {n : ℕ} {rounds : List Round} (popped : waiting ≡ rest ++ w ∷ []) (u : IsUnderway waiting n rounds) where
    parts : All (λ v. v.node < length nodes) rest × (w.node < length nodes)
    parts = All-pop (λ v. v.node < length nodes) waiting rest (Some w) popped u.within

    pub grown_at : (x : TreeNode) (growth : Growth) → (get_or nodes w.node x).growth ≡ growth → IsGrown nodes w.node growth
    grown_at x growth e = record { node = get_or nodes w.node x; here = slice_get-get_or nodes w.node x parts.1; is = e }

    under : Finishes (w ∷ reverse rest) n u.told
    under = subst (λ ws. Finishes ws n u.told) (ap reverse popped ∙ reverse-append rest (w ∷ [])) u.whole

    module _ (r : Round) (line : Option (List ℕ)) (is : round_view r ≡ round_at w.decided.items line) where
      pushed : map round_view (rounds ++ r ∷ []) ≡ leaves_round (leaf_count nodes) ∷ (u.told ++ round_at w.decided.items line ∷ [])
      pushed = map-append round_view rounds (r ∷ []) ∙ (λ z. u.rounds_are z ++ is z ∷ [])

      pub left_next : line ≡ None → MAX_LEAVES ≤ n → IsUnderway rest n (rounds ++ r ∷ [])
      left_next none le =
          let few = u.few in
          let all : MAX_LEAVES ≡ n = omega (arith, few, le) in
          let own : IsVisited ss orders nodes w.node w.decided.items n n (round_at w.decided.items line ∷ []) = subst (λ l. IsVisited ss orders nodes w.node w.decided.items n n (round_at w.decided.items l ∷ [])) (sym none) (subst (λ k. IsVisited ss orders nodes w.node w.decided.items k k (round_at w.decided.items None ∷ [])) all (visited.left_out w.node w.decided.items)) in
          record { within = parts.0; few = few; told = _; rounds_are = pushed; whole = under n _ own }

      pub leaf_next : (cycle : List ℕ) → line ≡ Some (without_runs ss cycle) → n < MAX_LEAVES → IsGrown nodes w.node (Leaf cycle) → IsUnderway rest (n + 1) (rounds ++ r ∷ [])
      leaf_next cycle told lt g =
          let own = subst (λ l. IsVisited ss orders nodes w.node w.decided.items n (n + 1) (round_at w.decided.items l ∷ [])) (sym told) (visited.leaf w.node w.decided.items n cycle lt g) in
          record { within = parts.0; few = omega (arith, lt); told = _; rounds_are = pushed; whole = under (n + 1) _ own }

      pub split_next : (c : ℕ) (one two : Waiting) → line ≡ None → one.decided.items ≡ order_at orders (c, One) ∷ w.decided.items → two.decided.items ≡ order_at orders (c, Two) ∷ w.decided.items → IsGrown nodes w.node (Inner c one.node two.node) → IsUnderway ((rest ++ two ∷ []) ++ one ∷ []) n (rounds ++ r ∷ [])
      split_next c one two none first second g =
          let s = t.shown.inner w.node g.node c one.node two.node g.here g.is in
          let Within : Waiting → Type 0 = λ v. v.node < length nodes in
          let waits : one ∷ two ∷ reverse rest ≡ reverse ((rest ++ two ∷ []) ++ one ∷ []) = sym (reverse-append (rest ++ two ∷ []) (one ∷ []) ∙ ap (λ ws. one ∷ ws) (reverse-append rest (two ∷ []))) in
          let here = round_at w.decided.items line in
          let whole : Finishes (one ∷ two ∷ reverse rest) n (u.told ++ here ∷ []) = λ m front a k back b.
          subst (λ rs. Finishes (reverse rest) k rs) (sym (append_assoc (u.told ++ here ∷ []) front back ∙ append_assoc u.told (here ∷ []) (front ++ back)))
          (under k (here ∷ (front ++ back)) (subst (λ l. IsVisited ss orders nodes w.node w.decided.items n k (round_at w.decided.items l ∷ (front ++ back))) (sym none) (visited.split w.node w.decided.items n m k c one.node two.node front back g (let choice = s.choice in omega (arith, choice, t.count)) (subst (λ os. IsVisited ss orders nodes one.node os n m front) first a) (subst (λ os. IsVisited ss orders nodes two.node os m k back) second b)))) in
          record {
            within = All-push Within (rest ++ two ∷ []) one (All-push Within rest two parts.0 (slice_get_within nodes two.node s.two.node s.two.here)) (slice_get_within nodes one.node s.one.node s.one.here);
            few = u.few;
            told = _;
            rounds_are = pushed;
            whole = subst (λ ws. Finishes ws n (u.told ++ here ∷ [])) waits whole;
          }

    -- less is left to do
    load_is : load nodes waiting ≡ load nodes rest + weight nodes w
    load_is = ap (load nodes) popped ∙ sum_by_push (weight nodes) rest w

    pub less_left : load nodes rest < load nodes waiting
    less_left = omega (arith, load_is, pow_pos (2 * (length nodes - w.node)))

    pub less_split : (c : ℕ) (one two : Waiting) → IsGrown nodes w.node (Inner c one.node two.node) → load nodes ((rest ++ two ∷ []) ++ one ∷ []) < load nodes waiting
    less_split c one two g =
        let s = t.shown.inner w.node g.node c one.node two.node g.here g.is in
        let within : w.node < length nodes = parts.1 in
        let k = 2 * (length nodes - w.node) - 1 in
        let first = s.one.later in
        let second = s.two.later in
        let both = add-lt-pow k (pow_below (2 * (length nodes - one.node)) k (omega (arith, within, first))) (pow_below (2 * (length nodes - two.node)) k (omega (arith, within, second))) in
        let e : suc k ≡ 2 * (length nodes - w.node) = omega (arith, within) in
        omega (arith, load_is, both, ap (λ n. 2 ^ n) e, sum_by_push (weight nodes) rest two, sum_by_push (weight nodes) (rest ++ two ∷ []) one)
