-- What the tests of a tree's nodes say, and that no order fits where there is a refutation tree.
use Rattle.tree_checks.proofs.Prelude.{◌≡◌, ◌⊎◌, ℕ, zero, suc, ◌+◌, ◌<◌, ◌≤◌, Bool, true, false, cond, eqb, ◌&&◌, not, List, [], ◌∷◌, length, Option, Some, None, refl, sym, ap, ◌∙◌, subst, inl, inr, arith, slice_get, nat_lt, is_none}
use Rattle.tree_checks.proofs.Prelude.{false≢true, and_parts, and_from, or_cases, or_left, or_right, not-true, ltb-true, lt-ltb, eqb-true, eq-eqb, ne_eqb, not_from_false, Choice, Polygraph, KeepsOne, Fits, is_decided, CubeDecision}
use Rattle.tree_checks.proofs.Prelude.{TreeNode, cube_below, cube_of, IsChild, IsSplit, IsBelow, IsRoot, IsRefutationTree, decides_side, is_child, has_child, is_below, is_root, is_grown, is_sound, cube_under, cube_top}
use Rattle.std.specs.Option.{option_map_or}
use Rattle.std.proofs.lemmas.Option.{same_Some}
use Rattle.pruning_laws.specs.declared.side.Side.{Side}
use Rattle.pruning_laws.specs.declared.side.Side.TheVariants.{One, Two}
use Rattle.pruning_laws.specs.Ledger.{same_side}
use Rattle.cube_laws.proofs.Nodes.{get_below, each_at}
use Rattle.cube_laws.proofs.Alive.{no_cycle}
use Rattle.cube_laws.proofs.Fits.{KeepsCube, cube_opening, cube_split}
use Rattle.pruning_laws.proofs.Ledgers.{same_is, same_itself}
use Rattle.cube_laws.specs.declared.tree.Growth.{Growth}
use Rattle.cube_laws.specs.declared.tree.Growth.TheVariants.{Leaf, Inner}
use Rattle.cube_laws.proofs.Lists.{within}
use Rattle.cube_laws.proofs.Growths.{first_is, second_is}

lt_from : (a b : ℕ) → a < b → nat_lt a b ≡ true
lt_from a b lt = lt-ltb a b lt

-- ---- decisions
decision_is : (d : Option CubeDecision) (c : ℕ) (side : Side) → decides_side d c side ≡ true → d ≡ Some (record { choice = c; side = side })
decision_is None c side t = absurd (false≢true t)
decision_is (Some d) c side t =
    let a = and_parts (eqb d.choice c) (same_side d.side side) t in
    λ i. Some (record { choice = eqb-true d.choice c a.0 i; side = same_is d.side side a.1 i })

decision_tested : (d : Option CubeDecision) (c : ℕ) (side : Side) → d ≡ Some (record { choice = c; side = side }) → decides_side d c side ≡ true
decision_tested d c side e = ap (λ o. decides_side o c side) e ∙ and_from (eqb c c) (same_side side side) (eq-eqb c c refl) (same_itself side)

-- ---- children
child_is : (nodes : List TreeNode) (i c : ℕ) (side : Side) (j : ℕ) → is_child nodes i c side j ≡ true → IsChild nodes i c side j
child_is nodes i c side j t = go (slice_get nodes j) refl parts.1
  where
    parts : (nat_lt i j ≡ true) × (option_map_or (λ x. eqb x.parent i && decides_side x.decision c side) (slice_get nodes j) false ≡ true)
    parts = and_parts (nat_lt i j) (option_map_or (λ x. eqb x.parent i && decides_side x.decision c side) (slice_get nodes j) false) t

    go : (o : Option TreeNode) → slice_get nodes j ≡ o → option_map_or (λ x. eqb x.parent i && decides_side x.decision c side) o false ≡ true → IsChild nodes i c side j
    go None e u = absurd (false≢true u)
    go (Some x) e u =
        let b = and_parts (eqb x.parent i) (decides_side x.decision c side) u in
        record { node = x; here = e; later = ltb-true i j parts.0; parent = eqb-true x.parent i b.0; decision = decision_is x.decision c side b.1 }

child_tested : (nodes : List TreeNode) (i c : ℕ) (side : Side) (j : ℕ) → IsChild nodes i c side j → is_child nodes i c side j ≡ true
child_tested nodes i c side j k =
    and_from (nat_lt i j) (option_map_or (λ x. eqb x.parent i && decides_side x.decision c side) (slice_get nodes j) false) (lt_from i j k.later)
    (ap (λ (o : Option TreeNode). option_map_or (λ x. eqb x.parent i && decides_side x.decision c side) o false) k.here
    ∙ and_from (eqb k.node.parent i) (decides_side k.node.decision c side) (eq-eqb k.node.parent i k.parent) (decision_tested k.node.decision c side k.decision))

-- ---- parents
-- the growth names the node as a child
record Names (g : Growth) (j : ℕ) : Type 0 where
  choice : ℕ
  first : ℕ
  second : ℕ
  split : g ≡ Inner choice first second
  named : (j ≡ first) ⊎ (j ≡ second)

names_is : (g : Growth) (j : ℕ) → has_child g j ≡ true → Names g j
names_is (Leaf line) j t = absurd (false≢true t)
names_is (Inner c first second) j t = record {
  choice = c;
  first = first;
  second = second;
  split = refl;
  named = elim (or_cases (eqb first j) (eqb second j) t) [ inl a ↦ inl (sym (eqb-true first j a)) | inr b ↦ inr (sym (eqb-true second j b)) ];
}

named_tested : (c first second j : ℕ) → (j ≡ first) ⊎ (j ≡ second) → has_child (Inner c first second) j ≡ true
named_tested c first second j (inl e) = or_left (eqb first j) (eqb second j) (eq-eqb first j (sym e))
named_tested c first second j (inr e) = or_right (eqb first j) (eqb second j) (eq-eqb second j (sym e))

record HasParent (nodes : List TreeNode) (i : ℕ) (x : TreeNode) : Type 0 where
  before : x.parent < i
  parent : TreeNode
  here : slice_get nodes x.parent ≡ Some parent
  names : Names parent.growth i

below_is : (nodes : List TreeNode) (i : ℕ) (x : TreeNode) → is_below nodes i x ≡ true → HasParent nodes i x
below_is nodes i x t = go (slice_get nodes x.parent) refl parts.1
  where
    parts : (nat_lt x.parent i ≡ true) × (option_map_or (λ y. has_child y.growth i) (slice_get nodes x.parent) false ≡ true)
    parts = and_parts (nat_lt x.parent i) (option_map_or (λ y. has_child y.growth i) (slice_get nodes x.parent) false) t

    go : (o : Option TreeNode) → slice_get nodes x.parent ≡ o → option_map_or (λ y. has_child y.growth i) o false ≡ true → HasParent nodes i x
    go None e u = absurd (false≢true u)
    go (Some y) e u = record { before = ltb-true x.parent i parts.0; parent = y; here = e; names = names_is y.growth i u }

root_is : (nodes : List TreeNode) (x : TreeNode) → slice_get nodes 0 ≡ Some x → is_root x ≡ true → IsRoot nodes
root_is nodes x e t =
    let a = and_parts (eqb x.parent 0) (is_none x.decision) t in
    record { node = x; here = e; parent = eqb-true x.parent 0 a.0; decision = none x.decision a.1 }
  where
    none : (o : Option CubeDecision) → is_none o ≡ true → o ≡ None
    none None u = refl
    none (Some d) u = absurd (false≢true u)

-- ---- sound nodes
record Sound (p : Polygraph) (nodes : List TreeNode) (i : ℕ) (x : TreeNode) : Type 0 where
  placed : (cond (eqb i 0) (is_root x) (is_below nodes i x)) ≡ true
  grown : is_grown p nodes i x.growth ≡ true

sound_parts : (p : Polygraph) (nodes : List TreeNode) (i : ℕ) (x : TreeNode) → is_sound p nodes i x ≡ true → Sound p nodes i x
unfolding is_sound
sound_parts p nodes i x t =
    let a = and_parts (cond (eqb i 0) (is_root x) (is_below nodes i x)) (is_grown p nodes i x.growth) t in
    record { placed = a.0; grown = a.1 }

sound_from : (p : Polygraph) (nodes : List TreeNode) (i : ℕ) (x : TreeNode) → cond (eqb i 0) (is_root x) (is_below nodes i x) ≡ true → is_grown p nodes i x.growth ≡ true → is_sound p nodes i x ≡ true
unfolding is_sound
sound_from p nodes i x a b = and_from (cond (eqb i 0) (is_root x) (is_below nodes i x)) (is_grown p nodes i x.growth) a b

-- no node but the first is node 0
later : (i : ℕ) (a b : Bool) → cond (eqb (suc i) 0) a b ≡ b
later i a b = ap (λ t. cond t a b) (ne_eqb (suc i) 0 (λ e. omega (arith, e)))

-- ---- from the tests to the tree
abbrev pub AllSound : Polygraph → List TreeNode → Type 0
AllSound p nodes = (i : ℕ) (x : TreeNode) → slice_get nodes i ≡ Some x → is_sound p nodes i x ≡ true

module _ (p : Polygraph) (nodes : List TreeNode) (all : AllSound p nodes) where
  parent_at : (i : ℕ) (x : TreeNode) → 0 < i → slice_get nodes i ≡ Some x → HasParent nodes i x
  parent_at zero x lt e = absurd (omega (arith, lt))
  parent_at (suc i) x lt e = below_is nodes (suc i) x (sym (later i (is_root x) (is_below nodes (suc i) x)) ∙ (sound_parts p nodes (suc i) x (all (suc i) x e)).placed)

  grown_at : (i : ℕ) (x : TreeNode) (g : Growth) → slice_get nodes i ≡ Some x → x.growth ≡ g → is_grown p nodes i g ≡ true
  grown_at i x g e f = ap (is_grown p nodes i) (sym f) ∙ (sound_parts p nodes i x (all i x e)).grown

  below_at : (i : ℕ) (x : TreeNode) → 0 < i → slice_get nodes i ≡ Some x → IsBelow nodes i x
  below_at i x lt e =
      let h = parent_at i x lt e in
      record { before = h.before; parent = h.parent; here = h.here; choice = h.names.choice; first = h.names.first; second = h.names.second; split = h.names.split }

  -- a child of a split node is one of those that it names
  only_at : (i : ℕ) (y : TreeNode) (c first second : ℕ) → slice_get nodes i ≡ Some y → y.growth ≡ Inner c first second → (j : ℕ) (x : TreeNode) → 0 < j → slice_get nodes j ≡ Some x → x.parent ≡ i → (j ≡ first) ⊎ (j ≡ second)
  only_at i y c first second at split j x lt e same =
      let h = parent_at j x lt e in
      let n = h.names in
      let one : h.parent ≡ y = same_Some h.parent y (sym h.here ∙ ap (slice_get nodes) same ∙ at) in
      let g : Inner n.choice n.first n.second ≡ Inner c first second = sym n.split ∙ ap (λ (z : TreeNode). z.growth) one ∙ split in
      elim n.named [
        | inl a ↦ inl (a ∙ first_is n.choice c n.first n.second first second g)
        | inr b ↦ inr (b ∙ second_is n.choice c n.first n.second first second g)
      ]

  split_at : (i : ℕ) (x : TreeNode) (c first second : ℕ) → slice_get nodes i ≡ Some x → x.growth ≡ Inner c first second → IsSplit p nodes i c first second
  split_at i x c first second e f =
      let a = and_parts (nat_lt c (length p.choices)) (not (is_decided (cube_of nodes i) c) && (is_child nodes i c One first && is_child nodes i c Two second)) (grown_at i x (Inner c first second) e f) in
      let b = and_parts (not (is_decided (cube_of nodes i) c)) (is_child nodes i c One first && is_child nodes i c Two second) a.1 in
      let d = and_parts (is_child nodes i c One first) (is_child nodes i c Two second) b.1 in
      record {
        choice = ltb-true c (length p.choices) a.0;
        undecided = not-true (is_decided (cube_of nodes i) c) b.0;
        one = child_is nodes i c One first d.0;
        two = child_is nodes i c Two second d.1;
        only = only_at i x c first second e f;
      }

  pub tree_from : (x : TreeNode) → slice_get nodes 0 ≡ Some x → IsRefutationTree p nodes
  tree_from x e = record {
    root = root_is nodes x e (sound_parts p nodes 0 x (all 0 x e)).placed;
    below = below_at;
    leaves = λ i y line at f. grown_at i y (Leaf line) at f;
    inner = split_at;
  }

-- ---- from the tree to the tests
module _ (p : Polygraph) (nodes : List TreeNode) (t : IsRefutationTree p nodes) where
  grown_from : (i : ℕ) (x : TreeNode) (g : Growth) → slice_get nodes i ≡ Some x → x.growth ≡ g → is_grown p nodes i g ≡ true
  grown_from i x (Leaf line) e f = t.leaves i x line e f
  grown_from i x (Inner c first second) e f =
      let k = t.inner i x c first second e f in
      and_from (nat_lt c (length p.choices)) (not (is_decided (cube_of nodes i) c) && (is_child nodes i c One first && is_child nodes i c Two second)) (lt_from c (length p.choices) k.choice)
      (and_from (not (is_decided (cube_of nodes i) c)) (is_child nodes i c One first && is_child nodes i c Two second) (not_from_false (is_decided (cube_of nodes i) c) k.undecided)
      (and_from (is_child nodes i c One first) (is_child nodes i c Two second) (child_tested nodes i c One first k.one) (child_tested nodes i c Two second k.two)))

  placed_from : (i : ℕ) (x : TreeNode) → slice_get nodes i ≡ Some x → cond (eqb i 0) (is_root x) (is_below nodes i x) ≡ true
  placed_from zero x e =
      let same : t.root.node ≡ x = same_Some t.root.node x (sym t.root.here ∙ e) in
      let parent = ap (λ (z : TreeNode). z.parent) (sym same) ∙ t.root.parent in
      let decision = ap (λ (z : TreeNode). z.decision) (sym same) ∙ t.root.decision in
      and_from (eqb x.parent 0) (is_none x.decision) (eq-eqb x.parent 0 parent) (ap is_none decision)
  placed_from (suc i) x e =
      let b = t.below (suc i) x (omega arith) e in
      let k = t.inner x.parent b.parent b.choice b.first b.second b.here b.split in
      later i (is_root x) (is_below nodes (suc i) x)
      ∙ and_from (nat_lt x.parent (suc i)) (option_map_or (λ y. has_child y.growth (suc i)) (slice_get nodes x.parent) false) (lt_from x.parent (suc i) b.before)
      (ap (λ (o : Option TreeNode). option_map_or (λ y. has_child y.growth (suc i)) o false) b.here
      ∙ ap (λ g. has_child g (suc i)) b.split
      ∙ named_tested b.choice b.first b.second (suc i) (k.only (suc i) x (omega arith) e refl))

  pub all_from : (i : ℕ) (x : TreeNode) → slice_get nodes i ≡ Some x → is_sound p nodes i x ≡ true
  all_from i x e = sound_from p nodes i x (placed_from i x e) (grown_from i x x.growth e refl)

  -- ---- no order fits
  child_cube : (i c : ℕ) (side : Side) (j : ℕ) (k : IsChild nodes i c side j) → cube_of nodes j ≡ (c, side) ∷ cube_of nodes i
  child_cube i c side j k =
      let lt : k.node.parent < j = (let a = k.parent in let b = k.later in omega (arith, a, b)) in
      let parent = k.parent in let decision = k.decision in
      cube_under nodes j k.node k.here lt ∙ (λ h. cube_below (cube_of nodes (parent h)) (decision h))

  module _ (order : List ℕ) (f : Fits p order) where
    abbrev Kept : ℕ → Type 0
    Kept i = KeepsCube p order (cube_of nodes i)

    -- no later node's cube is kept
    abbrev NoLater : ℕ → Type 0
    NoLater i = (j : ℕ) (y : TreeNode) → i < j → slice_get nodes j ≡ Some y → Kept j → ⊥

    child_kept : (i c : ℕ) (side : Side) (j : ℕ) → NoLater i → IsChild nodes i c side j → KeepsCube p order ((c, side) ∷ cube_of nodes i) → ⊥
    child_kept i c side j none k kept = none j k.node k.later k.here (subst (KeepsCube p order) (sym (child_cube i c side j k)) kept)

    split_kept : (i c first second : ℕ) → NoLater i → Kept i → IsSplit p nodes i c first second → (h : Choice) → slice_get p.choices c ≡ Some h → KeepsOne order h → ⊥
    split_kept i c first second none k s h at (inl one) = child_kept i c One first none s.one (cube_split p order (cube_of nodes i) c One h at one k)
    split_kept i c first second none k s h at (inr two) = child_kept i c Two second none s.two (cube_split p order (cube_of nodes i) c Two h at two k)

    growth_kept : (i : ℕ) (x : TreeNode) → NoLater i → slice_get nodes i ≡ Some x → Kept i → (g : Growth) → x.growth ≡ g → ⊥
    growth_kept i x none e k (Leaf line) is = no_cycle p order f (cube_of nodes i) line (t.leaves i x line e is) k
    growth_kept i x none e k (Inner c first second) is =
        let s = t.inner i x c first second e is in
        let h = get_below p.choices c s.choice in
        split_kept i c first second none k s h.0 h.1 (each_at (KeepsOne order) p.choices c h.0 f.choices h.1)

    -- with at most so many nodes from it on
    none_kept : (more i : ℕ) (x : TreeNode) → length nodes ≤ i + more → slice_get nodes i ≡ Some x → Kept i → ⊥
    none_kept zero i x le e k = let lt = within nodes i x e in omega (arith, le, lt)
    none_kept (suc more) i x le e k = growth_kept i x (λ j y after at kept. none_kept more j y (omega (arith, le, after)) at kept) e k x.growth refl

    pub none_fits : ⊥
    none_fits =
        let r = t.root in let parent = r.parent in let decision = r.decision in
        let cube : cube_of nodes 0 ≡ [] = cube_top nodes 0 r.node r.here (omega arith) ∙ ap (cube_below []) decision in
        none_kept (length nodes) 0 r.node (omega arith) r.here (subst (KeepsCube p order) (sym cube) (cube_opening p order))

first_node : (nodes : List TreeNode) → eqb (length nodes) 0 ≡ false → (x : TreeNode) × (slice_get nodes 0 ≡ Some x)
first_node [] e = absurd (false≢true (sym e))
first_node (x ∷ xs) e = (x, refl)

pub tree_checked : (p : Polygraph) (nodes : List TreeNode) → eqb (length nodes) 0 ≡ false → AllSound p nodes → IsRefutationTree p nodes
tree_checked p nodes some all = let x = first_node nodes some in tree_from p nodes all x.0 x.1
