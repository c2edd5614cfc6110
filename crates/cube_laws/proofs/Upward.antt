-- The cube of a node: what it decides itself, and its parent's cube.
use Rattle.cube_laws.proofs.Prelude.{◌≡◌, ℕ, zero, suc, ◌+◌, ◌<◌, ◌≤◌, List, [], ◌∷◌, ◌++◌, length, Some, None, refl, sym, ap, ◌∙◌, arith, length-append, slice_get, slice_index_or, get_or_append_left, get_or_at, get_or_past, same_Some}
use Rattle.cube_laws.proofs.Prelude.{Cube}
use Rattle.cube_laws.specs.declared.tree.TreeNode.{TreeNode}
use Rattle.cube_laws.specs.Trees.{cube_below, cubes_after, cube_of}

-- ---- elements past the end

none_past : {A : Type 0} (xs : List A) (k : ℕ) → slice_get xs k ≡ None → length xs ≤ k
none_past [] k e = omega arith
none_past (x ∷ xs) zero e = absurd (cc)
none_past (x ∷ xs) (suc k) e = let r = none_past xs k e in omega (arith, r)

-- ---- the cubes of later nodes change no earlier one's
abbrev with_next : List Cube → TreeNode → List Cube
with_next before x = before ++ cube_below (slice_index_or before x.parent []) x.decision ∷ []

next_length : (before : List Cube) (x : TreeNode) → length (with_next before x) ≡ length before + 1
next_length before x = length-append before (cube_below (slice_index_or before x.parent []) x.decision ∷ [])

kept : (before : List Cube) (xs : List TreeNode) (k : ℕ) → k < length before → slice_index_or (cubes_after before xs) k [] ≡ slice_index_or before k []
kept before [] k lt = refl
kept before (x ∷ xs) k lt =
    let l = next_length before x in
    kept (with_next before x) xs k (omega (arith, lt, l)) ∙ get_or_append_left before (cube_below (slice_index_or before x.parent []) x.decision ∷ []) [] k lt

cubes_length : (before : List Cube) (xs : List TreeNode) → length (cubes_after before xs) ≡ length before + length xs
cubes_length before [] = omega arith
cubes_length before (x ∷ xs) = let r = cubes_length (with_next before x) xs in let l = next_length before x in omega (arith, r, l)

-- the cube of the node that comes next
next_cube : (before : List Cube) (x : TreeNode) (xs : List TreeNode) → slice_index_or (cubes_after before (x ∷ xs)) (length before) [] ≡ cube_below (slice_index_or before x.parent []) x.decision
next_cube before x xs =
    let l = next_length before x in
    kept (with_next before x) xs (length before) (omega (arith, l)) ∙ get_or_at before (cube_below (slice_index_or before x.parent []) x.decision) [] [] (length before) refl

under_from : (before : List Cube) (xs : List TreeNode) (j i : ℕ) (x : TreeNode) → i ≡ length before + j → slice_get xs j ≡ Some x → x.parent < i → slice_index_or (cubes_after before xs) i [] ≡ cube_below (slice_index_or (cubes_after before xs) x.parent []) x.decision
under_from before [] j i x at e lt = absurd (cc)
under_from before (y ∷ ys) zero i x at e lt =
    let same : y ≡ x = same_Some y x e in
    let here : i ≡ length before = omega (arith, at) in
    let low : x.parent < length before = omega (arith, at, lt) in
    ap (λ k. slice_index_or (cubes_after before (y ∷ ys)) k []) here
    ∙ next_cube before y ys
    ∙ ap (λ (z : TreeNode). cube_below (slice_index_or before z.parent []) z.decision) same
    ∙ ap (λ (c : Cube). cube_below c x.decision) (sym (kept before (y ∷ ys) x.parent low))
under_from before (y ∷ ys) (suc j) i x at e lt =
    let l = next_length before y in
    under_from (with_next before y) ys j i x (omega (arith, at, l)) e lt

top_from : (before : List Cube) (xs : List TreeNode) (j i : ℕ) (x : TreeNode) → i ≡ length before + j → slice_get xs j ≡ Some x → i ≤ x.parent → slice_index_or (cubes_after before xs) i [] ≡ cube_below [] x.decision
top_from before [] j i x at e le = absurd (cc)
top_from before (y ∷ ys) zero i x at e le =
    let same : y ≡ x = same_Some y x e in
    let here : i ≡ length before = omega (arith, at) in
    let high : length before ≤ x.parent = omega (arith, at, le) in
    ap (λ k. slice_index_or (cubes_after before (y ∷ ys)) k []) here
    ∙ next_cube before y ys
    ∙ ap (λ (z : TreeNode). cube_below (slice_index_or before z.parent []) z.decision) same
    ∙ ap (λ (c : Cube). cube_below c x.decision) (get_or_past before x.parent [] high)
top_from before (y ∷ ys) (suc j) i x at e le =
    let l = next_length before y in
    top_from (with_next before y) ys j i x (omega (arith, at, l)) e le

-- ---- the cube of a node
pub cube_under : (nodes : List TreeNode) (i : ℕ) (x : TreeNode) → slice_get nodes i ≡ Some x → x.parent < i → cube_of nodes i ≡ cube_below (cube_of nodes x.parent) x.decision
cube_under nodes i x e lt = under_from [] nodes i i x (omega arith) e lt

pub cube_top : (nodes : List TreeNode) (i : ℕ) (x : TreeNode) → slice_get nodes i ≡ Some x → i ≤ x.parent → cube_of nodes i ≡ cube_below [] x.decision
cube_top nodes i x e le = top_from [] nodes i i x (omega arith) e le

pub cube_past : (nodes : List TreeNode) (i : ℕ) → slice_get nodes i ≡ None → cube_of nodes i ≡ []
cube_past nodes i e =
    let le = none_past nodes i e in let l = cubes_length [] nodes in
    get_or_past (cubes_after [] nodes) i [] (omega (arith, le, l))
