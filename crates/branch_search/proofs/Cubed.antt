-- The cubes of a growing tree.
use Rattle.branch_search.proofs.Prelude.{◌≡◌, ℕ, ◌<◌, List, [], ◌∷◌, ◌++◌, length, map, Option, Some, refl, ap, ◌∙◌, append_assoc, slice_get, slice_set, slice_index_or, option_map_or, map-set, get_or_append_left, One, Two, Cube}
use Rattle.branch_search.proofs.Prelude.{CubeDecision, Growth, TreeNode, sprout, with_growth, cube_below, cubes_after, map_some, set_self}

abbrev pub parents_of : List TreeNode → List ℕ
parents_of nodes = map (λ n. n.parent) nodes

abbrev pub decisions_of : List TreeNode → List (Option CubeDecision)
decisions_of nodes = map (λ n. n.decision) nodes

abbrev pub growths_of : List TreeNode → List Growth
growths_of nodes = map (λ n. n.growth) nodes

-- ---- a node's growth is noted
with_growth_is : (nodes : List TreeNode) (id : ℕ) (g : Growth) (n : TreeNode) → slice_get nodes id ≡ Some n → with_growth nodes id g ≡ slice_set nodes id (record n { growth = g })
with_growth_is nodes id g n e = ap (λ o. option_map_or (λ (x : TreeNode). slice_set nodes id (record x { growth = g })) o nodes) e

pub growths_with : (nodes : List TreeNode) (id : ℕ) (g : Growth) (n : TreeNode) → slice_get nodes id ≡ Some n → growths_of (with_growth nodes id g) ≡ slice_set (growths_of nodes) id g
growths_with nodes id g n e = ap growths_of (with_growth_is nodes id g n e) ∙ map-set (λ (x : TreeNode). x.growth) nodes id (record n { growth = g })

pub parents_with : (nodes : List TreeNode) (id : ℕ) (g : Growth) (n : TreeNode) → slice_get nodes id ≡ Some n → parents_of (with_growth nodes id g) ≡ parents_of nodes
parents_with nodes id g n e =
    ap parents_of (with_growth_is nodes id g n e)
    ∙ map-set (λ (x : TreeNode). x.parent) nodes id (record n { growth = g })
    ∙ set_self (parents_of nodes) id n.parent (map_some (λ (x : TreeNode). x.parent) nodes id n e)

pub decisions_with : (nodes : List TreeNode) (id : ℕ) (g : Growth) (n : TreeNode) → slice_get nodes id ≡ Some n → decisions_of (with_growth nodes id g) ≡ decisions_of nodes
decisions_with nodes id g n e =
    ap decisions_of (with_growth_is nodes id g n e)
    ∙ map-set (λ (x : TreeNode). x.decision) nodes id (record n { growth = g })
    ∙ set_self (decisions_of nodes) id n.decision (map_some (λ (x : TreeNode). x.decision) nodes id n e)

-- ---- cubes rest on parents and decisions alone
head_is : {A : Type 0} (x y : A) (xs ys : List A) → x ∷ xs ≡ y ∷ ys → x ≡ y
head_is x y xs ys e = cc

tail_is : {A : Type 0} (x y : A) (xs ys : List A) → x ∷ xs ≡ y ∷ ys → xs ≡ ys
tail_is x y xs ys e = cc

pub cubes_same : (before : List Cube) (xs ys : List TreeNode) → parents_of xs ≡ parents_of ys → decisions_of xs ≡ decisions_of ys → cubes_after before xs ≡ cubes_after before ys
cubes_same before [] [] p d = refl
cubes_same before [] (y ∷ ys) p d = absurd (cc)
cubes_same before (x ∷ xs) [] p d = absurd (cc)
cubes_same before (x ∷ xs) (y ∷ ys) p d =
    let q = head_is x.parent y.parent (parents_of xs) (parents_of ys) p in
    let e = head_is x.decision y.decision (decisions_of xs) (decisions_of ys) d in
    cubes_same (before ++ cube_below (slice_index_or before x.parent []) x.decision ∷ []) xs ys (tail_is x.parent y.parent (parents_of xs) (parents_of ys) p) (tail_is x.decision y.decision (decisions_of xs) (decisions_of ys) d)
    ∙ ap (λ (z : ℕ × Option CubeDecision). cubes_after (before ++ cube_below (slice_index_or before z.0 []) z.1 ∷ []) ys) (λ i. (q i, e i))

pub cubes_append : (before : List Cube) (xs ys : List TreeNode) → cubes_after before (xs ++ ys) ≡ cubes_after (cubes_after before xs) ys
cubes_append before [] ys = refl
cubes_append before (x ∷ xs) ys = cubes_append (before ++ cube_below (slice_index_or before x.parent []) x.decision ∷ []) xs ys

-- the cubes of two children
pub cubes_split : (cs : List Cube) (id c : ℕ) (cube : Cube) → id < length cs → slice_index_or cs id [] ≡ cube → cubes_after cs (sprout id c One ∷ sprout id c Two ∷ []) ≡ cs ++ ((c, One) ∷ cube) ∷ ((c, Two) ∷ cube) ∷ []
cubes_split cs id c cube lt is =
    ap (λ (k : Cube). (cs ++ ((c, One) ∷ k) ∷ []) ++ ((c, Two) ∷ slice_index_or (cs ++ ((c, One) ∷ k) ∷ []) id []) ∷ []) is
    ∙ ap (λ (k : Cube). (cs ++ ((c, One) ∷ cube) ∷ []) ++ ((c, Two) ∷ k) ∷ []) (get_or_append_left cs (((c, One) ∷ cube) ∷ []) [] id lt ∙ is)
    ∙ append_assoc cs (((c, One) ∷ cube) ∷ []) (((c, Two) ∷ cube) ∷ [])
