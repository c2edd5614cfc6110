-- The nodes that contracts see, and those in memory.
use Rattle.cube_machine.proofs.Prelude.{◌≡◌, ℕ, zero, suc, ◌+◌, ◌<◌, ◌≤◌, Bool, ◌||◌, List, [], ◌∷◌, ◌++◌, length, get_or, Option, None, Some, refl, sym, ap, ◌∙◌, arith, slice_get, slice_set, option_map_or, list_any, get_or_append_left}
use Rattle.cube_machine.proofs.Prelude.{get_or_push, length_push, slice_get_within, slice_get-get_or, slice_get_past, same_Some, Side, Cube, Node, with_mark, child, CubeState, Open, none-some, cube_of, cubes_after, parent_of, nodes_with}
use Rattle.cube_machine.proofs.Prelude.{nodes_of, cube_in, IsWay, Origin, TreeNode}

-- ---- lengths
length_after : (before : List Cube) (xs : List TreeNode) → length (cubes_after before xs) ≡ length before + length xs
unfolding cubes_after
length_after before [] = omega arith
length_after before (x ∷ xs) =
    let r = length_after (before ++ cube_of before x.origin ∷ []) xs in
    let p = length_push before (cube_of before x.origin) in omega (arith, r, p)

pub as_many : (xs : List TreeNode) → length (cubes_after [] xs) ≡ length xs
as_many xs = let r = length_after [] xs in omega (arith, r)

length_with : (cs : List Cube) (xs : List TreeNode) → length cs ≡ length xs → length (nodes_with cs xs) ≡ length xs
unfolding nodes_with
length_with cs [] e = refl
length_with [] (x ∷ xs) e = absurd (omega (arith, e))
length_with (c ∷ cs) (x ∷ xs) e = ap suc (length_with cs xs (omega (arith, e)))

pub length_nodes : (xs : List TreeNode) → length (nodes_of xs) ≡ length xs
unfolding nodes_of
length_nodes xs = length_with (cubes_after [] xs) xs (as_many xs)

-- ---- a node by its number
-- what is seen of a node in memory
abbrev pub seen : List Cube → ℕ → TreeNode → Node
seen cs k x = record { parent = parent_of x.origin; cube = get_or cs k []; mark = x.mark }

with_at : (cs : List Cube) (xs : List TreeNode) (k : ℕ) (x : TreeNode) → length cs ≡ length xs → slice_get xs k ≡ Some x → slice_get (nodes_with cs xs) k ≡ Some (seen cs k x)
unfolding nodes_with
with_at cs [] k x e at = absurd (none-some x at)
with_at [] (z ∷ zs) k x e at = absurd (omega (arith, e))
with_at (c ∷ cs) (z ∷ zs) zero x e at = ap (λ (y : TreeNode). Some (seen (c ∷ cs) zero y)) (same_Some z x at)
with_at (c ∷ cs) (z ∷ zs) (suc k) x e at = with_at cs zs k x (omega (arith, e)) at

pub node_at : (xs : List TreeNode) (k : ℕ) (x : TreeNode) → slice_get xs k ≡ Some x → slice_get (nodes_of xs) k ≡ Some (seen (cubes_after [] xs) k x)
unfolding nodes_of
node_at xs k x at = with_at (cubes_after [] xs) xs k x (as_many xs) at

pub none_at : (xs : List TreeNode) (k : ℕ) → length xs ≤ k → slice_get (nodes_of xs) k ≡ None
none_at xs k le = let e = length_nodes xs in slice_get_past (nodes_of xs) k (omega (arith, e))

pub cube_is : (xs : List TreeNode) (k : ℕ) (x : TreeNode) → slice_get xs k ≡ Some x → cube_in (nodes_of xs) k ≡ get_or (cubes_after [] xs) k []
cube_is xs k x at = ap (λ (o : Option Node). option_map_or (λ (y : Node). y.cube) o []) (node_at xs k x at)

-- a test of a node's mark
pub mark_tested : (t : CubeState → Bool) (d : Bool) (xs : List TreeNode) (k : ℕ) (x : TreeNode) → slice_get xs k ≡ Some x → option_map_or (λ (y : Node). t y.mark) (slice_get (nodes_of xs) k) d ≡ t x.mark
mark_tested t d xs k x at = ap (λ (o : Option Node). option_map_or (λ (y : Node). t y.mark) o d) (node_at xs k x at)

pub mark_absent : (t : CubeState → Bool) (d : Bool) (xs : List TreeNode) (k : ℕ) → length xs ≤ k → option_map_or (λ (y : Node). t y.mark) (slice_get (nodes_of xs) k) d ≡ d
mark_absent t d xs k le = ap (λ (o : Option Node). option_map_or (λ (y : Node). t y.mark) o d) (none_at xs k le)

-- a test of all marks
any_with : (t : CubeState → Bool) (cs : List Cube) (xs : List TreeNode) → length cs ≡ length xs → list_any (λ (y : Node). t y.mark) (nodes_with cs xs) ≡ list_any (λ (y : TreeNode). t y.mark) xs
unfolding nodes_with
any_with t cs [] e = refl
any_with t [] (x ∷ xs) e = absurd (omega (arith, e))
any_with t (c ∷ cs) (x ∷ xs) e = ap (λ b. t x.mark || b) (any_with t cs xs (omega (arith, e)))

pub any_mark : (t : CubeState → Bool) (xs : List TreeNode) → list_any (λ (y : Node). t y.mark) (nodes_of xs) ≡ list_any (λ (y : TreeNode). t y.mark) xs
unfolding nodes_of
any_mark t xs = any_with t (cubes_after [] xs) xs (as_many xs)

-- ---- the way up
cube_before : (before : List Cube) (xs : List TreeNode) (j : ℕ) → j < length before → get_or (cubes_after before xs) j [] ≡ get_or before j []
unfolding cubes_after
cube_before before [] j lt = refl
cube_before before (x ∷ xs) j lt =
    let p = length_push before (cube_of before x.origin) in
    cube_before (before ++ cube_of before x.origin ∷ []) xs j (omega (arith, lt, p)) ∙ get_or_append_left before (cube_of before x.origin ∷ []) [] j lt

same_way : (a b : List Cube) (o : Option Origin) → ((p : Origin) → o ≡ Some p → get_or a p.parent [] ≡ get_or b p.parent []) → cube_of a o ≡ cube_of b o
same_way a b None h = refl
same_way a b (Some p) h = ap (λ c. (p.choice, p.side) ∷ c) (h p refl)

cube_led : (before : List Cube) (xs : List TreeNode) (k : ℕ) (x : TreeNode) → slice_get xs k ≡ Some x → ((o : Origin) → x.origin ≡ Some o → o.parent < length before + k) → get_or (cubes_after before xs) (length before + k) [] ≡ cube_of (cubes_after before xs) x.origin
unfolding cubes_after
cube_led before [] k x at lt = absurd (none-some x at)
cube_led before (z ∷ zs) zero x at lt =
    let here = cube_of before z.origin in
    let now = cubes_after (before ++ here ∷ []) zs in
    let p = length_push before here in
    let z0 : length before + 0 ≡ length before = omega arith in
    let same : z ≡ x = same_Some z x at in
    ap (λ i. get_or now i []) z0
    ∙ cube_before (before ++ here ∷ []) zs (length before) (omega (arith, p))
    ∙ get_or_push before here [] (length before) refl
    ∙ ap (λ (y : TreeNode). cube_of before y.origin) same
    ∙ same_way before now x.origin (λ o e. (let l = lt o e in
    sym (cube_before (before ++ here ∷ []) zs o.parent (omega (arith, l, p)) ∙ get_or_append_left before (here ∷ []) [] o.parent (omega (arith, l)))))
cube_led before (z ∷ zs) (suc k) x at lt =
    let here = cube_of before z.origin in
    let p = length_push before here in
    let n : length before + suc k ≡ length (before ++ here ∷ []) + k = omega (arith, p) in
    ap (λ i. get_or (cubes_after (before ++ here ∷ []) zs) i []) n
    ∙ cube_led (before ++ here ∷ []) zs k x at (λ o e. (let l = lt o e in omega (arith, l, n)))

led : (xs : List TreeNode) (k : ℕ) (x : TreeNode) → slice_get xs k ≡ Some x → ((o : Origin) → x.origin ≡ Some o → o.parent < k) → cube_in (nodes_of xs) k ≡ cube_of (cubes_after [] xs) x.origin
led xs k x at lt =
    let z : k ≡ 0 + k = omega arith in
    cube_is xs k x at ∙ ap (λ i. get_or (cubes_after [] xs) i []) z ∙ cube_led [] xs k x at (λ o e. (let l = lt o e in omega (arith, l)))

way_of : (xs : List TreeNode) (k : ℕ) (x : TreeNode) (o : Option Origin) → x.origin ≡ o → slice_get xs k ≡ Some x → ((p : Origin) → x.origin ≡ Some p → p.parent < k) → IsWay (nodes_of xs) k o
way_of xs k x None e at lt = led xs k x at lt ∙ ap (cube_of (cubes_after [] xs)) e
way_of xs k x (Some p) e at lt =
    let l = lt p e in let w = slice_get_within xs k x at in
    let y = slice_get-get_or xs p.parent x (omega (arith, l, w)) in
    record {
      earlier = l;
      from = ap (λ (o : Option Node). option_map_or (λ (n : Node). n.parent) o 0) (node_at xs k x at) ∙ ap parent_of e;
      cube = led xs k x at lt ∙ ap (cube_of (cubes_after [] xs)) e ∙ ap (λ c. (p.choice, p.side) ∷ c) (sym (cube_is xs p.parent (get_or xs p.parent x) y));
    }

pub is_way : (xs : List TreeNode) (k : ℕ) (x : TreeNode) → slice_get xs k ≡ Some x → ((p : Origin) → x.origin ≡ Some p → p.parent < k) → IsWay (nodes_of xs) k x.origin
is_way xs k x at lt = way_of xs k x x.origin refl at lt

rooted : (nodes : List Node) (o : Option Origin) → IsWay nodes 0 o → cube_in nodes 0 ≡ []
rooted nodes None w = w
rooted nodes (Some o) w = let l = w.earlier in absurd (omega (arith, l))

-- node 0 decides no choice
pub root_way : (xs : List TreeNode) (d : TreeNode) → 0 < length xs → ((x : TreeNode) (p : Origin) → slice_get xs 0 ≡ Some x → x.origin ≡ Some p → p.parent < 0) → cube_in (nodes_of xs) 0 ≡ []
root_way xs d lt ordered =
    let at = slice_get-get_or xs 0 d lt in
    rooted (nodes_of xs) (get_or xs 0 d).origin (is_way xs 0 (get_or xs 0 d) at (λ p f. ordered (get_or xs 0 d) p at f))

-- ---- a written mark
abbrev pub remark : TreeNode → CubeState → TreeNode
remark x m = record { origin = x.origin; mark = m }

cubes_written : (before : List Cube) (xs : List TreeNode) (k : ℕ) (x : TreeNode) (m : CubeState) → slice_get xs k ≡ Some x → cubes_after before (slice_set xs k (remark x m)) ≡ cubes_after before xs
unfolding cubes_after
cubes_written before [] k x m at = refl
cubes_written before (z ∷ zs) zero x m at = ap (λ (y : TreeNode). cubes_after (before ++ cube_of before y.origin ∷ []) zs) (sym (same_Some z x at))
cubes_written before (z ∷ zs) (suc k) x m at = cubes_written (before ++ cube_of before z.origin ∷ []) zs k x m at

with_written : (cs : List Cube) (xs : List TreeNode) (k : ℕ) (y : TreeNode) → length cs ≡ length xs → nodes_with cs (slice_set xs k y) ≡ slice_set (nodes_with cs xs) k (seen cs k y)
unfolding nodes_with
with_written cs [] k y e = refl
with_written [] (z ∷ zs) k y e = absurd (omega (arith, e))
with_written (c ∷ cs) (z ∷ zs) zero y e = refl
with_written (c ∷ cs) (z ∷ zs) (suc k) y e = ap (λ l. record { parent = parent_of z.origin; cube = c; mark = z.mark } ∷ l) (with_written cs zs k y (omega (arith, e)))

pub mark_written : (xs : List TreeNode) (k : ℕ) (x : TreeNode) (m : CubeState) → slice_get xs k ≡ Some x → nodes_of (slice_set xs k (remark x m)) ≡ with_mark (nodes_of xs) k m
unfolding nodes_of
mark_written xs k x m at =
    let cs = cubes_after [] xs in
    ap (λ l. nodes_with l (slice_set xs k (remark x m))) (cubes_written [] xs k x m at)
    ∙ with_written cs xs k (remark x m) (as_many xs)
    ∙ ap (λ (o : Option Node). option_map_or (λ (n : Node). slice_set (nodes_with cs xs) k (record { parent = n.parent; cube = n.cube; mark = m })) o (nodes_with cs xs)) (sym (with_at cs xs k x (as_many xs) at))

-- ---- a new node
cubes_pushed : (before : List Cube) (xs : List TreeNode) (y : TreeNode) → cubes_after before (xs ++ y ∷ []) ≡ cubes_after before xs ++ cube_of (cubes_after before xs) y.origin ∷ []
unfolding cubes_after
cubes_pushed before [] y = refl
cubes_pushed before (x ∷ xs) y = cubes_pushed (before ++ cube_of before x.origin ∷ []) xs y

with_pushed : (cs : List Cube) (xs : List TreeNode) (c : Cube) (y : TreeNode) → length cs ≡ length xs → nodes_with (cs ++ c ∷ []) (xs ++ y ∷ []) ≡ nodes_with cs xs ++ record { parent = parent_of y.origin; cube = c; mark = y.mark } ∷ []
unfolding nodes_with
with_pushed [] [] c y e = refl
with_pushed (d ∷ cs) [] c y e = absurd (omega (arith, e))
with_pushed [] (x ∷ xs) c y e = absurd (omega (arith, e))
with_pushed (d ∷ cs) (x ∷ xs) c y e = ap (λ l. record { parent = parent_of x.origin; cube = d; mark = x.mark } ∷ l) (with_pushed cs xs c y (omega (arith, e)))

abbrev pub leaf : ℕ → ℕ → Side → TreeNode
leaf parent choice side = record { origin = Some (record { parent = parent; choice = choice; side = side }); mark = Open }

pub leaf_pushed : (xs : List TreeNode) (parent choice : ℕ) (side : Side) → parent < length xs → nodes_of (xs ++ leaf parent choice side ∷ []) ≡ nodes_of xs ++ child parent (cube_in (nodes_of xs) parent) choice side ∷ []
unfolding nodes_of
leaf_pushed xs parent choice side lt =
    let y = leaf parent choice side in
    let cs = cubes_after [] xs in
    let at = slice_get-get_or xs parent y lt in
    ap (λ l. nodes_with l (xs ++ y ∷ [])) (cubes_pushed [] xs y)
    ∙ with_pushed cs xs (cube_of cs y.origin) y (as_many xs)
    ∙ ap (λ c. nodes_with cs xs ++ child parent c choice side ∷ []) (sym (ap (λ (o : Option Node). option_map_or (λ (n : Node). n.cube) o []) (with_at cs xs parent (get_or xs parent y) (as_many xs) at)))
