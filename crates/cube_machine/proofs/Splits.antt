-- Nodes with a mark written, and with two more.
use Rattle.cube_machine.proofs.Prelude.{◌≡◌, ℕ, ◌<◌, true, false, List, [], ◌∷◌, ◌++◌, length, get_or, Option, None, Some, refl, sym, ap, ◌∙◌, arith, append_assoc, slice_get, slice_set, option_map_or, length-set, slice_get_within}
use Rattle.cube_machine.proofs.Prelude.{slice_get-get_or, get_put, One, Two, Node, is_open, is_held_by, held_from, last_open_from, with_mark, child, CubeState, none-some, get_front, found_held, found_open, found_first, cube_in}

pub held_within : (nodes : List Node) (seat id : ℕ) → held_from seat 0 nodes ≡ Some id → id < length nodes
held_within nodes seat id e =
    let m = found_first (is_held_by seat) nodes id (found_held seat 0 id nodes e) in slice_get_within nodes id m.node m.at

pub last_ready : (nodes : List Node) (id : ℕ) → last_open_from 0 nodes ≡ Some id → option_map_or (λ (x : Node). is_open x.mark) (slice_get nodes id) false ≡ true
last_ready nodes id e =
    let m = found_first is_open nodes id (found_open 0 id nodes e) in
    ap (λ (o : Option Node). option_map_or (λ (x : Node). is_open x.mark) o false) m.at ∙ m.passes

-- ---- a mark
length_under : (nodes : List Node) (id : ℕ) (m : CubeState) (o : Option Node) → length (option_map_or (λ (x : Node). slice_set nodes id (record x { mark = m })) o nodes) ≡ length nodes
length_under nodes id m None = refl
length_under nodes id m (Some x) = length-set nodes id (record x { mark = m })

pub length_marked : (nodes : List Node) (id : ℕ) (m : CubeState) → length (with_mark nodes id m) ≡ length nodes
length_marked nodes id m = length_under nodes id m (slice_get nodes id)

cube_under : (nodes : List Node) (id : ℕ) (m : CubeState) (o : Option Node) → slice_get nodes id ≡ o → cube_in (option_map_or (λ (x : Node). slice_set nodes id (record x { mark = m })) o nodes) id ≡ option_map_or (λ (x : Node). x.cube) o []
cube_under nodes id m None e = ap (λ (o : Option Node). option_map_or (λ (x : Node). x.cube) o []) e
cube_under nodes id m (Some x) e = ap (λ (o : Option Node). option_map_or (λ (y : Node). y.cube) o []) (get_put nodes id x (record x { mark = m }) e)

pub cube_marked : (nodes : List Node) (id : ℕ) (m : CubeState) → cube_in (with_mark nodes id m) id ≡ cube_in nodes id
cube_marked nodes id m = cube_under nodes id m (slice_get nodes id) refl

pub cube_front : (nodes more : List Node) (id : ℕ) → id < length nodes → cube_in (nodes ++ more) id ≡ cube_in nodes id
cube_front nodes more id lt = front nodes more id (slice_get nodes id) refl lt
  where
    front : (nodes more : List Node) (id : ℕ) (o : Option Node) → slice_get nodes id ≡ o → id < length nodes → cube_in (nodes ++ more) id ≡ cube_in nodes id
    front nodes more id (Some x) e lt =
        ap (λ (o : Option Node). option_map_or (λ (y : Node). y.cube) o []) (get_front nodes more id x e ∙ sym e)
    front [] more id None e lt = absurd (omega (arith, lt))
    front (y ∷ ys) more id None e lt = absurd (none-some (get_or (y ∷ ys) id y) (sym e ∙ slice_get-get_or (y ∷ ys) id y lt))

-- ---- two children
pub two_more : (nodes marked : List Node) (id c : ℕ) → id < length marked → cube_in marked id ≡ cube_in nodes id
    → (marked ++ child id (cube_in marked id) c One ∷ []) ++ child id (cube_in (marked ++ child id (cube_in marked id) c One ∷ []) id) c Two ∷ []
    ≡ marked ++ child id (cube_in nodes id) c One ∷ child id (cube_in nodes id) c Two ∷ []
two_more nodes marked id c lt e =
    let one = child id (cube_in marked id) c One in
    let front = cube_front marked (one ∷ []) id lt in
    append_assoc marked (one ∷ []) (child id (cube_in (marked ++ one ∷ []) id) c Two ∷ [])
    ∙ (λ i. marked ++ child id (e i) c One ∷ child id ((front ∙ e) i) c Two ∷ [])
