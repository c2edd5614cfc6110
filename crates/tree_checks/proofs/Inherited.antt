-- What the cube of a node decides, and which edges are under it: by what it decides itself, and by its parent's cube.
use Rattle.tree_checks.proofs.Prelude.{◌≡◌, ◌⊎◌, ℕ, ◌<◌, ◌≤◌, true, false, ◌||◌, List, [], Option, Some, None, refl, sym, ap, ◌∙◌, inl, inr, slice_get, or_left, Edge, Polygraph, has_edge, Cube, is_decided, edges_under, side_in, cube_edges}
use Rattle.tree_checks.proofs.Prelude.{CubeDecision, TreeNode, cube_below, cube_of, cube_under, cube_top, cube_past, decides, adds}
use Rattle.known_graph.proofs.Bools.{or_second}
use Rattle.known_graph.proofs.Rows.{edge_append}
use Rattle.cube_machine.proofs.Edges.{under_is}

-- ---- what a cube decides, on the way up
decided_below : (cube : Cube) (d : Option CubeDecision) (c : ℕ) → is_decided (cube_below cube d) c ≡ (decides d c || is_decided cube c)
decided_below cube None c = refl
decided_below cube (Some d) c = refl

joined : (nodes : List TreeNode) (i : ℕ) (x : TreeNode) (c : ℕ) (above : Cube) → cube_of nodes i ≡ cube_below above x.decision → is_decided (cube_of nodes i) c ≡ (decides x.decision c || is_decided above c)
joined nodes i x c above e = ap (λ (k : Cube). is_decided k c) e ∙ decided_below above x.decision c

pub decided_here : (nodes : List TreeNode) (i : ℕ) (x : TreeNode) (c : ℕ) → slice_get nodes i ≡ Some x → decides x.decision c ≡ true → (x.parent < i) ⊎ (i ≤ x.parent) → is_decided (cube_of nodes i) c ≡ true
decided_here nodes i x c e t (inl lt) = joined nodes i x c (cube_of nodes x.parent) (cube_under nodes i x e lt) ∙ or_left (decides x.decision c) (is_decided (cube_of nodes x.parent) c) t
decided_here nodes i x c e t (inr le) = joined nodes i x c [] (cube_top nodes i x e le) ∙ or_left (decides x.decision c) (is_decided [] c) t

pub decided_up : (nodes : List TreeNode) (i : ℕ) (x : TreeNode) (c : ℕ) → slice_get nodes i ≡ Some x → decides x.decision c ≡ false → x.parent < i → is_decided (cube_of nodes i) c ≡ is_decided (cube_of nodes x.parent) c
decided_up nodes i x c e f lt = joined nodes i x c (cube_of nodes x.parent) (cube_under nodes i x e lt) ∙ or_second (decides x.decision c) (is_decided (cube_of nodes x.parent) c) f

pub decided_top : (nodes : List TreeNode) (i : ℕ) (x : TreeNode) (c : ℕ) → slice_get nodes i ≡ Some x → decides x.decision c ≡ false → i ≤ x.parent → is_decided (cube_of nodes i) c ≡ false
decided_top nodes i x c e f le = joined nodes i x c [] (cube_top nodes i x e le) ∙ or_second (decides x.decision c) (is_decided [] c) f

pub decided_past : (nodes : List TreeNode) (i c : ℕ) → slice_get nodes i ≡ None → is_decided (cube_of nodes i) c ≡ false
decided_past nodes i c e = ap (λ (k : Cube). is_decided k c) (cube_past nodes i e)

-- ---- the edges of its sides, on the way up
edge_below : (p : Polygraph) (cube : Cube) (d : Option CubeDecision) (e : Edge) → has_edge (cube_edges p (cube_below cube d)) e ≡ (adds p d e || has_edge (cube_edges p cube) e)
unfolding cube_edges
edge_below p cube None e = refl
edge_below p cube (Some d) e = edge_append (side_in p d.choice d.side) (cube_edges p cube) e

no_edge : (p : Polygraph) (e : Edge) → has_edge (cube_edges p []) e ≡ false
unfolding cube_edges
no_edge p e = refl

edge_joined : (p : Polygraph) (nodes : List TreeNode) (i : ℕ) (x : TreeNode) (e : Edge) (above : Cube) → cube_of nodes i ≡ cube_below above x.decision → has_edge (cube_edges p (cube_of nodes i)) e ≡ (adds p x.decision e || has_edge (cube_edges p above) e)
edge_joined p nodes i x e above is = ap (λ (k : Cube). has_edge (cube_edges p k) e) is ∙ edge_below p above x.decision e

pub edge_here : (p : Polygraph) (nodes : List TreeNode) (i : ℕ) (x : TreeNode) (e : Edge) → slice_get nodes i ≡ Some x → adds p x.decision e ≡ true → (x.parent < i) ⊎ (i ≤ x.parent) → has_edge (cube_edges p (cube_of nodes i)) e ≡ true
edge_here p nodes i x e at t (inl lt) = edge_joined p nodes i x e (cube_of nodes x.parent) (cube_under nodes i x at lt) ∙ or_left (adds p x.decision e) (has_edge (cube_edges p (cube_of nodes x.parent)) e) t
edge_here p nodes i x e at t (inr le) = edge_joined p nodes i x e [] (cube_top nodes i x at le) ∙ or_left (adds p x.decision e) (has_edge (cube_edges p []) e) t

pub edge_up : (p : Polygraph) (nodes : List TreeNode) (i : ℕ) (x : TreeNode) (e : Edge) → slice_get nodes i ≡ Some x → adds p x.decision e ≡ false → x.parent < i → has_edge (cube_edges p (cube_of nodes i)) e ≡ has_edge (cube_edges p (cube_of nodes x.parent)) e
edge_up p nodes i x e at f lt = edge_joined p nodes i x e (cube_of nodes x.parent) (cube_under nodes i x at lt) ∙ or_second (adds p x.decision e) (has_edge (cube_edges p (cube_of nodes x.parent)) e) f

pub edge_top : (p : Polygraph) (nodes : List TreeNode) (i : ℕ) (x : TreeNode) (e : Edge) → slice_get nodes i ≡ Some x → adds p x.decision e ≡ false → i ≤ x.parent → has_edge (cube_edges p (cube_of nodes i)) e ≡ false
edge_top p nodes i x e at f le = edge_joined p nodes i x e [] (cube_top nodes i x at le) ∙ or_second (adds p x.decision e) (has_edge (cube_edges p []) e) f ∙ no_edge p e

pub edge_past : (p : Polygraph) (nodes : List TreeNode) (i : ℕ) (e : Edge) → slice_get nodes i ≡ None → has_edge (cube_edges p (cube_of nodes i)) e ≡ false
edge_past p nodes i e none = ap (λ (k : Cube). has_edge (cube_edges p k) e) (cube_past nodes i none) ∙ no_edge p e

-- ---- the edges of a cube
under_either : (p : Polygraph) (cube : Cube) (e : Edge) → has_edge (edges_under p cube) e ≡ (has_edge p.known e || has_edge (cube_edges p cube) e)
under_either p cube e = sym (under_is p cube e) ∙ edge_append p.known (cube_edges p cube) e

pub step_added : (p : Polygraph) (cube : Cube) (e : Edge) → has_edge p.known e ≡ false → has_edge (edges_under p cube) e ≡ has_edge (cube_edges p cube) e
step_added p cube e f = under_either p cube e ∙ or_second (has_edge p.known e) (has_edge (cube_edges p cube) e) f
