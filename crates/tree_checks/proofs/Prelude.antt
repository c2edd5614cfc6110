-- What the proofs of this crate name of other modules.
pub use Rattle.cube_laws.proofs.Upward.{cube_under, cube_top, cube_past}
pub use Rattle.cube_laws.specs.Cubes.{is_decided, Cube, edges_under}
pub use Rattle.cube_laws.specs.Trees.{cube_below, cube_of, IsChild, IsSplit, IsBelow, IsRoot, IsRefutationTree}
pub use Rattle.cube_laws.specs.declared.tree.CubeDecision.{CubeDecision}
pub use Rattle.cube_laws.specs.declared.tree.TreeNode.{TreeNode}
pub use Rattle.cube_machine.specs.Sides.{side_in}
unfoldable pub use Rattle.cube_machine.specs.Sides.{cube_edges}
pub use Rattle.known_graph.specs.Tests.{has_edge, leads}
pub use Rattle.serializability.specs.Polygraph.{Choice, Polygraph, KeepsOne, Fits, Edge}
pub use Rattle.std.proofs.Common.{◌≡◌, ◌⊎◌, ℕ, zero, suc, ◌+◌, ◌<◌, ◌≤◌, Bool, true, false, cond, eqb, ◌&&◌, not, List, [], ◌∷◌, length, Option, Some, None, refl, sym, ap, ◌∙◌, subst, inl, inr, arith, ◌||◌, drop}
pub use Rattle.std.proofs.lemmas.Bool.{false≢true, and_parts, and_from, or_cases, or_left, or_right, not-true, ltb-true, lt-ltb, eqb-true, eq-eqb, ne_eqb, not_from_false, cases_lt}
pub use Rattle.std.specs.Prelude.{slice_get, nat_lt, is_none}
pub use Rattle.tree_checks.specs.Checks.{decides_side, is_child, has_child, is_below, is_root, is_grown, decides, adds}
unfoldable pub use Rattle.tree_checks.specs.Checks.{is_sound}
