-- What the proofs of this crate name of other modules.
pub use Rattle.cube_laws.proofs.Nodes.{none-some, any_at, get_front, found_held, found_open, found_first, get_other}
pub use Rattle.cube_laws.specs.Cubes.{Cube, edges_under, is_decided}
pub use Rattle.cube_laws.specs.State.{Node, State, root}
pub use Rattle.cube_laws.specs.Steps.{with_mark, child, has_solved, has_live, is_finished, is_cycle, lists_once, keeps_edges, is_open, or_else, last_open_from, is_held, is_held_by, held_from, is_solved, cube_at, decides_all, is_solution}
pub use Rattle.cube_laws.specs.Steps.{can_split}
pub use Rattle.cube_laws.specs.declared.messages.CubeState.{CubeState}
pub use Rattle.cube_laws.specs.declared.messages.CubeState.TheVariants.{Open, Held, Refuted, Solved, Split}
pub use Rattle.cube_machine.specs.Cycles.{is_among, leads_by, is_cycle_by}
pub use Rattle.cube_machine.specs.Flags.{either, flag_of, flag_at, is_flagged}
unfoldable pub use Rattle.cube_machine.specs.Flags.{is_odd}
pub use Rattle.cube_machine.specs.Growth.{Growth}
pub use Rattle.cube_machine.specs.Kept.{IsAscending, HasMark, IsTree, is_closed}
unfoldable pub use Rattle.cube_machine.specs.Kept.{open_from}
pub use Rattle.cube_machine.specs.Noted.{AreOnce, IsNoted, AreNoted}
unfoldable pub use Rattle.cube_machine.specs.Noted.{IsOnce}
pub use Rattle.cube_machine.specs.Sides.{side_in, HasEdges}
unfoldable pub use Rattle.cube_machine.specs.Sides.{cube_edges}
pub use Rattle.cube_machine.specs.Ways.{cube_of, parent_of, cube_in, IsWay}
unfoldable pub use Rattle.cube_machine.specs.Ways.{cubes_after, nodes_with, nodes_of}
pub use Rattle.cube_machine.specs.declared.decided.Decided.{Decided}
pub use Rattle.cube_machine.specs.declared.decided.SideFlags.{SideFlags}
pub use Rattle.cube_machine.specs.declared.node.TreeNode.{TreeNode}
pub use Rattle.cube_machine.specs.declared.origin.Origin.{Origin}
pub use Rattle.desk.proofs.Tied.{get_set}
pub use Rattle.known_graph.proofs.Rows.{edge_append}
pub use Rattle.known_graph.proofs.Tested.{edge_in, has_contained}
pub use Rattle.known_graph.specs.Tests.{has_edge, leads}
pub use Rattle.list_lemmas.proofs.Bools.{same_bool, either_way}
pub use Rattle.list_lemmas.proofs.Elements.{get_put}
pub use Rattle.polygraph.specs.Places.{ArePlaces, AreKept}
pub use Rattle.pruning_laws.specs.Forced.{edges_of, Sides, kept_from}
pub use Rattle.pruning_laws.specs.Ledger.{same_side, sides_in}
pub use Rattle.pruning_laws.specs.declared.side.Side.{Side}
pub use Rattle.pruning_laws.specs.declared.side.Side.TheVariants.{One, Two}
pub use Rattle.reach_laws.specs.Reach.{Graph}
pub use Rattle.serializability.specs.Polygraph.{Edge, Choice, Polygraph}
pub use Rattle.serializability.specs.Replay.{place_of, ListsOnce}
pub use Rattle.side_edges.proofs.Listed.{kept_edge}
pub use Rattle.side_edges.specs.Listed.{HasSides}
pub use Rattle.side_edges.specs.declared.SideEdge.{SideEdge}
pub use Rattle.std.proofs.Common.{◌≡◌, ℕ, zero, suc, ◌+◌, ◌<◌, ◌≤◌, Bool, ◌||◌, List, [], ◌∷◌, ◌++◌, length, get_or, Option, None, Some, refl, sym, ap, ◌∙◌, arith, ◌⊎◌, ◌↔◌, true, false, eqb, ◌&&◌, take, subst, inl, inr, not, ◌*◌, Vec, Global}
pub use Rattle.std.proofs.Common.{drop, ◌-◌, cond, append_assoc, replicate}
pub use Rattle.std.proofs.Math.Bool.{or-false, or_assoc, and-or_distrib_right, or_comm}
pub use Rattle.std.proofs.lemmas.Bool.{false≢true, or_cases, or_left, or_right, eq-eqb, ne_eqb, eqb-true, or_parts, and_parts, eqb-false, cases_Bool, and_from, lt-ltb, ltb-true, cond-true, cond-false, cases_lt}
pub use Rattle.std.proofs.lemmas.List.{get_or_append_left, get_or_push, length_push, take_more, length-append, length-set}
pub use Rattle.std.proofs.lemmas.Option.{slice_get_within, slice_get-get_or, slice_get_past, same_Some, slice_get_read}
pub use Rattle.std.specs.List.{list_any, Contains, list_all, range_with_len, insert, remove}
pub use Rattle.std.specs.Option.{option_map_or}
pub use Rattle.std.specs.Prelude.{slice_get, slice_set, slice_index, nat_lt, is_some}
