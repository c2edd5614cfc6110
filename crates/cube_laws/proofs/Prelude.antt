-- What the proofs of this crate name of other modules.
pub use Rattle.cube_laws.specs.Cubes.{Cube, edges_under, is_decided}
pub use Rattle.cube_laws.specs.Runs.{SolvesRightly, EachSolvesRightly, is_closing, as_list, closings, is_solving, solves}
pub use Rattle.cube_laws.specs.State.{Node, State, root, opening_state}
pub use Rattle.cube_laws.specs.Steps.{is_open, is_solved, is_held, has_solved, has_live, is_finished, is_exhausted, node_held, is_cycle, is_solution, cube_at, child, solve_reply, is_held_by, last_open, is_open_at, can_split, claim_reply}
pub use Rattle.cube_laws.specs.Steps.{any_reply, split_reply, refute_reply, decides_all, lists_once, keeps_edges, is_choice, held_from, last_open_from, or_else, with_mark, closed_by, split_at, held_at, opened_at, claimed, taken, held_where}
pub use Rattle.cube_laws.specs.Steps.{split_where, refuted_where, solved_where}
unfoldable pub use Rattle.cube_laws.specs.Steps.{next_of, reply_of}
pub use Rattle.cube_laws.specs.declared.messages.CubeEvent.{CubeEvent}
pub use Rattle.cube_laws.specs.declared.messages.CubeEvent.TheVariants.{Claim, TakeAny, Refute, Solve, Release}
pub use Rattle.cube_laws.specs.declared.messages.CubeReply.{CubeReply}
pub use Rattle.cube_laws.specs.declared.messages.CubeReply.TheVariants.{Finished, NoCube, BadOrder, Children, Closed, Released, HasCube, NotOpen, NoneNow, BadChoice, BadCycle}
pub use Rattle.cube_laws.specs.declared.messages.CubeState.{CubeState}
pub use Rattle.cube_laws.specs.declared.messages.CubeState.TheVariants.{Open, Held, Split, Refuted, Solved}
pub use Rattle.desk.specs.History.{IsLegal, replay}
pub use Rattle.desk.specs.declared.history.Entry.{Entry}
pub use Rattle.list_lemmas.proofs.Elements.{get_put}
pub use Rattle.pruning_laws.specs.Ledger.{same_side, sides_in}
pub use Rattle.pruning_laws.specs.declared.side.Side.{Side}
pub use Rattle.pruning_laws.specs.declared.side.Side.TheVariants.{One, Two}
pub use Rattle.serializability.proofs.Listed.{IsDistinct-from_Apart, Has-from_any, any-from_Has, once_from, Apart_range}
pub use Rattle.serializability.proofs.Places.{Has, Apart, Has-append_cases, Apart-append, Has-split, Has-append_front, Has-append_back, each_of_append, each_from_append}
pub use Rattle.serializability.specs.Polygraph.{Choice, Polygraph, KeepsOne, Fits, Edge, Keeps}
pub use Rattle.std.proofs.Common.{◌≡◌, ◌⊎◌, ℕ, suc, ◌<◌, Bool, true, false, cond, ◌||◌, not, List, [], ◌∷◌, ◌++◌, length, Option, None, Some, refl, sym, ap, ◌∙◌, subst, inl, inr, ◌+◌, arith, length-append, zero, ◌-◌, ◌^◌, ◌≤◌, eqb, ◌&&◌}
pub use Rattle.std.proofs.Common.{append_assoc, ◌*◌, map, pow-suc}
pub use Rattle.std.proofs.lemmas.Bool.{false≢true, cases_eq, and_parts, not-true, or_cases, cases_lt, and_from, or_left, or_right, ltb-true, eqb-true, or_parts, eqb-false, eq-eqb, cases_Bool, cond-true, cond-false}
pub use Rattle.std.proofs.lemmas.List.{get_or_append_left, get_or_at, get_or_past}
pub use Rattle.std.proofs.lemmas.Option.{same_Some}
pub use Rattle.std.specs.List.{IsDistinct, list_any, AllByRecursion, list_all, range_with_len}
pub use Rattle.std.specs.Option.{option_map_or}
pub use Rattle.std.specs.Prelude.{slice_get, slice_set, slice_index, nat_eq, nat_lt, slice_index_or}
