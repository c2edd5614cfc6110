-- What the proofs of this crate name of other modules.
pub use Rattle.branch_search.specs.Answers.{IsSpent, IsReadFrom, EndsRun}
pub use Rattle.branch_search.specs.Growing.{bud, sprout, with_growth, closed_with, closed_where, held_after}
unfoldable pub use Rattle.branch_search.specs.Growing.{grown}
pub use Rattle.branch_search.specs.Requests.{split_in, request_after, IsAskedAfter, first_child}
pub use Rattle.branch_search.specs.Views.{place_in, kept_view, view_after, AreViews, AreLed, end_of}
pub use Rattle.branch_search.specs.declared.worker.Request.TheVariants.{Any}
pub use Rattle.branching.specs.View.{View, is_open_in, opened, decided}
pub use Rattle.cube_laws.proofs.Lists.{within, set_here, set_apart, append_left, append_cases, append_at, map_some, set_self, there, some_map, map_length, map_append, or_map, any_false}
pub use Rattle.cube_laws.specs.Cubes.{Cube, is_decided, edges_under}
pub use Rattle.cube_laws.specs.Runs.{solves, is_closing}
pub use Rattle.cube_laws.specs.State.{State, opening_state, Node}
pub use Rattle.cube_laws.specs.Steps.{is_cycle, has_solved, has_live, is_exhausted, is_open, is_held, is_solved, is_solution, is_finished, is_open_at, is_choice, can_split, node_held, last_open, cube_at, with_mark, claim_reply, any_reply}
pub use Rattle.cube_laws.specs.Steps.{split_reply, refute_reply, solve_reply, claimed, taken, held_where, split_where, refuted_where, solved_where, opened_at, held_at, closed_by, split_at, is_held_by, held_from, last_open_from}
unfoldable pub use Rattle.cube_laws.specs.Steps.{next_of, reply_of}
pub use Rattle.cube_laws.specs.Trees.{cube_below, cubes_after, cube_of, IsChild, IsSplit, IsBelow, IsRoot, IsRefutationTree}
pub use Rattle.cube_laws.specs.declared.messages.CubeEvent.{CubeEvent}
pub use Rattle.cube_laws.specs.declared.messages.CubeEvent.TheVariants.{Split, Release, Claim, TakeAny, Refute, Solve}
pub use Rattle.cube_laws.specs.declared.messages.CubeReply.{CubeReply}
pub use Rattle.cube_laws.specs.declared.messages.CubeReply.TheVariants.{Children, Finished, HasCube, NotOpen, NoneNow, NoCube, BadChoice, BadCycle, Closed, BadOrder, Released}
pub use Rattle.cube_laws.specs.declared.messages.CubeState.{CubeState}
pub use Rattle.cube_laws.specs.declared.messages.CubeState.TheVariants.{Open, Held, Refuted, Solved}
pub use Rattle.cube_laws.specs.declared.tree.CubeDecision.{CubeDecision}
pub use Rattle.cube_laws.specs.declared.tree.Growth.{Growth}
pub use Rattle.cube_laws.specs.declared.tree.Growth.TheVariants.{Leaf, Inner}
pub use Rattle.cube_laws.specs.declared.tree.TreeNode.{TreeNode}
pub use Rattle.desk.proofs.Numbered.{numbered_push, fresh_number, closes, numbered_as}
pub use Rattle.desk.proofs.Tied.{get_set}
pub use Rattle.desk.specs.History.{IsLegal, IsReached, replay}
pub use Rattle.desk.specs.declared.history.Entry.{Entry}
pub use Rattle.pruning_laws.specs.declared.side.Side.{Side}
pub use Rattle.pruning_laws.specs.declared.side.Side.TheVariants.{One, Two}
pub use Rattle.serializability.specs.Polygraph.{Polygraph}
pub use Rattle.std.proofs.Common.{◌≡◌, ℕ, zero, suc, ◌<◌, true, false, List, [], ◌∷◌, ◌++◌, length, Option, Some, IfSome, Result, Ok, Err, IfOk, refl, arith, ◌⊎◌, ◌+◌, None, sym, ap, ◌∙◌, subst, inl, inr, length-set, length-append, map}
pub use Rattle.std.proofs.Common.{append_assoc, Bool, ◌&&◌, not, ◌||◌, ◌≤◌, ◌==◌}
pub use Rattle.std.proofs.lemmas.Bool.{and_parts, not-true, ltb-true, ne_eqb, cases_eq, eq-eqb, false≢true}
pub use Rattle.std.proofs.lemmas.List.{get_or_append_left, map-set, get_or-set_same, get_or-set_other}
pub use Rattle.std.proofs.lemmas.Option.{same_Some}
pub use Rattle.std.proofs.lemmas.Result.{IfOk-weaker}
pub use Rattle.std.specs.List.{list_any, find, position_or_len, All}
pub use Rattle.std.specs.Option.{option_map_or, option_map}
pub use Rattle.std.specs.Prelude.{slice_get, is_none, slice_set, slice_index_or, if◌then◌else◌}
