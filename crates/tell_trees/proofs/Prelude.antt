-- What the proofs of this crate name of other modules.
pub use Rattle.cube_laws.specs.Trees.{IsChild, IsRefutationTree, cube_below, cube_of}
pub use Rattle.cube_laws.specs.declared.tree.Growth.{Growth}
pub use Rattle.cube_laws.specs.declared.tree.Growth.TheVariants.{Leaf, Inner}
pub use Rattle.cube_laws.specs.declared.tree.TreeNode.{TreeNode}
pub use Rattle.list_lemmas.proofs.Elements.{same_item, some_at, behind}
pub use Rattle.log_definitions.specs.Numbers.{log_of}
pub use Rattle.prune_ledger.specs.declared.ledger.Ledger.{Ledger}
pub use Rattle.pruning_laws.specs.declared.side.Side.{Side}
pub use Rattle.pruning_laws.specs.declared.side.Side.TheVariants.{One, Two}
pub use Rattle.reasons.specs.Runs.{without_runs}
pub use Rattle.serializability.specs.Polygraph.{Polygraph, Choice, Edge}
pub use Rattle.session_log.specs.Text.{ClientSession}
pub use Rattle.std.proofs.Common.{◌≡◌, ℕ, zero, suc, ◌+◌, ◌-◌, ◌*◌, ◌^◌, ◌<◌, ◌≤◌, Bool, cond, eqb, List, [], ◌∷◌, length, map, min, Option, None, Some, refl, sym, ap, ◌∙◌, subst, inl, inr, arith, ◌++◌, get_or, append_assoc, true, false, ◌&&◌}
pub use Rattle.std.proofs.Common.{◌||◌, take, drop}
pub use Rattle.std.proofs.lemmas.List.{reverse-append, map-append, get_or_read}
pub use Rattle.std.proofs.lemmas.List.Elements.{All-push, All-pop, All-nil, All-cons, All-head, All-tail, All-from_recursion}
pub use Rattle.std.proofs.lemmas.Option.{same_Some, slice_get_within, slice_get-get_or, get_or_from_slice_get}
pub use Rattle.std.proofs.lemmas.Result.{IfOk-weaker}
pub use Rattle.std.specs.List.{All, sum_by, AllByRecursion, list_any, Contains}
pub use Rattle.std.specs.Option.{option_map_or, option_map}
pub use Rattle.std.specs.Prelude.{slice_get, is_some, count_by, reverse, slice_index, slice_index_or, Vec}
pub use Rattle.tell_reasons.specs.declared.why.ChainOrder.{ChainOrder}
pub use Rattle.tell_steps.specs.Ledgers.{AreEntries, kept_by}
pub use Rattle.tell_steps.specs.Rounds.{RoundView, round_view, RoundStands, AllStand}
pub use Rattle.tell_steps.specs.Steps.{IsOrder, edges_in, turned}
pub use Rattle.tell_steps.specs.declared.rounds.Round.{Round}
pub use Rattle.tell_trees.specs.Orders.{order_at, AreOrdersOf, names_choice, unsettled_from, no_order, sided, AreFlags}
pub use Rattle.tell_trees.specs.Trees.{told_leaves, leaves_round, AreVisits}
pub use Rattle.tell_trees.specs.Visits.{cycle_in, leaf_count, IsGrown, IsVisited, IsTreeOver, round_at}
pub use Rattle.tell_trees.specs.declared.visits.Waiting.{Waiting}
