-- What the proofs of this crate name of other modules.
pub use Rattle.chain_laws.specs.Chains.{heads, readers, tail, edges_to, is_head, chain_choice, chain_choices, next, chain_first, inner_at, inner_edges, initial_first, chain_polygraph}
pub use Rattle.known_graph.proofs.Listed.{In-filter, In-range, Contains-from_In, In, In-from_Contains}
pub use Rattle.list_lemmas.proofs.Elements.{contains_at, item, behind, mapped, same_item, get_drop}
pub use Rattle.log_definitions.specs.Numbers.{log_of}
pub use Rattle.prune_ledger.specs.Ledger.{side_of, kept_side, kept_after, edges_after, IsShown, AreShown}
pub use Rattle.prune_ledger.specs.Pruned.{posts_in}
pub use Rattle.reach_laws.proofs.Walks.{each_contained, Contains-here}
pub use Rattle.reach_laws.specs.Reach.{Walk, IsCycle}
pub use Rattle.reasons.specs.Given.{HaveNone, IsReason}
pub use Rattle.reasons.specs.Runs.{goes_on, without_runs}
pub use Rattle.serializability.proofs.Places.{each_from_range, each_from_map, each_from_flat_map, each_from_filter, each_from_append}
pub use Rattle.serializability.proofs.SoFar.{so_far, so_far_more}
pub use Rattle.serializability.specs.Log.{Log}
pub use Rattle.serializability.specs.Polygraph.{Edge, all_keys, committed, Choice, Polygraph, arcs, all_nodes}
pub use Rattle.session_log.specs.Text.{ClientSession}
pub use Rattle.std.proofs.Common.{◌≡◌, ◌≢◌, ℕ, ◌<◌, Some, List, length, get_or, refl, sym, ap, ◌∙◌, subst, ◌+◌, ◌≤◌, true, [], ◌∷◌, ◌++◌, arith, ◌⊎◌, zero, suc, ◌-◌, ◌&&◌, false, Option, None, inl, inr, lt-ltb, eq-eqb, eqb-true, append_assoc}
pub use Rattle.std.proofs.Common.{take, drop, rules, vec_len, add-one}
pub use Rattle.std.proofs.lemmas.Bool.{false≢true, or_parts, cases_lt, not_from_false, not-true, eqb-false}
pub use Rattle.std.proofs.lemmas.List.{map-append, length_push, append-nil, drop_more, drop_all, take_all, take_more, get_or_push, reverse-append, get_or_read}
pub use Rattle.std.proofs.lemmas.List.Elements.{All-contains, All-from_recursion, All-nil, All-cons, All-head, All-tail, Contains-append_left, Contains-push, Contains-append_cases, All-push}
pub use Rattle.std.proofs.lemmas.List.Folds.{list_any_at, list_any-append}
pub use Rattle.std.proofs.lemmas.Option.{slice_get-get_or, IfSome_then, same_Some}
pub use Rattle.std.proofs.lemmas.Result.{IfOk-weaker}
pub use Rattle.std.specs.List.{All, Contains, flat_map, AllByRecursion, remove, list_any}
pub use Rattle.std.specs.Prelude.{map, slice_get, ◌==◌, IfSome, unwrap_or, Vec, IfNone, reverse}
pub use Rattle.std.specs.declared.alloc.Global.{Global}
pub use Rattle.tell_proposals.specs.declared.proposal.Step.{Step}
pub use Rattle.tell_reasons.specs.declared.why.ChainOrder.{ChainOrder}
pub use Rattle.tell_reasons.specs.declared.why.Why.{Why}
pub use Rattle.tell_reasons.specs.declared.why.Why.TheVariants.{Known, Forced, Chosen}
pub use Rattle.tell_steps.specs.Ledgers.{orders_of, AreBuilt, AreEntries, kept_by, IsStep, IsClosed}
pub use Rattle.tell_steps.specs.Lines.{OneHas, Stands, LineStands, IsBetween, IsRound, HasEnds}
pub use Rattle.tell_steps.specs.Orders.{choice_of, order_to, orders_among, kept_of, kept_order, step_view, shown_by}
unfoldable pub use Rattle.tell_steps.specs.Orders.{orders_in}
pub use Rattle.tell_steps.specs.Rounds.{round_view, RoundStands, AllStand, IsLeafTold, AreRoundsTold, AreAllTold, is_naming, is_named, cycle_round, RoundView, IsTold, IsRoundPut}
pub use Rattle.tell_steps.specs.Steps.{edges_in, turned, IsOrder, IsWhy, IsLineTold, ends, goes, Follows}
pub use Rattle.tell_steps.specs.Told.{AreStepsTold, IsRoundTold, IsStepTold}
pub use Rattle.tell_steps.specs.declared.item.Item.{Item}
pub use Rattle.tell_steps.specs.declared.rounds.Round.{Round}
pub use Rattle.write_chains.specs.Views.{ChainView, chain_view, chain_from, chains_in}
