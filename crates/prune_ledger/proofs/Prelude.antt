-- What the proofs of this crate name of other modules.
pub use Rattle.desk.proofs.Tied.{get_set}
pub use Rattle.desk.specs.History.{IsLegal, IsReached, replay}
pub use Rattle.known_graph.proofs.Listed.{In, In-from_Contains, Contains-from_In, In-append_left, In-append_right, In-append_cases, In-filter, In-of_filter, filter_same, In-pairs, In-of_pairs}
pub use Rattle.known_graph.proofs.Tested.{edge_in, has_in, walk_of}
pub use Rattle.known_graph.specs.Graphs.{IsKnownGraph}
pub use Rattle.known_graph.specs.Pairs.{all_pairs}
pub use Rattle.known_graph.specs.Tests.{has_edge, is_line}
pub use Rattle.list_lemmas.proofs.Bools.{same_bool}
pub use Rattle.polygraph.specs.Polygraphs.{Joins, JoinsBoth, IsPolygraph}
pub use Rattle.prune_ledger.specs.Entered.{entered_by, entered_in, AreRounds}
pub use Rattle.prune_ledger.specs.Ledger.{kept_after, edges_after, AreShown, side_of, kept_side, IsShown}
pub use Rattle.prune_ledger.specs.Opening.{opening_state, reopened_state, given_back, no_mark}
pub use Rattle.prune_ledger.specs.Posted.{Posted}
pub use Rattle.prune_ledger.specs.Pruned.{posts_in, kept_by, IsReduced, IsRemainder, IsProgress, IsGraphOf, unrefused, IsLast, AreOpen, AreSettled}
pub use Rattle.prune_ledger.specs.Rounds.{IsOpenIn, AddsEdges, Extends, Refutes, GoesAgainst, HasPost, EachHandled, Handled, PostedOf, Settled, Turned}
pub use Rattle.prune_ledger.specs.Runs.{IsWhole, posts_of, ledger_of, Grown, IsOpening, KeepsForced, EachKeepsForced}
pub use Rattle.prune_ledger.specs.State.{State}
pub use Rattle.prune_ledger.specs.Steps.{with_edges, refuses, is_refused, next_of, reply_of, refusing, is_free, free_from, side_at, is_choice, is_against, post_reply, is_entered, refused_mark, refused, hand_out, taken, posted}
unfoldable pub use Rattle.prune_ledger.specs.Steps.{listed}
pub use Rattle.prune_ledger.specs.contracts.machine.PruneMachine.{the_view}
pub use Rattle.prune_ledger.specs.declared.ledger.LedgerEntry.{LedgerEntry}
pub use Rattle.prune_ledger.specs.declared.messages.ChoiceState.{ChoiceState}
pub use Rattle.prune_ledger.specs.declared.messages.PruneEvent.{PruneEvent}
pub use Rattle.prune_ledger.specs.declared.messages.PruneEvent.TheVariants.{Take, Post, Pass, Release}
pub use Rattle.prune_ledger.specs.declared.messages.PruneReply.{PruneReply}
pub use Rattle.prune_ledger.specs.declared.messages.PruneReply.TheVariants.{Entered, AlreadyIn, BadWalk, Dead, Judge}
pub use Rattle.pruning_laws.proofs.Ledgers.{ledger_forced, ledger_dead, entries_in, same_is, same_itself}
pub use Rattle.pruning_laws.proofs.Pruned.{IsAt, numbered, numbered_and, fits_pruned, pruned_fits, other_other, none_fits}
pub use Rattle.pruning_laws.specs.Forced.{edges_of, other, Sides, IsRefuted, IsClosed, IsDead, open_from, pruned, EachNumbered, kept_from, edges_with}
pub use Rattle.pruning_laws.specs.Ledger.{Entry, sides_in, IsLedger, same_side}
pub use Rattle.pruning_laws.specs.declared.side.Side.{Side}
pub use Rattle.pruning_laws.specs.declared.side.Side.TheVariants.{One, Two}
pub use Rattle.reach_laws.proofs.Walks.{reach_joined, each_contained, Contains-here, Contains-further}
pub use Rattle.reach_laws.specs.Reach.{Graph, IsCyclic, IsCycle, Walk, Reaches, IsWalk}
pub use Rattle.reach_rows.specs.ReachRows.{AreRowsOf, AddsEdge}
pub use Rattle.serializability.specs.Polygraph.{Edge, Choice, Polygraph}
pub use Rattle.std.proofs.Common.{◌≡◌, ◌⊎◌, ◌↔◌, ℕ, ◌+◌, ◌<◌, ◌≤◌, List, [], ◌∷◌, ◌++◌, length, get_or, take, sym, ap, ◌∙◌, subst, inl, inr, zero, suc, Bool, true, false, cond, ◌||◌, Some, refl, arith, length-append, eqb, ◌&&◌, not, Option}
pub use Rattle.std.proofs.Common.{None, eqb-true, drop, eq-eqb, append_assoc, append-nil}
pub use Rattle.std.proofs.Math.Bool.{or_comm, and-false, or-true}
pub use Rattle.std.proofs.lemmas.Bool.{cases_Bool, false≢true, or_cases, and_parts, or_parts, or_right, not-true, cases_eq, or_left, and_from}
pub use Rattle.std.proofs.lemmas.List.{take_more, length-set, length-map, length-replicate, take_all}
pub use Rattle.std.proofs.lemmas.Option.{slice_get_within, same_Some, slice_get-get_or, slice_get_read}
pub use Rattle.std.specs.List.{Contains, filter, AllByRecursion}
pub use Rattle.std.specs.Option.{option_map_or}
pub use Rattle.std.specs.Prelude.{slice_get, IfSome, IsNone, map, slice_set, replicate, ◌==◌, slice_index_or, MatchOption, IfOk}
