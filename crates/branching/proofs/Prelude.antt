-- What the proofs of this crate name of other modules.
pub use Rattle.branching.specs.Bits.{IsNext, NoneFrom}
pub use Rattle.branching.specs.Held.{IsView, AreEdgesOf, view_of}
pub use Rattle.branching.specs.Marked.{AreIncoming, Keeps, IsOrReaches, MarksBehind, MarksTarget, MarksAll, AreMarked}
pub use Rattle.branching.specs.Markings.{AreKept, AreMarks, AreBlank, AreSaved, HaveRoom, HasBits, TakesSaved, AddsMarks, RemovesMark, IsUnmarked, HaveLists}
pub use Rattle.branching.specs.Opens.{open_past, is_open_at, AreBits}
pub use Rattle.branching.specs.Orders.{unreached, IsOrderByReach}
pub use Rattle.branching.specs.Picked.{Listed, best_listed, found_listed, better_is_some, most_is_open, least_is_open, forced_is_open, none_listed}
pub use Rattle.branching.specs.Picks.{size_of, edge_count, has_fewer, or_better, first_best, open_from, open_choices, has_more, most_edges, least_edges, word_at, by_words}
pub use Rattle.branching.specs.Refuted.{first_forced, forced_or_most, side_left, AreUnforced}
unfoldable pub use Rattle.branching.specs.Refuted.{reaches_below, reaches_in, is_refuted_in, is_forced_in}
pub use Rattle.branching.specs.View.{View, is_open_in, edges_in, depth_of, chosen, graph_in, opened, decided}
pub use Rattle.branching.specs.declared.order.Ranked.{Ranked}
pub use Rattle.known_graph.proofs.Listed.{In, In-from_Contains, Contains-from_In, In-append_cases}
pub use Rattle.known_graph.proofs.Tested.{edge_in, has_in, has_contained, line_of, known_is}
pub use Rattle.known_graph.proofs.Words.{bit_of-past, same_word, bit_there}
unfoldable pub use Rattle.known_graph.specs.Bits.{bit_of, row_len}
pub use Rattle.known_graph.specs.Tests.{has_edge, leads, is_line}
pub use Rattle.list_lemmas.proofs.Bools.{same_bool}
pub use Rattle.polygraph.specs.Polygraphs.{Joins, IsPolygraph}
pub use Rattle.prune_ledger.proofs.Edges.{added_step, Added}
pub use Rattle.prune_ledger.proofs.Marks.{contained_at, side_joins}
pub use Rattle.prune_ledger.proofs.Sides.{side_is, choice_of_edge, at_kept, known_with, side_with, with_cases}
pub use Rattle.prune_ledger.specs.Ledger.{side_of}
pub use Rattle.prune_ledger.specs.Pruned.{IsReduced}
pub use Rattle.prune_ledger.specs.Rounds.{Refutes, AddsEdges}
pub use Rattle.pruning_laws.proofs.Ledgers.{same_is, same_itself}
pub use Rattle.pruning_laws.specs.Forced.{edges_of, Sides, kept_from, IsRefuted, edges_with}
pub use Rattle.pruning_laws.specs.Ledger.{same_side, sides_in}
pub use Rattle.pruning_laws.specs.declared.side.Side.{Side}
pub use Rattle.pruning_laws.specs.declared.side.Side.TheVariants.{One, Two}
pub use Rattle.reach_laws.proofs.Walks.{Contains-here, Contains-further, each_contained, reach_joined, each_from_contained, reach_in}
pub use Rattle.reach_laws.specs.Reach.{Graph, Reaches, Walk, IsCycle, IsCyclic}
pub use Rattle.reach_rows.specs.ReachRows.{AreRowsOf}
pub use Rattle.serializability.proofs.Places.{Has, Has-from_Contains, Contains-from_Has, place_of-further, place_within}
pub use Rattle.serializability.proofs.Sources.{Has-from_range}
pub use Rattle.serializability.specs.Polygraph.{Choice, Edge, Polygraph}
pub use Rattle.serializability.specs.Replay.{place_of}
pub use Rattle.side_edges.proofs.Lists.{slice_get-set_same, slice_get-set_other}
pub use Rattle.side_edges.specs.declared.SideEdge.{SideEdge}
pub use Rattle.std.proofs.Common.{◌≡◌, ℕ, zero, suc, ◌<◌, ◌≤◌, List, [], ◌∷◌, length, map, drop, Option, Some, None, refl, arith, ◌≢◌, ◌⊎◌, ◌↔◌, ◌+◌, ◌/◌, true, not, eqb, ◌&&◌, ◌++◌, get_or, set, take, sym, ap, ◌∙◌, subst, inl, inr, Vec}
pub use Rattle.std.proofs.Common.{Global, eq-eqb, Bool, false, cond, ◌-◌, ◌*◌, ◌%◌, ◌^◌, min, ne_eqb, get_or-set_same, get_or-set_other, replicate, ◌||◌, rules}
pub use Rattle.std.proofs.lemmas.Bool.{le-ltb, cond-false, cases_eq, cases_Bool, false≢true, and_parts, and_from, or_cases, eqb-true, lt-ltb, ltb-true, ltb-false, cases_lt, cond-true, or_left, or_right, false_from_ne_true}
pub use Rattle.std.proofs.lemmas.List.{length-drop, take_more, get_or_past, drop-drop, length-set, length-replicate, get_or-map, length-map, map_push, nil_from_length, get_or-replicate, with_items_is, take_all}
pub use Rattle.std.proofs.lemmas.List.Sorted.{IsPermutation-map, length_permutation, Contains-permutation, IsNonDecreasingBy-from_sort_by_key, All-permutation}
pub use Rattle.std.proofs.lemmas.Option.{same_Some, slice_get-get_or, slice_get_past, slice_get_read}
pub use Rattle.std.specs.List.{Contains, list_any, filter, All, range_with_len, list_all, AllByRecursion, count_by}
pub use Rattle.std.specs.Option.{option_map_or, option_or}
pub use Rattle.std.specs.Prelude.{slice_index, slice_get, nat_lt, bit_and, is_some, is_none, IsSome, IfSome, MatchOption, ◌==◌, IfNone}
