-- What the proofs of this crate name of other modules.
unfoldable pub use Rattle.known_graph.specs.Bits.{bit_of, row_len}
pub use Rattle.known_graph.specs.Graphs.{IsKnownGraph, arc_graph, IsBitGraph}
pub use Rattle.known_graph.specs.Groups.{IsGroup, IsSearch, work_left}
unfoldable pub use Rattle.known_graph.specs.Groups.{left_of, left_one}
pub use Rattle.known_graph.specs.Held.{IsMarked}
unfoldable pub use Rattle.known_graph.specs.Held.{bit_place, is_marked, marked_graph}
unfoldable pub use Rattle.known_graph.specs.Pairs.{all_pairs}
pub use Rattle.known_graph.specs.Tests.{has_edge, leads, is_line}
pub use Rattle.known_graph.specs.Tree.{reached_from, node_at, from_at, IsTree}
unfoldable pub use Rattle.known_graph.specs.Tree.{word_numbers, fresh_numbers}
pub use Rattle.known_graph.specs.declared.reached.Reached.{Reached}
pub use Rattle.list_lemmas.proofs.Bools.{same_bool, and_first}
unfoldable pub use Rattle.log_definitions.specs.Numbers.{log_of}
pub use Rattle.log_definitions.specs.Serial.{begun_of, ended_of}
pub use Rattle.reach_laws.specs.Reach.{Graph, Walk, IsWalk, Reaches, IsCyclic}
pub use Rattle.serializability.proofs.Places.{each_of_map, Has, Apart, Has-from_Contains, Contains-from_Has, Has-append_front, Has-append_back, Has-append_cases, Apart-from_IsDistinct, Apart-append}
pub use Rattle.serializability.proofs.Serial.{arc_cases, arc_from_zero, arc_from_read, arc_from_moments, source_within}
pub use Rattle.serializability.specs.Log.{Log, precedes}
pub use Rattle.serializability.specs.Polygraph.{Edge, arcs, is_arc, reads_from, source, all_keys}
pub use Rattle.std.proofs.Common.{◌≡◌, ◌⊎◌, ◌↔◌, ℕ, ◌+◌, ◌<◌, ◌≤◌, Bool, true, eqb, ◌||◌, List, length, get_or, take, refl, sym, ap, ◌∙◌, subst, inl, inr, arith, eq-eqb, ne_eqb, eqb-true, false, ◌≢◌, ◌-◌, ◌*◌, ◌/◌, ◌%◌, ◌&&◌, drop}
pub use Rattle.std.proofs.Common.{replicate, suc, [], ◌∷◌, ◌++◌, Option, Some, None, nat_lt, zero, ◌^◌, set, append_assoc, get_or-set_same, min, get_or-set_other, length-append, cond, rules, tests}
pub use Rattle.std.proofs.Math.Bool.{or-false}
pub use Rattle.std.proofs.Math.Nat.{mul_comm, mul_assoc}
pub use Rattle.std.proofs.lemmas.Bool.{cases_lt, or_cases, or_left, or_right, and_from, false≢true, and_parts, or_from, and_right, cases_eq, eqb-false, not-true, cond-true, cond-false, and_left, cases_Bool, lt-ltb, le-leb, leb-true}
pub use Rattle.std.proofs.lemmas.List.{get_or-take, get_or-drop, length-take-le, length-drop, length-replicate, map-append, reverse-append, get_or_read, append-nil, length-map, get_or_default, get_or_past, get_or-replicate, take_all}
pub use Rattle.std.proofs.lemmas.List.{take_at, length_push}
pub use Rattle.std.proofs.lemmas.List.Elements.{Contains-append_left, Contains-push, Contains-push_cases, filter-append, All-nil, All-same}
pub use Rattle.std.proofs.lemmas.List.Folds.{list_any_more, list_any_at, list_any-append}
pub use Rattle.std.proofs.lemmas.List.Sorted.{Contains-permutation, IsPermutation-sym, IsPartitionPoint-from_clause, IsPartitionedBy-ltb, IsNonDecreasingBy-from_sort_by_key}
pub use Rattle.std.proofs.lemmas.Nat.{div_below, same_from_place, mul-add-lt, le-div, mul-le, div-mul-add, mod-mul-add, and_le_l, div-add-mod', mod_below}
pub use Rattle.std.proofs.lemmas.Nat.Bits.{bit_at-zero, bit_at-lt, bit_at_and, bit_at_or, bit_at_not, bit_at-trailing_zeros, bit_at_clear_same, bit_at_clear_other, shr_and_one, bit_at_set_same, bit_at_set_other}
pub use Rattle.std.specs.Int.{bit_at, bit_not, trailing_zeros, w64}
pub use Rattle.std.specs.List.{Contains, filter, list_any, range_with_len, flat_map, filter_map, cons_option, AllByRecursion}
pub use Rattle.std.specs.Option.{option_map, option_map_or, MatchOption}
pub use Rattle.std.specs.Prelude.{not, bit_and, bit_or, max, reverse, map, ◌==◌, is_some}
